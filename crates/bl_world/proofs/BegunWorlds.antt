-- An entry that may follow, its parts, and the world after it.
use Rattle.std.specs.Prelude.{◌≡◌, ℕ, ◌+◌, ◌-◌, ◌<◌, ◌^◌, true, ◌++◌, length, refl, IsSomeAnd, Some, None}
use Rattle.std.specs.declared.option.Option.{Option}
use Rattle.std.proofs.Common.{sym, ap, subst, ◌∙◌}
use Rattle.bl_files.specs.declared.plan_result.PlanResult.{PlanResult}
use Rattle.bl_files.specs.declared.plan_result.PlanResult.TheVariants as plan
use Rattle.bl_files.specs.Plans.{HasFileCodes, HasNames, HasRisingNames}
use Rattle.bl_files.specs.Statuses.{is_open}
use Rattle.bl_graph.specs.Replay.{fit}
use Rattle.bl_queue.specs.declared.job.Job.{Job}
use Rattle.bl_queue.specs.Checks.{refusal}
use Rattle.bl_queue.specs.Jobs.{Kept, front_job, number_in}
use Rattle.bl_queue.specs.Rows.{MayTakeRows}
use Rattle.bl_queue.specs.Runs.{HasRoom, MayCancel, MayEndFeed, MayStart}
use Rattle.bl_entry.specs.declared.entry.Entry.{Entry}
use Rattle.bl_entry.specs.declared.entry.Entry.TheVariants.{Submit, Cancel, Start, Batch, FeedEnd as End}
use Rattle.bl_world.specs.Following.{FitsJobs, IsOneMore}
use Rattle.bl_world.specs.Worlds.{Fits, IsBegun, IsKeptAfter, Step, World, changes_of, commit_of, job_number, moment_of}
use Rattle.bl_world.proofs.RisingNames.{rising_names}
use Rattle.bl_world.proofs.SureWorlds.{first_get}

-- ---- the rule of an entry's kind, and that its changes fit

pub fits_both : (world : World) (entry : Entry) → FitsJobs world.kept entry → fit world.graph (changes_of entry) ≡ true → Fits world entry
fits_both world (Submit moment job id request) jobs changes = jobs
fits_both world (Cancel moment job) jobs changes = jobs
fits_both world (Start moment job planned) jobs changes = jobs
fits_both world (Batch moment job feed from rows digest duplicates logs given) jobs changes =
    record { it = jobs.it; of = jobs.of; next = jobs.next; from_is = jobs.file.from_is; some = jobs.file.counted.some; few = jobs.file.counted.few; room = jobs.file.counted.room; among = jobs.file.counted.among; codes = jobs.file.told.codes; rise = jobs.file.told.rise; within = jobs.file.told.within; none = jobs.file.none; fit = changes }
fits_both world (End moment job feed how) jobs changes = jobs

pub fits_jobs : (world : World) (entry : Entry) → Fits world entry → FitsJobs world.kept entry
fits_jobs world (Submit moment job id request) fits = fits
fits_jobs world (Cancel moment job) fits = fits
fits_jobs world (Start moment job planned) fits = fits
fits_jobs world (Batch moment job feed from rows digest duplicates logs given) fits =
    record { it = fits.it; of = fits.of; next = fits.next; file = record { from_is = fits.from_is; counted = record { some = fits.some; few = fits.few; room = fits.room; among = fits.among }; told = record { codes = fits.codes; rise = fits.rise; within = fits.within }; none = fits.none } }
fits_jobs world (End moment job feed how) fits = fits

pub fits_changes : (world : World) (entry : Entry) → Fits world entry → fit world.graph (changes_of entry) ≡ true
fits_changes world (Submit moment job id request) fits = refl
fits_changes world (Cancel moment job) fits = refl
fits_changes world (Start moment job planned) fits = refl
fits_changes world (Batch moment job feed from rows digest duplicates logs given) fits = fits.fit
fits_changes world (End moment job feed how) fits = refl

-- ---- what the calls on the kept jobs ask

pub plan_names : (planned : PlanResult) → HasRisingNames planned → HasNames planned
plan_names (plan.Feeds found) rise = rising_names found rise
plan_names plan.NoPrevious rise = tt
plan_names plan.SourceNotFound rise = tt
plan_names plan.ListFault rise = tt
plan_names (plan.TooManyFiles n) rise = tt

front_and : (o : Option Job) (it : Job) (P : Job → Type 0) → o ≡ Some it → P it → IsSomeAnd o P
front_and o it P is h = subst (λ (x : Option Job). IsSomeAnd x P) (sym is) h

-- what a start asks
pub record AsksStart (kept : Kept) (job : ℕ) (planned : PlanResult) : Type 0 where
  pub may : MayStart kept.jobs job
  pub names : HasNames planned
  pub codes : HasFileCodes planned
  pub files : HasRoom kept.jobs job planned

abbrev pub Asks : Kept → Entry → Type 0
Asks kept (Submit moment job id request) = (refusal kept request ≡ None) × (number_in id ≡ kept.last + 1)
Asks kept (Cancel moment job) = MayCancel kept.jobs job
Asks kept (Start moment job planned) = AsksStart kept job planned
Asks kept (Batch moment job feed from rows digest duplicates logs changes) = MayTakeRows kept.jobs job feed rows duplicates (length logs)
Asks kept (End moment job feed how) = MayEndFeed kept.jobs job feed

asks : (world : World) (entry : Entry) → Fits world entry → Asks world.kept entry
asks world (Submit moment job id request) fits = (fits.2, fits.1 ∙ fits.0)
asks world (Cancel moment job) fits = fits
asks world (Start moment job planned) fits =
    record { may = front_and (front_job world.kept.jobs) fits.it _ fits.front (fits.number_is, fits.rests); names = plan_names planned fits.planned_is.0; codes = fits.planned_is.1; files = fits.room }
asks world (Batch moment job feed from rows digest duplicates logs changes) fits =
    record {
      number = fits.next.2;
      front = front_and (front_job world.kept.jobs) fits.it _ fits.next.0 (fits.next.1, first_get fits.it.feeds (feed - 1) fits.of (λ f. (is_open f.status ≡ true) × (f.taken + rows < 2 ^ 48)) fits.next.3 (λ still. (still, subst (λ t. t + rows < 2 ^ 48) fits.from_is fits.room)));
      few = fits.among;
    }
asks world (End moment job feed how) fits =
    record {
      number = fits.next.2;
      front = front_and (front_job world.kept.jobs) fits.it _ fits.next.0 (fits.next.1, first_get fits.it.feeds (feed - 1) fits.of (λ f. is_open f.status ≡ true) fits.next.3 (λ still. still));
    }

pub begun_asks : (before begun : World) (entry : Entry) → IsBegun before entry begun → Asks begun.kept entry
begun_asks before begun entry is = subst (λ (k : Kept). Asks k entry) (sym (ap (λ (w : World). w.kept) is.1)) (asks before entry is.0.fits)

-- ---- the world after it

pub step_of : (before begun new : World) (entry : Entry) → IsBegun before entry begun → IsOneMore (moment_of entry) (commit_of (job_number entry) (moment_of entry) (changes_of entry)) begun new → IsKeptAfter entry begun.kept new.kept → Step before entry new
step_of before begun new entry is more kept = record {
  follows = is.0;
  next = record {
    entries = more.entries ∙ ap (λ (w : World). w.entries + 1) is.1;
    moment = more.moment;
    kept = subst (λ (k : Kept). IsKeptAfter entry k new.kept) (ap (λ (w : World). w.kept) is.1) kept;
    graph = more.graph ∙ ap (λ (w : World). w.graph) is.1;
    commits = more.commits ∙ ap (λ (w : World). w.commits ++ commit_of (job_number entry) (moment_of entry) (changes_of entry)) is.1;
  };
}
