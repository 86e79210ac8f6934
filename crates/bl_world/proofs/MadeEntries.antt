-- The entries that calls make may follow.
use Rattle.std.specs.Prelude.{◌≡◌, ◌↔◌, ℕ, ◌==◌, Bool, true, false, cond, List, [], ◌∷◌, refl, Contains, IsSomeAnd, Some, None}
use Rattle.std.specs.declared.option.Option.{Option}
use Rattle.std.specs.Option.{option_or}
use Rattle.std.proofs.Common.{sym, ap, subst, ◌∙◌, inl, inr}
use Rattle.std.proofs.lemmas.Bool.{eq-eqb, true≢false}
use Rattle.bl_files.proofs.Members.{first_member, later_member}
use Rattle.bl_files.specs.declared.feed.Feed.{Feed}
use Rattle.bl_files.specs.declared.feed_end.FeedEnd.{FeedEnd}
use Rattle.bl_files.specs.declared.feed_end.FeedEnd.TheVariants as ends
use Rattle.bl_files.specs.declared.load_request.LoadRequest.{LoadRequest}
use Rattle.bl_files.specs.declared.plan_result.PlanResult.{PlanResult}
use Rattle.bl_files.specs.declared.plan_result.PlanResult.TheVariants as plan
use Rattle.bl_files.specs.Plans.{HasNames}
use Rattle.bl_entry.specs.Valid.{IsEnd}
use Rattle.bl_queue.specs.declared.check_refusal.CheckRefusal.{CheckRefusal}
use Rattle.bl_queue.specs.declared.check_refusal.CheckRefusal.TheVariants.{NumbersUsedUp}
use Rattle.bl_queue.specs.declared.job.Job.{Job}
use Rattle.bl_queue.specs.declared.job_status.JobStatus.TheVariants.{NotStarted}
use Rattle.bl_queue.specs.Checks.{busy, full, refusal, too_many, unknown, used_up}
use Rattle.bl_queue.specs.Jobs.{AreJobs, Kept, front_job, is_unended, job_of, job_with_id}
use Rattle.bl_queue.specs.Runs.{MayCancel}
use Rattle.bl_queue.proofs.ChangedJobs.{found_at, some_is}
use Rattle.bl_world.specs.declared.work.Work.{Work}
use Rattle.bl_world.specs.declared.work.Work.TheVariants.{Idle, Plan, Continue}
use Rattle.bl_world.specs.Makings.{FitsPlan, HasTooMany, IsOnFeed, IsRecordedAs, IsUnstopped}
use Rattle.bl_world.specs.Works.{work_of}
use Rattle.bl_world.specs.Worlds.{AreNext, ArePlanned, FitsEnd, FitsStart, MayStop, lacks_previous}
use Rattle.bl_world.proofs.BegunWorlds.{plan_names}
use Rattle.bl_world.proofs.NextWorks.{GoesOn, IsToPlan, continue_is, plan_is, plan_rests}

-- ---- a load is taken on

or_none : (a b : Option CheckRefusal) → option_or a b ≡ None → b ≡ None
or_none None b h = h
or_none (Some x) b h = absurd (cc)

used_by : (b : Bool) → cond b (Some NumbersUsedUp) None ≡ None → b ≡ false
used_by true h = absurd (cc)
used_by false h = refl

-- there is a number for it
pub numbers_left : (kept : Kept) (request : LoadRequest) → refusal kept request ≡ None → kept.last ≡ 4294967295 → ⊥
numbers_left kept request none last =
    let rest : used_up kept.last ≡ None =
    or_none (full kept.jobs) (used_up kept.last)
    (or_none (busy kept.jobs request) (option_or (full kept.jobs) (used_up kept.last))
    (or_none (unknown kept.jobs request) (option_or (busy kept.jobs request) (option_or (full kept.jobs) (used_up kept.last)))
    (or_none (too_many request) (option_or (unknown kept.jobs request) (option_or (busy kept.jobs request) (option_or (full kept.jobs) (used_up kept.last)))) none))) in
    true≢false (sym (eq-eqb kept.last 4294967295 last) ∙ used_by (kept.last == 4294967295) rest)

-- ---- a job is cancelled

id_in : (id : ℕ) (jobs : List Job) (it : Job) → job_with_id id jobs ≡ Some it → Contains jobs it
id_in id [] it h = absurd (cc)
id_in id (job ∷ jobs) it h = by (job.id == id) h (id_in id jobs it) where
  by : (b : Bool) → cond b (Some job) (job_with_id id jobs) ≡ Some it → (job_with_id id jobs ≡ Some it → Contains jobs it) → Contains (job ∷ jobs) it
  by true h rest = subst (λ (j : Job). Contains (job ∷ jobs) j) (some_is job it h) (first_member job jobs)
  by false h rest = later_member job jobs it (rest h)

pub may_cancel : (kept : Kept) → AreJobs kept → (id : ℕ) (it : Job) → job_with_id id kept.jobs ≡ Some it → IsSomeAnd (job_with_id id kept.jobs) (λ j. is_unended j ≡ true) → MayCancel kept.jobs it.number
may_cancel kept are id it is unended =
    let there : Contains kept.jobs it = id_in id kept.jobs it is in
    let found : job_of it.number kept.jobs ≡ Some it = found_at it.number kept.jobs are.rising there.0 it there.1 (ap (λ (j : Job). j.number) there.2) ∙ ap Some there.2 in
    subst (λ (o : Option Job). IsSomeAnd o (λ j. is_unended j ≡ true)) (is ∙ sym found) unended

-- ---- a job is planned

-- what a plan that is handed in is
pub record IsPlanned (kept : Kept) (job : ℕ) (planned : PlanResult) : Type 0 where
  pub it : Job
  pub front : front_job kept.jobs ≡ Some it
  pub number : it.number ≡ job
  pub rests : it.status ≡ NotStarted
  pub are : ArePlanned planned
  pub none : (planned ≡ plan.NoPrevious) ↔ (lacks_previous kept.jobs it ≡ true)

pub planned_is : (kept : Kept) → AreJobs kept → (job : ℕ) (planned : PlanResult) → FitsPlan (work_of kept.jobs) job planned → IsPlanned kept job planned
planned_is kept are job planned h = by (work_of kept.jobs) refl h where
  by : (work : Work) → work_of kept.jobs ≡ work → FitsPlan work job planned → IsPlanned kept job planned
  by Idle is h = absurd h
  by (Continue number feed from) is h = absurd h
  by (Plan number previous no_previous) is h =
      let to : IsToPlan kept.jobs number previous no_previous = plan_is kept.jobs number previous no_previous is in
      record { it = to.it; front = to.front; number = to.number ∙ h.0; rests = plan_rests kept are to.it to.front to.waits; are = h.1; none = (λ e. to.lacks ∙ h.2.0 e, λ e. h.2.1 (sym to.lacks ∙ e)) }

pub planned_names : (kept : Kept) (job : ℕ) (planned : PlanResult) → IsPlanned kept job planned → HasNames planned
planned_names kept job planned is = plan_names planned is.are.0

pub plan_fits : (kept : Kept) (job : ℕ) (planned recorded : PlanResult) → IsPlanned kept job planned → IsRecordedAs kept.jobs job planned recorded → FitsStart kept job recorded
plan_fits kept job planned recorded is (inl same) =
    subst (FitsStart kept job) (sym same.1) (record { it = is.it; front = is.front; number_is = is.number; rests = is.rests; planned_is = is.are; none = is.none; room = same.0 })
plan_fits kept job planned recorded is (inr many) = subst (FitsStart kept job) (sym many.2) (by planned is many.1) where
  by : (p : PlanResult) → IsPlanned kept job p → HasTooMany kept.jobs job p many.0 → FitsStart kept job (plan.TooManyFiles many.0)
  by (plan.Feeds found) is more =
      record { it = is.it; front = is.front; number_is = is.number; rests = is.rests; planned_is = (tt, tt); none = (λ e. absurd (cc), λ e. absurd (let s = is.none.1 e in cc)); room = tt }
  by plan.NoPrevious is more = absurd more
  by plan.SourceNotFound is more = absurd more
  by plan.ListFault is more = absurd more
  by (plan.TooManyFiles n) is more = absurd more

-- ---- a file ends

may_stop : (it : Job) (of : Feed) (how : FeedEnd) → IsUnstopped how → MayStop it of how
may_stop it of ends.Completed h = tt
may_stop it of (ends.Stopped log) h = absurd h
may_stop it of ends.ReadError h = tt
may_stop it of ends.Modified h = tt

pub valid_end : (how : FeedEnd) → IsUnstopped how → IsEnd how
valid_end ends.Completed h = tt
valid_end (ends.Stopped log) h = absurd h
valid_end ends.ReadError h = tt
valid_end ends.Modified h = tt

pub end_fits : (kept : Kept) (job feed : ℕ) (how : FeedEnd) → IsOnFeed (work_of kept.jobs) job feed → IsUnstopped how → FitsEnd kept job feed how
end_fits kept job feed how on end = by (work_of kept.jobs) refl on where
  by : (work : Work) → work_of kept.jobs ≡ work → IsOnFeed work job feed → FitsEnd kept job feed how
  by Idle is h = absurd h
  by (Plan number previous no_previous) is h = absurd h
  by (Continue number place from) is h =
      let goes : GoesOn kept.jobs number place from = continue_is kept.jobs number place from is in
      let next : AreNext kept.jobs job feed goes.it goes.of = subst (λ n. AreNext kept.jobs n feed goes.it goes.of) h.0 (subst (λ p. AreNext kept.jobs number p goes.it goes.of) h.1 goes.next) in
      record { it = goes.it; of = goes.of; next = next; stops = may_stop goes.it goes.of how end }
