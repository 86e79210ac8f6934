-- What holds of a load in a world, more than what is promised of it.
use Rattle.std.specs.Prelude.{◌≡◌, ◌≢◌, ℕ, ◌-◌, ◌≤◌, true, false, List, [], ◌∷◌, ◌++◌, length, drop, refl, Contains, Some}
use Rattle.std.specs.List.{flat_map}
use Rattle.std.proofs.Common.{sym, ap, subst, ◌∙◌, arith}
use Rattle.std.proofs.lemmas.List.{append-nil, drop-append-le}
use Rattle.std.proofs.lemmas.List.Concat.{flat_map-append}
use Rattle.std.proofs.lemmas.Bool.{true≢false}
use Rattle.bl_value.specs.declared.change.Change.{Change}
use Rattle.bl_graph.specs.Replay.{after}
use Rattle.bl_queue.specs.declared.job.Job.{Job}
use Rattle.bl_queue.specs.Statuses.{is_in_progress, is_to_start}
use Rattle.bl_queue.specs.Jobs.{AreJobs, front_job}
use Rattle.bl_queue.proofs.ChangedJobs.{front_in}
use Rattle.bl_queue.specs.Changes.{IsChanged}
use Rattle.bl_queue.specs.Rows.{fed_job}
use Rattle.bl_queue.proofs.SettledLaws.{changed_so}
use Rattle.bl_outside.specs.declared.digest.Digest.{Digest}
use Rattle.bl_files.specs.declared.log.Log.{Log}
use Rattle.bl_entry.specs.declared.entry.Entry.{Entry}
use Rattle.bl_entry.specs.declared.entry.Entry.TheVariants.{Batch}
use Rattle.bl_world.specs.Worlds.{Follows, IsNext, World, changes_of, commit_of, job_number, moment_of}
use Rattle.bl_world.specs.declared.job_commit.JobCommit.{JobCommit}
use Rattle.bl_chain.specs.Chains.{Chain, Stands, changes_behind, loaded_by}
use Rattle.bl_chain.specs.Stops.{IsDefined}
use Rattle.bl_chain.specs.Tables.{Table, any_unread}
use Rattle.bl_chain.proofs.FedLoads.{AreFed, AreRun, Done, Front, NoneDone}
use Rattle.bl_chain.proofs.KeptJobs.{IsSameRun}

-- a step from a world whose jobs are as they always are
pub record SureStep (before : World) (entry : Entry) (world : World) : Type 0 where
  pub are : AreJobs before.kept
  pub later : AreJobs world.kept
  pub follows : Follows before entry
  pub next : IsNext before entry world

-- the rows that are taken change their job, and no other
pub taken_changed : (before world : World) (moment number place from rows : ℕ) (digest : Digest) (duplicates : ℕ) (logs : List Log) (changes : List Change)
    → SureStep before (Batch moment number place from rows digest duplicates logs changes) world → IsChanged moment number (fed_job moment (place - 1) rows digest duplicates logs) before.kept world.kept
taken_changed before world moment number place from rows digest duplicates logs changes step =
    changed_so moment number (fed_job moment (place - 1) rows digest duplicates logs) before.kept world.kept step.later step.next.kept

-- what holds of the job where it is kept
pub record JobHolds (tables : List Table) (chain : Chain) (it : Job) : Type 0 where
  pub request : it.request ≡ chain.request
  pub fed : AreFed tables (loaded_by tables chain) chain.rows it.feeds
  pub run : is_in_progress it.status ≡ true → AreRun tables it.feeds
  pub started : is_to_start it.status ≡ false
  pub ran : 1 ≤ it.run
  -- a load that stops at errors doesn't run beside a file that isn't read
  pub calm : is_in_progress it.status ≡ true → chain.request.fail_on_error ≡ true → any_unread tables ≡ false
  -- its files end in their order
  pub front : is_in_progress it.status ≡ true → Front tables it.feeds
  pub done : Done tables it.feeds
  pub shut : chain.request.fail_on_error ≡ true → any_unread tables ≡ true → NoneDone tables it.feeds

pub record Holds (tables : List Table) (world : World) (job : ℕ) (chain : Chain) : Type 0 where
  pub graph : world.graph ≡ (loaded_by tables chain).graph
  pub changes : changes_behind chain.commits world.commits ≡ (loaded_by tables chain).changes
  pub behind : chain.commits ≤ length world.commits
  pub known : job ≤ world.kept.last
  pub defined : IsDefined chain.request chain.graph tables chain.rows
  pub each : (it : Job) → Contains world.kept.jobs it → it.number ≡ job → JobHolds tables chain it

pub holds_stands : (tables : List Table) (world : World) (job : ℕ) (chain : Chain) → Holds tables world job chain → Stands tables world job chain
holds_stands tables world job chain h = record { graph = h.graph; changes = h.changes; defined = h.defined; feeds = λ it there same. (h.each it there same).fed.counted }

pub same_holds : (tables : List Table) (chain : Chain) (old new : Job) → IsSameRun old new → JobHolds tables chain old → JobHolds tables chain new
same_holds tables chain old new same h = record {
  request = same.request ∙ h.request;
  fed = subst (λ feeds. AreFed tables (loaded_by tables chain) chain.rows feeds) (sym same.feeds) h.fed;
  run = λ runs. subst (λ feeds. AreRun tables feeds) (sym same.feeds) (h.run (same.runs runs));
  started = same.started h.started;
  ran = subst (λ n. 1 ≤ n) (sym same.run) h.ran;
  calm = λ runs fail. h.calm (same.runs runs) fail;
  front = λ runs. subst (λ feeds. Front tables feeds) (sym same.feeds) (h.front (same.runs runs));
  done = subst (λ feeds. Done tables feeds) (sym same.feeds) h.done;
  shut = λ fail unread. subst (λ feeds. NoneDone tables feeds) (sym same.feeds) (h.shut fail unread);
}

-- ---- the commits

commit_changes : (job moment : ℕ) (changes : List Change) → flat_map (λ (c : JobCommit). c.changes) (commit_of job moment changes) ≡ changes
commit_changes job moment [] = refl
commit_changes job moment (change ∷ changes) = append-nil (change ∷ changes)

pub changes_more : (before job moment : ℕ) (commits : List JobCommit) (changes : List Change) → before ≤ length commits → changes_behind before (commits ++ commit_of job moment changes) ≡ changes_behind before commits ++ changes
changes_more before job moment commits changes h =
    ap (λ l. flat_map (λ (c : JobCommit). c.changes) l) (drop-append-le before commits (commit_of job moment changes) h)
    ∙ flat_map-append (λ (c : JobCommit). c.changes) (drop before commits) (commit_of job moment changes)
    ∙ ap (λ l. changes_behind before commits ++ l) (commit_changes job moment changes)

-- ---- an entry that commits nothing

pub no_commit : (before world : World) (entry : Entry) → IsNext before entry world → changes_of entry ≡ [] → (world.graph ≡ before.graph) × (world.commits ≡ before.commits)
no_commit before world entry next none = (
  next.graph ∙ ap (λ l. after before.graph l) none,
  next.commits ∙ ap (λ l. before.commits ++ commit_of (job_number entry) (moment_of entry) l) none ∙ append-nil before.commits,
)

pub quiet : (tables : List Table) (before world : World) (entry : Entry) (job : ℕ) (chain : Chain) → Holds tables before job chain → IsNext before entry world → changes_of entry ≡ [] → before.kept.last ≤ world.kept.last
    → ((it : Job) → Contains world.kept.jobs it → it.number ≡ job → JobHolds tables chain it) → Holds tables world job chain
quiet tables before world entry job chain h next none last each =
    let same = no_commit before world entry next none in
    record {
      graph = same.0 ∙ h.graph;
      changes = ap (λ l. changes_behind chain.commits l) same.1 ∙ h.changes;
      behind = subst (λ l. chain.commits ≤ length l) (sym same.1) h.behind;
      known = (let k : job ≤ before.kept.last = h.known in omega arith);
      defined = h.defined;
      each = each;
    }

-- a load that has started isn't started
pub starts_other : (tables : List Table) (before : World) (job number : ℕ) (chain : Chain) → Holds tables before job chain → (it : Job) → front_job before.kept.jobs ≡ Some it → it.number ≡ number → is_to_start it.status ≡ true → number ≢ job
starts_other tables before job number chain h it front same rests e =
    true≢false (sym rests ∙ (h.each it (front_in before.kept.jobs it front).0 (same ∙ e)).started)
