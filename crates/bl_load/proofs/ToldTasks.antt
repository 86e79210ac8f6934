-- What the loader is told of its work.
use Rattle.std.specs.Prelude.{◌≡◌, ℕ, zero, suc, ◌-◌, Bool, true, false, List, [], ◌∷◌, option_map, All, IfSome, IsSomeAnd, Some, refl}
use Rattle.std.specs.declared.option.Option.{Option}
use Rattle.std.proofs.Common.{sym, ap, subst, ◌∙◌}
use Rattle.std.proofs.lemmas.Bool.{true≢false}
use Rattle.std.proofs.lemmas.List.Elements.{All-contains, All-head, All-tail}
use Rattle.bl_outside.specs.Folders.{Files}
use Rattle.bl_files.specs.Carried.{AreFeeds, EndsRefused}
use Rattle.bl_files.specs.Statuses.{is_open}
use Rattle.bl_files.specs.declared.feed.Feed.{Feed}
use Rattle.bl_files.specs.declared.feed_kind.FeedKind.{FeedKind}
use Rattle.bl_files.specs.declared.feed_kind.FeedKind.TheVariants.{Vertex, Edge, Refused}
use Rattle.bl_queue.specs.declared.job.Job.{Job}
use Rattle.bl_queue.specs.Jobs.{AreJobs, Kept, front_job}
use Rattle.bl_queue.specs.Runs.{goes_on_from}
use Rattle.bl_queue.proofs.ChangedJobs.{front_in}
use Rattle.bl_queue.proofs.Starts.{feeds_fit, older}
use Rattle.bl_world.specs.Worlds.{IsFirstOpen}
use Rattle.bl_world.specs.Works.{Placed, task_on, work_of}
use Rattle.bl_world.specs.declared.work.Work.{Work}
use Rattle.bl_world.specs.declared.work.Work.TheVariants.{Idle, Plan, Continue}
use Rattle.bl_world.proofs.NextWorks.{GoesOn, IsToPlan, continue_is, plan_is}
use Rattle.bl_world.proofs.OpenFiles.{first_found}
use Rattle.bl_world.proofs.SureWorlds.{have_jobs}
use Rattle.bl_chain.specs.Tables.{is_unread}
use Rattle.bl_load.specs.Prepares.{IsForFile, IsForPlan, IsForWork}
use Rattle.bl_load.specs.PreparedTurns.{TasksAreTasks}
use Rattle.bl_load.specs.Tasks.{HasParts}
use Rattle.bl_load.specs.declared.prepared.Prepared.{Prepared}

-- ---- a file that is open is read

pub first_of : (P : Feed → Type 0) (feeds : List Feed) (place : ℕ) (of : Feed) → All P feeds → IsFirstOpen feeds place of → P of
first_of P [] place of all first = absurd first
first_of P (f ∷ feeds) zero of all first = subst P first.1 (All-head P f feeds all)
first_of P (f ∷ feeds) (suc place) of all first = first_of P feeds place of (All-tail P f feeds all) first.1

first_is_open : (feeds : List Feed) (place : ℕ) (of : Feed) → IsFirstOpen feeds place of → is_open of.status ≡ true
first_is_open [] place of first = absurd first
first_is_open (f ∷ feeds) zero of first = ap (λ (x : Feed). is_open x.status) (sym first.1) ∙ first.0
first_is_open (f ∷ feeds) (suc place) of first = first_is_open feeds place of first.1

open_is_read : (is : FeedKind) (feed : Feed) → EndsRefused is feed → is_open feed.status ≡ true → is_unread is ≡ false
open_is_read Vertex feed ends still = refl
open_is_read Edge feed ends still = refl
open_is_read (Refused code column) feed ends still = absurd (true≢false (sym still ∙ ap is_open ends.0))

-- ---- the task has what its work needs

module _ (kept : Kept) (are : AreJobs kept) where
  plan_parts : (job previous : ℕ) (no_previous : Bool) → IsToPlan kept.jobs job previous no_previous → HasParts (Plan job previous no_previous) (task_on kept.jobs (Plan job previous no_previous) (front_job kept.jobs))
  plan_parts job previous no_previous is =
      subst (λ o. HasParts (Plan job previous no_previous) (task_on kept.jobs (Plan job previous no_previous) o)) (sym is.front)
      (refl, (feeds_fit job (goes_on_from kept.jobs job) (older kept are job)).0, refl)

  file_parts : (job place from : ℕ) → GoesOn kept.jobs job place from → HasParts (Continue job place from) (task_on kept.jobs (Continue job place from) (front_job kept.jobs))
  file_parts job place from goes =
      let fit : AreFeeds goes.it.feeds = All-contains (λ it. AreFeeds it.feeds) kept.jobs goes.it are.feeds (front_in kept.jobs goes.it goes.next.0).0 in
      let ends : EndsRefused goes.of.kind goes.of = first_of (λ f. EndsRefused f.kind f) goes.it.feeds (place - 1) goes.of fit.refused goes.next.3 in
      let read : is_unread goes.of.kind ≡ false = open_is_read goes.of.kind goes.of ends (first_is_open goes.it.feeds (place - 1) goes.of goes.next.3) in
      subst (λ o. HasParts (Continue job place from) (task_on kept.jobs (Continue job place from) o)) (sym goes.next.0)
      (refl, subst (λ (o : Option Placed). IsSomeAnd (option_map (λ (next : Placed). next.feed) o) (λ of. (of.taken ≡ from) × (is_unread of.kind ≡ false))) (sym (first_found 1 goes.it.feeds (place - 1) goes.of goes.next.3)) (sym goes.from_is, read))

pub tasks_are : TasksAreTasks
tasks_are entries world is = by (work_of world.kept.jobs) refl where
  are : AreJobs world.kept
  are = have_jobs entries world is

  by : (w : Work) → work_of world.kept.jobs ≡ w → HasParts (task_on world.kept.jobs w (front_job world.kept.jobs)).work (task_on world.kept.jobs w (front_job world.kept.jobs))
  by Idle is = tt
  by (Plan job previous no_previous) is = plan_parts world.kept are job previous no_previous (plan_is world.kept.jobs job previous no_previous is)
  by (Continue job place from) is = file_parts world.kept are job place from (continue_is world.kept.jobs job place from is)

-- ---- what is prepared for it

pub for_plan : (files : Files) (jobs : List Job) (job previous : ℕ) (no_previous : Bool) (prepared : Prepared) (is : IsToPlan jobs job previous no_previous) → IsForWork files (task_on jobs (Plan job previous no_previous) (front_job jobs)) (Plan job previous no_previous) prepared
    → IsForPlan files (task_on jobs (Plan job previous no_previous) (Some is.it)) is.it.request prepared
for_plan files jobs job previous no_previous prepared is h = subst (λ o. IsForWork files (task_on jobs (Plan job previous no_previous) o) (Plan job previous no_previous) prepared) is.front h

pub for_file : (files : Files) (jobs : List Job) (job place from : ℕ) (prepared : Prepared) (goes : GoesOn jobs job place from) → IsForWork files (task_on jobs (Continue job place from) (front_job jobs)) (Continue job place from) prepared
    → IsForFile files goes.it.request.source goes.of prepared
for_file files jobs job place from prepared goes h =
    subst (λ (o : Option Placed). IfSome (option_map (λ (next : Placed). next.feed) o) (λ of. IsForFile files goes.it.request.source of prepared)) (first_found 1 goes.it.feeds (place - 1) goes.of goes.next.3)
    (subst (λ o. IsForWork files (task_on jobs (Continue job place from) o) (Continue job place from) prepared) goes.next.0 h)
