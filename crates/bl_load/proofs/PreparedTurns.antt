-- What is prepared for a task becomes the entry of a turn.
use Rattle.std.specs.Prelude.{◌≡◌, ℕ, Bool, true, false, List, Some, refl}
use Rattle.std.specs.List.{All}
use Rattle.std.specs.Str.{IsUtf8}
use Rattle.std.proofs.Common.{sym, subst, inl, inr}
use Rattle.std.proofs.lemmas.Bool.{true≢false}
use Rattle.bl_outside.specs.Folders.{Files}
use Rattle.bl_files.specs.declared.feed_end.FeedEnd.TheVariants as end
use Rattle.bl_files.specs.declared.plan_result.PlanResult.TheVariants as plan
use Rattle.bl_queue.specs.Jobs.{front_job}
use Rattle.bl_queue.specs.Runs.{feeds_of, goes_on_from}
use Rattle.bl_entry.specs.Valid.{IsEntry}
use Rattle.bl_entry.specs.declared.entry.Entry.{Entry}
use Rattle.bl_entry.specs.declared.entry.Entry.TheVariants.{Start}
use Rattle.bl_world.specs.Makings.{PlanEntry, next_moment}
use Rattle.bl_world.specs.Worlds.{IsWorldOf, World}
use Rattle.bl_world.specs.Works.{task_of, task_on, work_of}
use Rattle.bl_world.specs.declared.work.Work.{Work}
use Rattle.bl_world.specs.declared.work.Work.TheVariants as work
use Rattle.bl_world.proofs.NextWorks.{GoesOn, IsToPlan, continue_is, plan_is}
use Rattle.bl_chain.specs.Folders.{AreTablesOf}
use Rattle.bl_chain.specs.MadeEntries.{IsMade}
use Rattle.bl_chain.specs.NextEntries.{IsFileTurn, IsFoundPlan, IsPlanTurn, IsTurn}
use Rattle.bl_chain.proofs.OneFolder.{folders}
use Rattle.bl_chain.proofs.TurnEntries.{turn_made}
use Rattle.bl_load.specs.Committing.{PreparedEntry}
use Rattle.bl_load.specs.Prepares.{IsForFile, IsForPlan, IsForWork, Prepares, is_fault}
use Rattle.bl_load.specs.PreparedTurns.{PreparedAreMade, PreparedAreTurns, TasksAreTasks}
use Rattle.bl_load.specs.declared.prepared.Prepared.{Prepared}
use Rattle.bl_load.specs.declared.prepared.Prepared.TheVariants.{Nothing, Plan, Rows, End}
use Rattle.bl_load.proofs.NamedFeeds.{next_named}
use Rattle.bl_load.proofs.PlannedTables.{plan_found}
use Rattle.bl_load.proofs.ToldFiles.{end_decided, rows_next}
use Rattle.bl_load.proofs.ToldTasks.{for_file, for_plan, tasks_are}

pub tasks_are_tasks : TasksAreTasks
tasks_are_tasks = tasks_are

-- where nothing is to be done no entry is made
no_entry : {P : Type 0} (prepared : Prepared) (now : ℕ) (before : World) (entry : Entry) → PreparedEntry work.Idle prepared now before entry → P
no_entry Nothing now before entry made = absurd made
no_entry (Plan planned) now before entry made = absurd made
no_entry (Rows rows) now before entry made = absurd made
no_entry (End how) now before entry made = absurd made

module _ (files : Files) (before : World) (now : ℕ) (entry : Entry) where
  -- ---- the folder didn't fail

  plan_turn : (job previous : ℕ) (no_previous : Bool) (is : IsToPlan before.kept.jobs job previous no_previous) (prepared : Prepared) → is_fault prepared ≡ false
      → IsForPlan files (task_on before.kept.jobs (work.Plan job previous no_previous) (Some is.it)) is.it.request prepared
      → PreparedEntry (work.Plan job previous no_previous) prepared now before entry → IsPlanTurn (AreTablesOf files) before now entry
  plan_turn job previous no_previous is Nothing sound h made = absurd h
  plan_turn job previous no_previous is (Rows rows) sound h made = absurd h
  plan_turn job previous no_previous is (End how) sound h made = absurd h
  plan_turn job previous no_previous is (Plan planned) sound h made =
      let found : IsFoundPlan (AreTablesOf files) is.it.request.source no_previous (feeds_of (goes_on_from before.kept.jobs job)) planned =
      plan_found files is.it.request.source no_previous (feeds_of (goes_on_from before.kept.jobs job)) planned sound h in (
        is.it,
        is.front,
        is.waits,
        planned,
        subst (λ b. IsFoundPlan (AreTablesOf files) is.it.request.source b (feeds_of (goes_on_from before.kept.jobs is.it.number)) planned) (sym is.lacks)
            (subst (λ n. IsFoundPlan (AreTablesOf files) is.it.request.source no_previous (feeds_of (goes_on_from before.kept.jobs n)) planned) (sym is.number) found),
        subst (λ n. PlanEntry n planned now before entry) (sym is.number) made,
      )

  file_turn : (job place from : ℕ) (goes : GoesOn before.kept.jobs job place from) → IsUtf8 goes.of.name → (prepared : Prepared) → is_fault prepared ≡ false → IsForFile files goes.it.request.source goes.of prepared
      → PreparedEntry (work.Continue job place from) prepared now before entry → IsFileTurn (AreTablesOf files) before now entry
  file_turn job place from goes text Nothing sound h made = absurd h
  file_turn job place from goes text (Plan planned) sound h made = absurd h
  file_turn job place from goes text (Rows rows) sound h made =
      let next = rows_next files goes.it.request.source goes.of rows h in
      (job, place, goes.it, goes.of, goes.next, inr (next.0, next.1, rows, next.2, made))
  file_turn job place from goes text (End how) sound h made =
      (job, place, goes.it, goes.of, goes.next, inl (how, end_decided files goes.it.request.source goes.of text how sound h, made))

  -- ---- it failed

  list_fault : (job previous : ℕ) (no_previous : Bool) → PreparedEntry (work.Plan job previous no_previous) (Plan plan.ListFault) now before entry → IsMade (AreTablesOf files) before entry
  list_fault job previous no_previous made = subst (λ e. IsMade (AreTablesOf files) before e) (sym made.2) (elim made.1 [
    | inl same ↦ subst (λ p. IsMade (AreTablesOf files) before (Start (next_moment now before) job p)) (sym same.1) (λ it front. tt)
    | inr many ↦ absurd many.1
  ])

  read_fault : (job place from : ℕ) → PreparedEntry (work.Continue job place from) (End end.ReadError) now before entry → IsMade (AreTablesOf files) before entry
  read_fault job place from made = subst (λ e. IsMade (AreTablesOf files) before e) (sym made) (λ it feed next tables told. tt)

  faults : (w : Work) (prepared : Prepared) → is_fault prepared ≡ true → PreparedEntry w prepared now before entry → IsMade (AreTablesOf files) before entry
  faults w Nothing fault made = absurd made
  faults w (Rows rows) fault made = absurd (true≢false (sym fault))
  faults w (Plan plan.NoPrevious) fault made = absurd (true≢false (sym fault))
  faults w (Plan plan.SourceNotFound) fault made = absurd (true≢false (sym fault))
  faults w (Plan (plan.TooManyFiles number)) fault made = absurd (true≢false (sym fault))
  faults w (Plan (plan.Feeds found)) fault made = absurd (true≢false (sym fault))
  faults work.Idle (Plan plan.ListFault) fault made = absurd made
  faults (work.Plan job previous no_previous) (Plan plan.ListFault) fault made = list_fault job previous no_previous made
  faults (work.Continue job place from) (Plan plan.ListFault) fault made = absurd made
  faults w (End end.Completed) fault made = absurd (true≢false (sym fault))
  faults w (End end.Modified) fault made = absurd (true≢false (sym fault))
  faults w (End (end.Stopped log)) fault made = absurd (true≢false (sym fault))
  faults work.Idle (End end.ReadError) fault made = absurd made
  faults (work.Plan job previous no_previous) (End end.ReadError) fault made = absurd made
  faults (work.Continue job place from) (End end.ReadError) fault made = read_fault job place from made

-- Where the folder didn't fail, the entry of what is prepared for the task of a world is that of a
-- turn. The entries are valid, and so the names of its files are texts.
pub prepared_are_turns : PreparedAreTurns
prepared_are_turns files entries before now prepared entry valid is prepares sound made = by (work_of before.kept.jobs) refl prepares made where
  by : (w : Work) → work_of before.kept.jobs ≡ w → IsForWork files (task_on before.kept.jobs w (front_job before.kept.jobs)) (task_on before.kept.jobs w (front_job before.kept.jobs)).work prepared → PreparedEntry w prepared now before entry
      → IsTurn (AreTablesOf files) before now entry
  by work.Idle next h made = no_entry prepared now before entry made
  by (work.Plan job previous no_previous) next h made =
      let it : IsToPlan before.kept.jobs job previous no_previous = plan_is before.kept.jobs job previous no_previous next in
      inl (plan_turn files before now entry job previous no_previous it prepared sound (for_plan files before.kept.jobs job previous no_previous prepared it h) made)
  by (work.Continue job place from) next h made =
      let goes : GoesOn before.kept.jobs job place from = continue_is before.kept.jobs job place from next in
      let text : IsUtf8 goes.of.name = next_named entries before valid is job place goes.it goes.of goes.next in
      inr (file_turn files before now entry job place from goes text prepared sound (for_file files before.kept.jobs job place from prepared goes h) made)

-- Whatever the folder did, it is made over the files.
pub prepared_are_made : PreparedAreMade
prepared_are_made files entries before now prepared entry valid is prepares made = by (is_fault prepared) refl where
  by : (b : Bool) → is_fault prepared ≡ b → IsMade (AreTablesOf files) before entry
  by true fault = faults files before now entry (work_of before.kept.jobs) prepared fault made
  by false sound = turn_made (AreTablesOf files) (folders files) before now entry (prepared_are_turns files entries before now prepared entry valid is prepares sound made)
