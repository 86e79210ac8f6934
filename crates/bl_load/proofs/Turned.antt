-- What a turn does: it looks for the next work, and commits what was prepared for it.
use Rattle.std.proofs.Common.{◌≡◌, ◌≢◌, ◌⊎◌, inl, inr, ⊎_elim, ℕ, ◌+◌, ◌<◌, ◌≤◌, ◌^◌, Bool, true, false, List, None, Some, Ok, Err, IfOk, OnOk, IsErrOf, option_map, refl, sym, ◌∙◌, ap, subst, arith}
use Rattle.std.specs.Prelude.{Result}
use Rattle.std.specs.declared.option.Option.{Option}
use Rattle.std.specs.List.{All}
use Rattle.std.proofs.lemmas.Bool.{true≢false}
use Rattle.bl_outside.specs.declared.disk.Disk.{Ghosts}
use Rattle.bl_outside.specs.Folders.{Files}
use Rattle.bl_entry.specs.declared.entry.Entry.{Entry}
use Rattle.bl_entry.specs.Valid.{IsEntry}
use Rattle.bl_world.specs.Worlds.{IsWorldOf, World}
use Rattle.bl_world.specs.Works.{task_of, task_on, work_of}
use Rattle.bl_world.specs.States.{IsIdle, State}
use Rattle.bl_world.specs.declared.task.Task.{Task}
use Rattle.bl_world.specs.declared.work.Work.{Work}
use Rattle.bl_world.specs.declared.work.Work.TheVariants as work
use Rattle.bl_world.proofs.NextWorks.{idle_front}
use Rattle.bl_world.proofs.SureWorlds.{have_jobs}
use Rattle.bl_queue.specs.declared.job.Job.{Job}
use Rattle.bl_queue.specs.Jobs.{front_job}
use Rattle.bl_chain.specs.Folders.{AreTablesOf}
use Rattle.bl_chain.specs.MadeEntries.{IsMade}
use Rattle.bl_chain.specs.NextEntries.{IsTurn}
use Rattle.bl_files.specs.declared.feed_end.FeedEnd.TheVariants as end
use Rattle.bl_files.specs.declared.plan_result.PlanResult.TheVariants as plan
use Rattle.bl_engine.specs.declared.refusals.Trouble.{Trouble}
use Rattle.bl_engine.specs.declared.refusals.Trouble.TheVariants as trouble
use Rattle.bl_engine.specs.declared.turned.Turned.{Turned}
use Rattle.bl_engine.specs.declared.turned.Turned.TheVariants.{Ended, Idle, Planned, Rows}
use Rattle.bl_engine.specs.Attempts.{Attempts, HasNoRoom, Makes}
use Rattle.bl_engine.specs.Calls.{Commits, Drains, Handles, Looks, Settled}
use Rattle.bl_engine.specs.Engines.{Stays, View}
use Rattle.bl_engine.specs.Findings.{Tells}
use Rattle.bl_engine.specs.Outcomes.{Done, Full, Outcome, Refused, Stopped}
use Rattle.bl_engine.proofs.Composed.{attempts_after, attempts_more}
use Rattle.bl_engine.proofs.Drained.{drains_breaks, drains_commits, drains_none, drains_settled, drains_still}
use Rattle.bl_load.specs.declared.prepared.Prepared.{Prepared}
use Rattle.bl_load.specs.declared.prepared.Prepared.TheVariants.{Nothing, Plan, End, Rows as rows_of}
use Rattle.bl_load.specs.declared.turn_fault.TurnFault.{TurnFault}
use Rattle.bl_load.specs.declared.turn_fault.TurnFault.TheVariants as fault
use Rattle.bl_load.specs.Committing.{In, IsNothing, PreparedEntry}
use Rattle.bl_load.specs.Prepares.{MayCommit, Prepares, is_fault}
use Rattle.bl_load.specs.SameJobs.{HasSameJobs}
use Rattle.bl_load.specs.TurnFaults.{fault_from, fault_outcome, told_trouble, trouble_of}
use Rattle.bl_load.specs.Turns.{CountsUp, DrainsAnyhow, DrainsOver, IsOfFault, IsOneMore, MayTurn, TurnsBy, TurnsTo}
use Rattle.bl_load.proofs.Committed.{not_idle, nothing_or, tells_made}
use Rattle.bl_load.proofs.PreparedTurns.{prepared_are_made, prepared_are_turns}
use Rattle.bl_load.proofs.SameJobs.{same_jobs}

-- ---- the work

task_work : (jobs : List Job) (next : Work) (it : Option Job) → (task_on jobs next it).work ≡ next
task_work jobs work.Idle it = refl
task_work jobs (work.Plan job previous no_previous) it = refl
task_work jobs (work.Continue job feed from) it = refl

work_is : (jobs : List Job) → work_of jobs ≡ (task_of jobs).work
work_is jobs = sym (task_work jobs (work_of jobs) (front_job jobs))

pub next_is : (jobs : List Job) (task : Task) → task ≡ task_of jobs → work_of jobs ≡ task.work
next_is jobs task is = work_is jobs ∙ ap (λ (t : Task). t.work) (sym is)

-- ---- faults

pub told_from : (what : Trouble) → told_trouble (fault_from what) ≡ Some what
told_from trouble.StoreFault = refl
told_from (trouble.BadStore place) = refl
told_from trouble.NoMemory = refl

pub no_fault : {P : Type 0} (b : Bool) → (b ≡ true → P) → ¬ P → b ≡ false
no_fault true rose not = absurd (not (rose refl))
no_fault false rose not = refl

not_refused : {P : Type 0} → Refused ≡ Done → P
not_refused is = cc

not_full : {P : Type 0} → Full ≡ Done → P
not_full is = cc

not_stopped : {P : Type 0} (what : Trouble) → Stopped what ≡ Done → P
not_stopped what is = cc

-- What is prepared where the folder failed becomes an entry that tells so.
of_fault : (next : Work) (prepared : Prepared) (now : ℕ) (world : World) (entry : Entry) → is_fault prepared ≡ true → PreparedEntry next prepared now world entry → IsOfFault entry
of_fault next Nothing now world entry is made = absurd made
of_fault next (rows_of rows) now world entry is made = absurd (true≢false (sym is))
of_fault (work.Plan job previous no_previous) (Plan plan.ListFault) now world entry is made = subst IsOfFault (sym made.2) (⊎_elim (λ kept. kept.1) (λ many. absurd many.1) made.1)
of_fault work.Idle (Plan plan.ListFault) now world entry is made = absurd made
of_fault (work.Continue job feed from) (Plan plan.ListFault) now world entry is made = absurd made
of_fault next (Plan (plan.Feeds found)) now world entry is made = absurd (true≢false (sym is))
of_fault next (Plan plan.NoPrevious) now world entry is made = absurd (true≢false (sym is))
of_fault next (Plan plan.SourceNotFound) now world entry is made = absurd (true≢false (sym is))
of_fault next (Plan (plan.TooManyFiles number)) now world entry is made = absurd (true≢false (sym is))
of_fault work.Idle (End end.ReadError) now world entry is made = absurd made
of_fault (work.Plan job previous no_previous) (End end.ReadError) now world entry is made = absurd made
of_fault (work.Continue job feed from) (End end.ReadError) now world entry is made = subst IsOfFault (sym made) refl
of_fault next (End end.Completed) now world entry is made = absurd (true≢false (sym is))
of_fault next (End end.Modified) now world entry is made = absurd (true≢false (sym is))
of_fault next (End (end.Stopped log)) now world entry is made = absurd (true≢false (sym is))

-- ---- a look

module _ {D : Type 0} (of : Ghosts D) (only : (disk : D) (c : List ℕ) → of.left_since disk (of.moment disk) c → of.may_leave disk c) (makes : World → Entry → Type 0) (old new : View D) where
  -- it leads from a state to one that it settles, or to the same
  pub drains_looked : (trouble : Option Trouble) → Looks of old new trouble → (s : State) → Stays of old s → Drains of makes old new s
  drains_looked trouble looks s stays = by new.ready refl where
    d : Drains of makes old old s
    d = drains_none of makes only old s stays

    by : (b : Bool) → new.ready ≡ b → Drains of makes old new s
    by true is = drains_settled of makes old old new s d looks.handles.left looks.handles.right (λ world. world ≡ new.world) (looks.settled is d.to d.stays)
    by false is = drains_still of makes old old new s d looks.handles.left looks.handles.right ((looks.closed is).2 d.to d.stays)

  -- a call that appends leads to one in which what it makes may stand or be pending
  pub drains_attempted : (outcome : Outcome) → Attempts of makes old new outcome → (s : State) → Stays of old s → Drains of makes old new s
  drains_attempted outcome a s stays = by outcome refl where
    d : Drains of makes old old s
    d = drains_none of makes only old s stays

    breaks : ¬ (outcome ≡ Done) → Drains of makes old new s
    breaks isnt = drains_breaks of makes old old new s d a.handles.left a.handles.right makes (λ world entry made. made) (a.breaks isnt d.to d.stays)

    by : (o : Outcome) → outcome ≡ o → Drains of makes old new s
    by Done is = drains_commits of makes old old new s d a.handles.left a.handles.right makes (λ world entry made. made) (a.commits is d.to d.stays)
    by Refused is = breaks (λ done. not_refused (sym is ∙ done))
    by Full is = breaks (λ done. not_full (sym is ∙ done))
    by (Stopped what) is = breaks (λ done. not_stopped what (sym is ∙ done))

-- ---- a look, and then a commit

module _ {D : Type 0} (of : Ghosts D) (old mid : View D) (looks : Looks of old mid None) (ready : mid.ready ≡ true) where
  -- the entries of the state to which it leads: they are valid, and the engine's world is theirs
  pub entries_at : (s : State) → Stays of old s → (entries : List Entry) × All IsEntry entries × IsWorldOf entries mid.world
  entries_at s stays =
      let t = looks.settled ready s stays in
      ⊎_elim (λ at. (t.0.kept, at.0.valid, at.0.world)) (λ closed. absurd (true≢false (sym ready ∙ closed.closed))) t.2.stays

module _ {D : Type 0} (of : Ghosts D) (next : Work) (prepared : Prepared) (now : ℕ) (old mid new : View D) (looks : Looks of old mid None) (ready : mid.ready ≡ true) (is_next : work_of mid.world.kept.jobs ≡ next) where
  abbrev Made : World → Entry → Type 0
  Made = PreparedEntry next prepared now

  abbrev Told : Result Turned TurnFault → World → Entry → Type 0
  Told r = In mid.world (Tells Made r)

  -- ---- what is made

  module _ (files : Files) (entries : List Entry) (valid : All IsEntry entries) (leads : IsWorldOf entries mid.world) (prepares : Prepares files (task_of mid.world.kept.jobs) prepared) where
    made_here : (r : Result Turned TurnFault) (world : World) (entry : Entry) → Told r world entry → PreparedEntry (work_of mid.world.kept.jobs) prepared now mid.world entry
    made_here r world entry made =
        subst (λ w. PreparedEntry w prepared now mid.world entry) (sym is_next) (subst (λ w. PreparedEntry next prepared now w entry) made.0 (tells_made Made r world entry made.1))

    is_made : (r : Result Turned TurnFault) (world : World) (entry : Entry) → Told r world entry → IsMade (AreTablesOf files) world entry
    is_made r world entry made = subst (λ w. IsMade (AreTablesOf files) w entry) (sym made.0) (prepared_are_made files entries mid.world now prepared entry valid leads prepares (made_here r world entry made))

    is_turn : is_fault prepared ≡ false → (told : Turned) (world : World) (entry : Entry) → Told (Ok told) world entry → TurnsBy files now told world entry
    is_turn fault told world entry made = (
      subst (λ w. IsTurn (AreTablesOf files) w now entry) (sym made.0) (prepared_are_turns files entries mid.world now prepared entry valid leads prepares fault (made_here (Ok told) world entry made)),
      made.1.1,
    )

    may_turn : (r : Result Turned TurnFault) (world : World) (entry : Entry) → Told r world entry → MayTurn files world entry
    may_turn r world entry made = by (is_fault prepared) refl where
      by : (b : Bool) → is_fault prepared ≡ b → MayTurn files world entry
      by true is = inr (of_fault (work_of mid.world.kept.jobs) prepared now mid.world entry is (made_here r world entry made))
      by false is = inl (now, subst (λ w. IsTurn (AreTablesOf files) w now entry) (sym made.0) (prepared_are_turns files entries mid.world now prepared entry valid leads prepares is (made_here r world entry made)))

    pub has_no_room : (r : Result Turned TurnFault) → (¬ (IsNothing prepared) → Attempts of (Told r) mid new (fault_outcome r)) → (IsNothing prepared → ¬ (IsErrOf r fault.JournalFull))
        → (s : State) → Stays of old s → IsErrOf r fault.JournalFull → HasNoRoom of (MayTurn files) s new.journal
    has_no_room r attempts room s stays is = ⊎_elim
        (λ none. absurd (room none is))
        (λ some. (attempts_more of (Told r) (MayTurn files) old new (fault_outcome r) (may_turn r) (attempts_after of (Told r) old mid new looks ready (fault_outcome r) (attempts some))).no_room (ap (λ (x : Result Turned TurnFault). fault_outcome x) is) s stays)
        (nothing_or prepared)

    -- ---- the state

    turns_by : (s : State) (told : Turned) → told ≢ Idle → Commits of (TurnsBy files now told) old new s → TurnsTo of files now old new s told
    turns_by s Idle isnt c = absurd (isnt refl)
    turns_by s Planned isnt c = c
    turns_by s (Rows n) isnt c = c
    turns_by s (Ended status) isnt c = c

    made_turn : is_fault prepared ≡ false → (told : Turned) → Attempts of (Told (Ok told)) mid new Done → (s : State) → Stays of old s → TurnsTo of files now old new s told
    made_turn fault told a s stays =
        let all = attempts_after of (Told (Ok told)) old mid new looks ready Done a in
        let c = all.commits refl s stays in
        let made = c.1.3.made in
        turns_by s told (λ idle. not_idle next prepared now c.1.3.before c.1.1 made.1.0 (sym made.1.1 ∙ idle))
        ((attempts_more of (Told (Ok told)) (TurnsBy files now told) old new Done (is_turn fault told) all).commits refl s stays)

    rests_idle : next ≡ work.Idle → (s : State) → Stays of old s → Settled of IsIdle old mid s
    rests_idle idle s stays =
        let t = looks.settled ready s stays in
        let front = idle_front mid.world.kept (have_jobs entries mid.world leads) (is_next ∙ idle) in
        (t.0, (t.1.0, t.1.1, t.1.2, t.1.3, subst IsIdle (sym t.1.4) (ap (λ o. option_map (λ (job : Job). job.number) o) front), t.1.5), t.2)

    pub turns_to : (r : Result Turned TurnFault) → is_fault prepared ≡ false → (¬ (IsNothing prepared) → Attempts of (Told r) mid new (fault_outcome r)) → (IsNothing prepared → new ≡ mid) → (IsNothing prepared → IfOk r (λ told. told ≡ Idle)) → MayCommit next prepared
        → (s : State) → Stays of old s → IfOk r (TurnsTo of files now old new s)
    turns_to (Err why) fault attempts same idle may s stays = tt
    turns_to (Ok told) fault attempts same idle may s stays = ⊎_elim
        (λ none. subst (λ t. TurnsTo of files now old new s t) (sym (idle none)) (subst (λ v. Settled of IsIdle old v s) (sym (same none)) (rests_idle (subst (λ p. MayCommit next p) none may) s stays)))
        (λ some. made_turn fault told (attempts some) s stays) (nothing_or prepared)

    pub drains_over : (only : (disk : D) (c : List ℕ) → of.left_since disk (of.moment disk) c → of.may_leave disk c) (r : Result Turned TurnFault) → (¬ (IsNothing prepared) → Attempts of (Told r) mid new (fault_outcome r)) → (IsNothing prepared → new ≡ mid)
        → (s : State) → Stays of old s → DrainsOver of files old new s
    drains_over only r attempts same s stays = ⊎_elim
        (λ none. subst (λ v. DrainsOver of files old v s) (sym (same none)) (drains_looked of only (IsMade (AreTablesOf files)) old mid None looks s stays))
        (λ some. drains_attempted of only (IsMade (AreTablesOf files)) old new (fault_outcome r)
        (attempts_more of (Told r) (IsMade (AreTablesOf files)) old new (fault_outcome r) (is_made r) (attempts_after of (Told r) old mid new looks ready (fault_outcome r) (attempts some))) s stays)
        (nothing_or prepared)

  -- whatever was prepared
  pub drains_anyhow : (only : (disk : D) (c : List ℕ) → of.left_since disk (of.moment disk) c → of.may_leave disk c) (r : Result Turned TurnFault) → (¬ (IsNothing prepared) → Attempts of (Told r) mid new (fault_outcome r)) → (IsNothing prepared → new ≡ mid)
      → (s : State) → Stays of old s → DrainsAnyhow of old new s
  drains_anyhow only r attempts same s stays = ⊎_elim
      (λ none. subst (λ v. DrainsAnyhow of old v s) (sym (same none)) (drains_looked of only (λ world entry. Unit {0}) old mid None looks s stays))
      (λ some. drains_attempted of only (λ world entry. Unit {0}) old new (fault_outcome r)
      (attempts_more of (Told r) (λ world entry. Unit {0}) old new (fault_outcome r) (λ world entry made. tt) (attempts_after of (Told r) old mid new looks ready (fault_outcome r) (attempts some))) s stays)
      (nothing_or prepared)

  -- ---- the engine

  -- the world that a call found is the one that it began with
  world_was : (r : Result Turned TurnFault) → (m : Makes of (Told r) mid) → old.ready ≡ true → m.world ≡ old.world
  world_was r m was = m.made.0 ∙ ap (λ (v : View D). v.world) (looks.same was)

  one_more : (told : Turned) → Attempts of (Told (Ok told)) mid new Done → (new.ready ≡ true → new.world.entries < new.journal.place) → IsOneMore old new
  one_more told a within =
      let ready_now = a.ready tt in
      let done = a.done refl in
      let room = a.room refl in
      let more = done.1.next.entries in
      (ready_now, omega (arith, within ready_now, room.2.1, room.3), λ was. more ∙ ap (λ (w : World). w.entries + 1) (world_was (Ok told) done.0 was))

  counts_one : (told : Turned) → told ≢ Idle → IsOneMore old new → CountsUp old new told
  counts_one Idle isnt more = absurd (isnt refl)
  counts_one Planned isnt more = more
  counts_one (Rows n) isnt more = more
  counts_one (Ended status) isnt more = more

  -- what is made is told of
  told_made : (told : Turned) (m : Makes of (Told (Ok told)) mid) → told ≢ Idle
  told_made told m idle = not_idle next prepared now m.world m.entry m.made.1.0 (sym m.made.1.1 ∙ idle)

  pub counts_up : (r : Result Turned TurnFault) → (¬ (IsNothing prepared) → Attempts of (Told r) mid new (fault_outcome r)) → (IsNothing prepared → new ≡ mid) → (IsNothing prepared → IfOk r (λ told. told ≡ Idle)) → MayCommit next prepared
      → OnOk r (new.ready ≡ true → new.world.entries < new.journal.place) → IfOk r (CountsUp old new)
  counts_up (Err why) attempts same idle may within = tt
  counts_up (Ok told) attempts same idle may within = ⊎_elim
      (λ none. subst (λ t. CountsUp old new t) (sym (idle none)) (
        ap (λ (v : View D). v.ready) (same none) ∙ ready,
        ap (λ (v : View D). work_of v.world.kept.jobs) (same none) ∙ is_next ∙ subst (λ p. MayCommit next p) none may,
      ))
      (λ some. let a = attempts some in counts_one told (told_made told (a.done refl).0) (one_more told a within)) (nothing_or prepared)

  pub keeps_jobs : (r : Result Turned TurnFault) → (¬ (IsNothing prepared) → Attempts of (Told r) mid new (fault_outcome r)) → (IsNothing prepared → new ≡ mid) → OnOk r (old.ready ≡ true → HasSameJobs old.world.kept new.world.kept)
  keeps_jobs (Err why) attempts same = tt
  keeps_jobs (Ok told) attempts same = λ was. ⊎_elim
      (λ none. subst (λ (v : View D). HasSameJobs old.world.kept v.world.kept) (sym (same none ∙ looks.same was)) (record { last = refl; tags = refl }))
      (λ some.
      let done = (attempts some).done refl in
      let m = done.0 in
      subst (λ (w : World). HasSameJobs w.kept new.world.kept) (world_was (Ok told) m was) (same_jobs m.entry m.world.kept new.world.kept (not_idle next prepared now m.world m.entry m.made.1.0) done.1.next.kept))
      (nothing_or prepared)
