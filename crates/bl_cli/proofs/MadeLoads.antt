-- A load that is made over an engine.
use Rattle.std.specs.Prelude.{◌≡◌, ◌+◌, ◌==◌, ℕ, nat_lt, Bool, true, false, not, cond, List, [], ◌∷◌, length, count_by, None, Some, Result, Ok, Err, IsErrOf, refl}
use Rattle.std.specs.declared.option.Option.{Option}
use Rattle.std.specs.Option.{option_map, option_or}
use Rattle.std.proofs.Common.{sym, ap, subst, ◌∙◌, inl, inr, arith}
use Rattle.std.proofs.lemmas.Bool.{true≢false, eqb-true}
use Rattle.std.proofs.lemmas.Option.{same_Some}
use Rattle.bl_outside.specs.Folders.{Files}
use Rattle.bl_outside.specs.declared.disk.Disk.{Ghosts}
use Rattle.bl_files.specs.declared.load_request.LoadRequest.{LoadRequest}
use Rattle.bl_queue.specs.declared.job.Job.{Job}
use Rattle.bl_queue.specs.declared.job_status.JobStatus.{JobStatus}
use Rattle.bl_queue.specs.declared.job_status.JobStatus.TheVariants.{NotStarted, InQueue, InProgress, Completed, CancelledByUser, Failed, DependencyNotSatisfied}
use Rattle.bl_queue.specs.declared.check_refusal.CheckRefusal.{CheckRefusal}
use Rattle.bl_queue.specs.declared.check_refusal.CheckRefusal.TheVariants as check
use Rattle.bl_queue.specs.Checks.{busy, full, refusal, too_many, unknown, used_up}
use Rattle.bl_queue.specs.Statuses.{has_ended, is_in_queue}
use Rattle.bl_queue.specs.Jobs.{AreJobs, Kept, front_job, is_unended, waits}
use Rattle.bl_queue.proofs.FatedJobs.{count_cons}
use Rattle.bl_entry.specs.declared.entry.Entry.{Entry}
use Rattle.bl_entry.specs.declared.entry.Entry.TheVariants.{Submit}
use Rattle.bl_world.specs.LoadIds.{load_number}
use Rattle.bl_world.specs.Makings.{SubmitEntry, next_moment}
use Rattle.bl_world.specs.States.{State, at_rest}
use Rattle.bl_load.specs.SameJobs.{HasSameJobs}
use Rattle.bl_cli.specs.Tags.{HasTaken}
use Rattle.bl_world.specs.Works.{work_of}
use Rattle.bl_world.specs.Worlds.{IsKeptAfter, World}
use Rattle.bl_world.specs.declared.work.Work.TheVariants.{Idle}
use Rattle.bl_cli.proofs.KeptTags.{submitted_taken}
use Rattle.bl_world.proofs.NextWorks.{idle_front}
use Rattle.bl_chain.specs.Folders.{AreTablesOf}
use Rattle.bl_chain.specs.MadeEntries.{IsMade}
use Rattle.bl_engine.specs.Attempts.{Attempts}
use Rattle.bl_engine.specs.Calls.{Handles}
use Rattle.bl_engine.specs.Engines.{IsAt, Stays, View}
use Rattle.bl_engine.specs.Findings.{Finds, SubmitFinds}
use Rattle.bl_engine.specs.Outcomes.{Done, Full, submit_outcome, trouble_in}
use Rattle.bl_engine.specs.declared.refusals.SubmitRefusal.{SubmitRefusal}
use Rattle.bl_engine.specs.declared.refusals.SubmitRefusal.TheVariants as submit
use Rattle.bl_load.specs.OpenFiles.{IsFresh}
use Rattle.bl_load.specs.Turns.{DrainsFull, DrainsOver, IsDrained}
use Rattle.bl_load.specs.TurnFaults.{told_trouble}
use Rattle.bl_load.specs.declared.open_file.OpenFile.{OpenFile}
use Rattle.bl_load.specs.declared.turn_fault.TurnFault.{TurnFault}
use Rattle.bl_load.specs.declared.turn_fault.TurnFault.TheVariants as turn
use Rattle.bl_cli.specs.declared.load_fault.LoadFault.{LoadFault}
use Rattle.bl_cli.specs.declared.load_fault.LoadFault.TheVariants as fault
use Rattle.bl_cli.specs.LoadFaults.{IsOfLook, IsOfStore, IsOfTurns, MayRefuse, TellsOf, fault_trouble, turn_fault_from}
use Rattle.bl_cli.specs.Loads.{DrainsAll, Submits}
use Rattle.bl_cli.specs.Stores.{OfFiles}
use Rattle.bl_cli.specs.Words.{IsPlain}
use Rattle.bl_cli.proofs.GrownTwice.{breaks_drain, commits_drain}

-- ---- files that are told

pub of_files : (files : Option Files) (P : Files → Type 0) → ((told : Files) → files ≡ Some told → P told) → OfFiles files P
of_files None P each = tt
of_files (Some told) P each = each told refl

pub told_files : (files : Option Files) (told : Files) (P : Files → Type 0) → files ≡ Some told → OfFiles files P → P told
told_files None told P is all = absurd (cc (is))
told_files (Some files) told P is all = subst P (same_Some _ _ is) all

-- ---- turns

pub told_same : (why : TurnFault) → told_trouble why ≡ fault_trouble (turn_fault_from why)
told_same turn.JournalFull = refl
told_same turn.StoreFault = refl
told_same (turn.BadStore place) = refl
told_same turn.NoMemory = refl

-- turns find the journal full where this is told
turn_full : (why : TurnFault) → IsErrOf {T = Unit {0}} {E = LoadFault} (Err (turn_fault_from why)) fault.JournalFull → IsErrOf {T = Unit {0}} {E = TurnFault} (Err why) turn.JournalFull
turn_full turn.JournalFull is = refl
turn_full turn.StoreFault is = absurd (cc (is))
turn_full (turn.BadStore place) is = absurd (cc (is))
turn_full turn.NoMemory is = absurd (cc (is))

pub of_turns : (why : TurnFault) → IsOfTurns (turn_fault_from why)
of_turns turn.JournalFull = tt
of_turns turn.StoreFault = tt
of_turns (turn.BadStore place) = tt
of_turns turn.NoMemory = tt

pub turns_of_store : (why : LoadFault) → IsOfTurns why → IsOfStore why
turns_of_store fault.WriteFault is = is
turns_of_store fault.StoreFault is = tt
turns_of_store (fault.BadStore place) is = tt
turns_of_store fault.NoMemory is = tt
turns_of_store fault.JournalFull is = tt
turns_of_store fault.NumbersUsedUp is = tt

pub look_of_turns : (why : LoadFault) → IsOfLook why → IsOfTurns why
look_of_turns fault.WriteFault is = is
look_of_turns fault.StoreFault is = tt
look_of_turns (fault.BadStore place) is = tt
look_of_turns fault.NoMemory is = tt
look_of_turns fault.JournalFull is = absurd is
look_of_turns fault.NumbersUsedUp is = is

-- a look finds no full journal
pub look_no_room : {P : Type 0} {T : Type 0} (why : LoadFault) → IsOfLook why → IsErrOf {T = T} {E = LoadFault} (Err why) fault.JournalFull → P
look_no_room fault.WriteFault is same = absurd is
look_no_room fault.StoreFault is same = absurd (cc (same))
look_no_room (fault.BadStore place) is same = absurd (cc (same))
look_no_room fault.NoMemory is same = absurd (cc (same))
look_no_room fault.JournalFull is same = absurd is
look_no_room fault.NumbersUsedUp is same = absurd is

-- turns don't use up the numbers
pub turns_no_numbers : {P : Type 0} {T : Type 0} (why : LoadFault) → IsOfTurns why → IsErrOf {T = T} {E = LoadFault} (Err why) fault.NumbersUsedUp → P
turns_no_numbers fault.WriteFault is same = absurd is
turns_no_numbers fault.StoreFault is same = absurd (cc (same))
turns_no_numbers (fault.BadStore place) is same = absurd (cc (same))
turns_no_numbers fault.NoMemory is same = absurd (cc (same))
turns_no_numbers fault.JournalFull is same = absurd (cc (same))
turns_no_numbers fault.NumbersUsedUp is same = absurd is

-- turns over an engine that is ready, beginning with nothing held
module _ {D : Type 0} (of : Ghosts D) (files : Option Files) (held : Option OpenFile) (free : held ≡ None) (old new : View D)
    (made : (told : Files) → files ≡ Some told → IsFresh told held → (state : State) → Stays of old state → DrainsOver of told old new state) where
  drains_over : OfFiles files (λ told. (entries : List Entry) → IsAt of old entries → DrainsOver of told old new (at_rest entries))
  drains_over =
      of_files files (λ told. (entries : List Entry) → IsAt of old entries → DrainsOver of told old new (at_rest entries))
      (λ told is entries at. made told is (subst (λ h. IsFresh told h) (sym free) tt) (at_rest entries) (inl (at, refl)))

  pub drains_ok : IsDrained new → HasSameJobs old.world.kept new.world.kept → Handles of old new None → DrainsAll of files old new (Ok tt)
  drains_ok idle same handles = record { idle = (idle, same); over = drains_over; handles = handles; full = λ is. absurd (cc (is)); fault = tt }

  pub drains_err : (why : TurnFault) → Handles of old new (told_trouble why)
      → ((told : Files) → files ≡ Some told → IsFresh told held → (state : State) → Stays of old state → IsErrOf {T = Unit {0}} {E = TurnFault} (Err why) turn.JournalFull → DrainsFull of told state new)
      → DrainsAll of files old new (Err (turn_fault_from why))
  drains_err why handles full = record {
    idle = tt;
    over = drains_over;
    handles = subst (λ t. Handles of old new t) (told_same why) handles;
    full = λ is.
        of_files files (λ told. (entries : List Entry) → IsAt of old entries → DrainsFull of told (at_rest entries) new)
        (λ told same entries at. full told same (subst (λ h. IsFresh told h) (sym free) tt) (at_rest entries) (inl (at, refl)) (turn_full why is));
    fault = of_turns why;
  }

-- ---- a load is submitted

queue_unended : (status : JobStatus) → is_in_queue status ≡ true → not (has_ended status) ≡ true
queue_unended NotStarted is = refl
queue_unended InQueue is = refl
queue_unended InProgress is = refl
queue_unended Completed is = absurd (true≢false (sym is))
queue_unended CancelledByUser is = absurd (true≢false (sym is))
queue_unended Failed is = absurd (true≢false (sym is))
queue_unended DependencyNotSatisfied is = absurd (true≢false (sym is))

-- one where this is so
abbrev one_if : Bool → ℕ
one_if b = cond b 1 0

none_waits : (jobs : List Job) → front_job jobs ≡ None → count_by waits jobs ≡ 0
none_waits [] none = refl
none_waits (job ∷ jobs) none = count_cons job jobs ∙ by (is_unended job) refl none (none_waits jobs) where
  ended_waits : (status : JobStatus) → not (has_ended status) ≡ false → one_if (is_in_queue status) ≡ 0
  ended_waits status ended = still (is_in_queue status) refl where
    still : (b : Bool) → is_in_queue status ≡ b → one_if b ≡ 0
    still false is = refl
    still true is = absurd (true≢false (sym (queue_unended status is) ∙ ended))

  by : (b : Bool) → is_unended job ≡ b → cond b (Some job) (front_job jobs) ≡ None → (front_job jobs ≡ None → count_by waits jobs ≡ 0) → one_if (waits job) + count_by waits jobs ≡ 0
  by true is none rest = absurd (cc (none))
  by false is none rest = omega (arith, ended_waits job.status is, rest none)

-- a load that waits behind no other is taken on where none is unended, while there is a number
plain_refusal : (kept : Kept) (request : LoadRequest) → IsPlain request → front_job kept.jobs ≡ None → refusal kept request ≡ used_up kept.last
plain_refusal kept request plain none =
    let many : too_many request ≡ None = ap (λ (ids : List ℕ). cond (nat_lt 64 (length ids)) (Some check.TooManyDependencies) None) plain.1 in
    let known : unknown kept.jobs request ≡ None = ap (λ (ids : List ℕ). unknown kept.jobs (record request { dependencies = ids })) plain.1 in
    let idle : busy kept.jobs request ≡ None =
    ap (λ b. busy kept.jobs (record request { queue = b })) plain.0 ∙ ap (λ (o : Option Job). option_map (λ (job : Job). check.Busy job.id) o) none in
    let room : full kept.jobs ≡ None = ap (λ n. cond (n == 64) (Some check.QueueFull) None) (none_waits kept.jobs none) in
    ap (λ o. option_or o (option_or (unknown kept.jobs request) (option_or (busy kept.jobs request) (option_or (full kept.jobs) (used_up kept.last))))) many
    ∙ ap (λ o. option_or o (option_or (busy kept.jobs request) (option_or (full kept.jobs) (used_up kept.last)))) known
    ∙ ap (λ o. option_or o (option_or (full kept.jobs) (used_up kept.last))) idle
    ∙ ap (λ o. option_or o (used_up kept.last)) room

used_by : (last : ℕ) (why : CheckRefusal) (b : Bool) → (last == 4294967295) ≡ b → cond b (Some check.NumbersUsedUp) None ≡ Some why → (why ≡ check.NumbersUsedUp) × (last ≡ 4294967295)
used_by last why true is same = (sym (same_Some _ _ same), eqb-true last 4294967295 is)
used_by last why false is same = absurd (cc (same))

used_is : (last : ℕ) (why : CheckRefusal) → used_up last ≡ Some why → (why ≡ check.NumbersUsedUp) × (last ≡ 4294967295)
used_is last why same = used_by last why (last == 4294967295) refl same

-- what the engine found
pub record Found {D : Type 0} (of : Ghosts D) (salt : ℕ) (request : LoadRequest) (old : View D) (result : Result ℕ SubmitRefusal) : Type 0 where
  pub finds : SubmitFinds salt request result old.world
  pub plain : refusal old.world.kept request ≡ used_up old.world.kept.last

pub found_in : {D : Type 0} (of : Ghosts D) (salt : ℕ) (request : LoadRequest) (old new : View D) (result : Result ℕ SubmitRefusal) → old.ready ≡ true → AreJobs old.world.kept → work_of old.world.kept.jobs ≡ Idle
    → IsPlain request → Finds of old new (submit_outcome result) (SubmitFinds salt request result) → Found of salt request old result
found_in of salt request old new result ready are idle plain (inl unopened) = absurd (true≢false (sym ready ∙ unopened.was))
found_in of salt request old new result ready are idle plain (inr finds) = record {
  finds = subst (λ w. SubmitFinds salt request result w) (finds.1.ready ready) finds.2;
  plain = plain_refusal old.world.kept request plain (idle_front old.world.kept are idle);
}

pub may_refuse : {D : Type 0} (of : Ghosts D) (salt : ℕ) (request : LoadRequest) (old : View D) (why : SubmitRefusal) → Found of salt request old (Err why) → MayRefuse why
may_refuse of salt request old submit.TooManyDependencies found = absurd (cc ((used_is _ _ (sym found.plain ∙ found.finds)).0))
may_refuse of salt request old (submit.UnknownDependency place) found = absurd (cc ((used_is _ _ (sym found.plain ∙ found.finds)).0))
may_refuse of salt request old (submit.Busy id) found = absurd (cc ((used_is _ _ (sym found.plain ∙ found.finds)).0))
may_refuse of salt request old submit.QueueFull found = absurd (cc ((used_is _ _ (sym found.plain ∙ found.finds)).0))
may_refuse of salt request old submit.NumbersUsedUp found = tt
may_refuse of salt request old submit.JournalFull found = tt
may_refuse of salt request old submit.StoreFault found = tt
may_refuse of salt request old (submit.BadStore place) found = tt
may_refuse of salt request old submit.NoMemory found = tt

tells_trouble : (why : SubmitRefusal) (told : LoadFault) → TellsOf why told → trouble_in (submit_outcome (Err why)) ≡ fault_trouble told
tells_trouble submit.TooManyDependencies told tells = absurd tells
tells_trouble (submit.UnknownDependency place) told tells = absurd tells
tells_trouble (submit.Busy id) told tells = absurd tells
tells_trouble submit.QueueFull told tells = absurd tells
tells_trouble submit.NumbersUsedUp told tells = sym (ap fault_trouble tells)
tells_trouble submit.JournalFull told tells = sym (ap fault_trouble tells)
tells_trouble submit.StoreFault told tells = sym (ap fault_trouble tells)
tells_trouble (submit.BadStore place) told tells = sym (ap fault_trouble tells)
tells_trouble submit.NoMemory told tells = sym (ap fault_trouble tells)

tells_store : (why : SubmitRefusal) (told : LoadFault) → TellsOf why told → IsOfStore told
tells_store submit.TooManyDependencies told tells = absurd tells
tells_store (submit.UnknownDependency place) told tells = absurd tells
tells_store (submit.Busy id) told tells = absurd tells
tells_store submit.QueueFull told tells = absurd tells
tells_store submit.NumbersUsedUp told tells = subst IsOfStore (sym tells) tt
tells_store submit.JournalFull told tells = subst IsOfStore (sym tells) tt
tells_store submit.StoreFault told tells = subst IsOfStore (sym tells) tt
tells_store (submit.BadStore place) told tells = subst IsOfStore (sym tells) tt
tells_store submit.NoMemory told tells = subst IsOfStore (sym tells) tt

tells_used : {D : Type 0} (of : Ghosts D) (salt : ℕ) (request : LoadRequest) (old : View D) (why : SubmitRefusal) (told : LoadFault) → TellsOf why told → Found of salt request old (Err why) → told ≡ fault.NumbersUsedUp → old.world.kept.last ≡ 4294967295
tells_used of salt request old submit.TooManyDependencies told tells found is = absurd tells
tells_used of salt request old (submit.UnknownDependency place) told tells found is = absurd tells
tells_used of salt request old (submit.Busy id) told tells found is = absurd tells
tells_used of salt request old submit.QueueFull told tells found is = absurd tells
tells_used of salt request old submit.NumbersUsedUp told tells found is = (used_is _ _ (sym found.plain ∙ found.finds)).1
tells_used of salt request old submit.JournalFull told tells found is = absurd (cc (sym tells ∙ is))
tells_used of salt request old submit.StoreFault told tells found is = absurd (cc (sym tells ∙ is))
tells_used of salt request old (submit.BadStore place) told tells found is = absurd (cc (sym tells ∙ is))
tells_used of salt request old submit.NoMemory told tells found is = absurd (cc (sym tells ∙ is))

tells_full : (why : SubmitRefusal) (told : LoadFault) → TellsOf why told → told ≡ fault.JournalFull → submit_outcome (Err why) ≡ Full
tells_full submit.TooManyDependencies told tells is = absurd tells
tells_full (submit.UnknownDependency place) told tells is = absurd tells
tells_full (submit.Busy id) told tells is = absurd tells
tells_full submit.QueueFull told tells is = absurd tells
tells_full submit.NumbersUsedUp told tells is = absurd (cc (sym tells ∙ is))
tells_full submit.JournalFull told tells is = refl
tells_full submit.StoreFault told tells is = absurd (cc (sym tells ∙ is))
tells_full (submit.BadStore place) told tells is = absurd (cc (sym tells ∙ is))
tells_full submit.NoMemory told tells is = absurd (cc (sym tells ∙ is))

module _ {D : Type 0} (of : Ghosts D) (salt now : ℕ) (request : LoadRequest) (old new : View D) where
  made_submit : (files : Files) (world : World) (entry : Entry) → SubmitEntry salt request now world entry → IsMade (AreTablesOf files) world entry
  made_submit files world entry is = subst (λ e. IsMade (AreTablesOf files) world e) (sym is) tt

  pub submits_ok : (id : ℕ) → old.ready ≡ true → IsPlain request → Attempts of (SubmitEntry salt request now) old new Done → Found of salt request old (Ok id) → Submits of salt request old new (Ok id)
  submits_ok id ready plain attempts found =
      let done = attempts.done refl in
      let world_is : done.0.world ≡ old.world = done.0.meets.ready ready in
      let entry_is : SubmitEntry salt request now old.world done.0.entry = subst (λ w. SubmitEntry salt request now w done.0.entry) world_is done.0.made in
      let kept : IsKeptAfter (Submit (next_moment now old.world) (old.world.kept.last + 1) (load_number salt (old.world.kept.last + 1)) request) old.world.kept new.world.kept =
      subst (λ e. IsKeptAfter e old.world.kept new.world.kept) entry_is (subst (λ (w : World). IsKeptAfter done.0.entry w.kept new.world.kept) world_is done.1.next.kept) in
      record {
        taken = (
          attempts.ready tt,
          subst (λ n. HasTaken salt request old.world.kept new.world.kept n) (sym found.finds.1)
              (submitted_taken salt (next_moment now old.world) (load_number salt (old.world.kept.last + 1)) request old.world.kept new.world.kept plain.1 refl kept),
        );
        over = λ files entries at.
            commits_drain of (SubmitEntry salt request now) (IsMade (AreTablesOf files)) (made_submit files) old new (at_rest entries) attempts.handles.left attempts.handles.right
            (attempts.commits refl (at_rest entries) (inl (at, refl)));
        handles = attempts.handles;
        used_up = λ is. absurd (cc (is));
        full = λ is. absurd (cc (is));
        fault = tt;
      }

  pub submits_err : (why : SubmitRefusal) (told : LoadFault) → TellsOf why told → ¬ (submit_outcome (Err why) ≡ Done) → Attempts of (SubmitEntry salt request now) old new (submit_outcome (Err why)) → Found of salt request old (Err why)
      → Submits of salt request old new (Err told)
  submits_err why told tells undone attempts found = record {
    taken = tt;
    over = λ files entries at.
        breaks_drain of (SubmitEntry salt request now) (IsMade (AreTablesOf files)) (made_submit files) old new (at_rest entries) attempts.handles.left attempts.handles.right
        (attempts.breaks undone (at_rest entries) (inl (at, refl)));
    handles = subst (λ t. Handles of old new t) (tells_trouble why told tells) attempts.handles;
    used_up = λ is. tells_used of salt request old why told tells found (err_same fault.NumbersUsedUp is);
    full = λ is entries at. (now, attempts.no_room (tells_full why told tells (err_same fault.JournalFull is)) (at_rest entries) (inl (at, refl)));
    fault = tells_store why told tells;
  } where
    err_same : (other : LoadFault) → IsErrOf {T = ℕ} {E = LoadFault} (Err told) other → told ≡ other
    err_same other is = cc (is)

pub undone : (why : SubmitRefusal) → ¬ (submit_outcome (Err why) ≡ Done)
undone submit.TooManyDependencies is = cc
undone (submit.UnknownDependency place) is = cc
undone (submit.Busy id) is = cc
undone submit.QueueFull is = cc
undone submit.NumbersUsedUp is = cc
undone submit.JournalFull is = cc
undone submit.StoreFault is = cc
undone (submit.BadStore place) is = cc
undone submit.NoMemory is = cc
