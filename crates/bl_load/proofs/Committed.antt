-- What is committed.
use Rattle.std.proofs.Common.{◌≡◌, ◌≢◌, ◌⊎◌, inl, inr, ⊎_elim, ℕ, true, false, List, None, Some, Ok, Err, refl, sym, ◌∙◌, ap, subst}
use Rattle.std.specs.Prelude.{Result}
use Rattle.std.proofs.lemmas.Bool.{true≢false}
use Rattle.bl_outside.specs.declared.disk.Disk.{Ghosts}
use Rattle.bl_value.specs.declared.row.DigestRow.{DigestRow}
use Rattle.bl_files.specs.declared.feed.Feed.{Feed}
use Rattle.bl_files.specs.declared.feed_end.FeedEnd.{FeedEnd}
use Rattle.bl_files.specs.declared.feed_status.FeedStatus.{FeedStatus}
use Rattle.bl_files.specs.declared.feed_status.FeedStatus.TheVariants.{Failed}
use Rattle.bl_files.specs.declared.plan_result.PlanResult.{PlanResult}
use Rattle.bl_job.specs.declared.batch_result.BatchResult.{BatchResult}
use Rattle.bl_job.specs.Batches.{batch}
use Rattle.bl_queue.specs.Runs.{end_status}
use Rattle.bl_entry.specs.declared.entry.Entry.{Entry}
use Rattle.bl_world.specs.Makings.{IsRowsEntry, next_moment}
use Rattle.bl_world.specs.Worlds.{IsWorldOf, World}
use Rattle.bl_world.specs.Works.{work_of}
use Rattle.bl_world.specs.States.{Fails, IsNew, Settles, State, Stood}
use Rattle.bl_world.specs.declared.work.Work.{Work}
use Rattle.bl_world.specs.declared.work.Work.TheVariants as work
use Rattle.bl_world.proofs.OneWorld.{one_world}
use Rattle.bl_engine.specs.declared.refusals.Trouble.{Trouble}
use Rattle.bl_engine.specs.declared.refusals.TurnRefusal.{TurnRefusal}
use Rattle.bl_engine.specs.declared.refusals.TurnRefusal.TheVariants.{BadStore, JournalFull, NoMemory, Stale, StoreFault}
use Rattle.bl_engine.specs.declared.turned.Turned.{Turned}
use Rattle.bl_engine.specs.declared.turned.Turned.TheVariants as told
use Rattle.bl_engine.specs.Attempts.{Attempts, HasNoRoom, Makes}
use Rattle.bl_engine.specs.Engines.{IsAt, Stays, View}
use Rattle.bl_engine.specs.Calls.{Handles, Looks}
use Rattle.bl_engine.specs.Findings.{Finds, Tells, TurnFinds, turned_by}
use Rattle.bl_engine.specs.Outcomes.{Full, Outcome, Stopped, trouble_in, turn_outcome}
use Rattle.bl_load.specs.declared.prepared.Prepared.{Prepared}
use Rattle.bl_load.specs.declared.prepared.Prepared.TheVariants.{End, Nothing, Plan, Rows}
use Rattle.bl_load.specs.declared.turn_fault.TurnFault.{TurnFault}
use Rattle.bl_load.specs.declared.turn_fault.TurnFault.TheVariants as fault
use Rattle.bl_load.specs.Committing.{In, IsNothing, PreparedEntry}
use Rattle.bl_load.specs.TurnFaults.{IsNotStale, fault_of, fault_outcome, told_trouble}

-- ---- what is prepared

pub not_plan : {P : Type 0} (planned : PlanResult) → Plan planned ≡ Nothing → P
not_plan planned is = cc

pub not_rows : {P : Type 0} (rows : List DigestRow) → Rows rows ≡ Nothing → P
not_rows rows is = cc

pub not_end : {P : Type 0} (how : FeedEnd) → End how ≡ Nothing → P
not_end how is = cc

pub nothing_or : (prepared : Prepared) → IsNothing prepared ⊎ ¬ (IsNothing prepared)
nothing_or Nothing = inl refl
nothing_or (Plan planned) = inr (λ is. not_plan planned is)
nothing_or (Rows rows) = inr (λ is. not_rows rows is)
nothing_or (End how) = inr (λ is. not_end how is)

-- ---- what is told of it

planned_told : {P : Type 0} → told.Planned ≡ told.Idle → P
planned_told is = cc

rows_told : {P : Type 0} (n : ℕ) → told.Rows n ≡ told.Idle → P
rows_told n is = cc

ended_told : {P : Type 0} (status : FeedStatus) → told.Ended status ≡ told.Idle → P
ended_told status is = cc

-- an entry of a batch, or of the end of a file
rows_entry : (moment job feed : ℕ) (of : Feed) (rows : List DigestRow) (made : BatchResult) (entry : Entry) → IsRowsEntry moment job feed of rows made entry → turned_by entry ≢ told.Idle
rows_entry moment job feed of rows made entry (inl batch) = λ is. rows_told made.rows (sym (ap turned_by batch.1) ∙ is)
rows_entry moment job feed of rows made entry (inr end) = λ is. ended_told Failed (sym (ap turned_by end.3) ∙ is)

pub not_idle : (next : Work) (prepared : Prepared) (now : ℕ) (world : World) (entry : Entry) → PreparedEntry next prepared now world entry → turned_by entry ≢ told.Idle
not_idle next Nothing now world entry made = absurd made
not_idle work.Idle (Plan planned) now world entry made = absurd made
not_idle (work.Plan job previous no_previous) (Plan planned) now world entry made = λ is. planned_told (sym (ap turned_by made.2) ∙ is)
not_idle (work.Continue job feed from) (Plan planned) now world entry made = absurd made
not_idle work.Idle (Rows rows) now world entry made = absurd made
not_idle (work.Plan job previous no_previous) (Rows rows) now world entry made = absurd made
not_idle (work.Continue job feed from) (Rows rows) now world entry made = rows_entry (next_moment now world) job feed made.1 rows (batch made.0.request world.graph rows).result entry made.3
not_idle work.Idle (End how) now world entry made = absurd made
not_idle (work.Plan job previous no_previous) (End how) now world entry made = absurd made
not_idle (work.Continue job feed from) (End how) now world entry made = λ is. ended_told (end_status how) (sym (ap turned_by made) ∙ is)

pub tells_made : {E : Type 0} (makes : World → Entry → Type 0) (r : Result Turned E) (world : World) (entry : Entry) → Tells makes r world entry → makes world entry
tells_made makes (Ok turned) world entry made = made.0
tells_made makes (Err why) world entry made = made

-- ---- how it ends

pub outcome_of : (refusal : TurnRefusal) → IsNotStale refusal → turn_outcome (Err refusal) ≡ fault_outcome {T = Turned} (Err (fault_of refusal))
outcome_of (Stale next) is = absurd is
outcome_of JournalFull is = refl
outcome_of StoreFault is = refl
outcome_of (BadStore place) is = refl
outcome_of NoMemory is = refl

told_of : (refusal : TurnRefusal) → IsNotStale refusal → trouble_in (turn_outcome (Err refusal)) ≡ told_trouble (fault_of refusal)
told_of (Stale next) is = absurd is
told_of JournalFull is = refl
told_of StoreFault is = refl
told_of (BadStore place) is = refl
told_of NoMemory is = refl

-- a ready engine's work isn't stale where it is still the next
module _ {D : Type 0} (of : Ghosts D) (next : Work) (engine new : View D) (ready : engine.ready ≡ true) (is_next : work_of engine.world.kept.jobs ≡ next) where
  fresh_refusal : (refusal : TurnRefusal) (world : World) → world ≡ engine.world → TurnFinds next (Err refusal) world → IsNotStale refusal
  fresh_refusal (Stale other) world same found = absurd (found.1 (sym found.0 ∙ ap (λ (w : World). work_of w.kept.jobs) same ∙ is_next))
  fresh_refusal JournalFull world same found = tt
  fresh_refusal StoreFault world same found = tt
  fresh_refusal (BadStore place) world same found = tt
  fresh_refusal NoMemory world same found = tt

  pub not_stale : (outcome : Outcome) (refusal : TurnRefusal) → Finds of engine new outcome (TurnFinds next (Err refusal)) → IsNotStale refusal
  not_stale outcome refusal (inl unopened) = absurd (true≢false (sym ready ∙ unopened.was))
  not_stale outcome refusal (inr found) = fresh_refusal refusal found.0 (found.1.ready ready) found.2

-- what holds of the store where the commit is refused
pub handles_refused : {D : Type 0} (of : Ghosts D) (makes : World → Entry → Type 0) (engine new : View D) (prepared : Prepared) (refusal : TurnRefusal) → IsNotStale refusal
    → (¬ (IsNothing prepared) → Attempts of makes engine new (turn_outcome (Err refusal))) → (IsNothing prepared → Looks of engine new (trouble_in (turn_outcome (Err refusal)))) → Handles of engine new (told_trouble (fault_of refusal))
handles_refused of makes engine new prepared refusal is attempts looks =
    subst (λ t. Handles of engine new t) (told_of refusal is) (⊎_elim (λ none. (looks none).handles) (λ some. (attempts some).handles) (nothing_or prepared))

-- ---- a ready engine has one world

module _ {D : Type 0} (of : Ghosts D) (makes : World → Entry → Type 0) (engine new : View D) (ready : engine.ready ≡ true) where
  at_state : (s : State) → Stays of engine s → IsAt of engine s.kept × (s.pending ≡ None)
  at_state s (inl stays) = stays
  at_state s (inr closed) = absurd (true≢false (sym ready ∙ closed.closed))

  here : (s : State) → Stays of engine s → (entries : List Entry) (before : World) → Settles s entries → IsWorldOf entries before → before ≡ engine.world
  here s stays entries before settles leads =
      let at = at_state s stays in
      let same : entries ≡ s.kept = subst (λ p. Stood s.kept p entries) at.1 settles in
      one_world s.kept before engine.world (subst (λ l. IsWorldOf l before) same leads) at.0.world

  new_here : (s : State) → Stays of engine s → (entries : List Entry) (entry : Entry) → Settles s entries → IsNew makes entries entry → IsNew (In engine.world makes) entries entry
  new_here s stays entries entry settles n = record { before = n.before; of = n.of; made = (here s stays entries n.before settles n.of, n.made); world = n.world; step = n.step }

  fails_here : (s : State) → Stays of engine s → (to : State) → Fails makes s to → Fails (In engine.world makes) s to
  fails_here s stays to (inl same) = inl same
  fails_here s stays to (inr f) = inr (f.0, f.1, ⊎_elim (λ same. inl same) (λ n. inr (n.0, new_here s stays f.0 n.0 f.1 n.1, n.2)) f.2)

  abbrev makes_here : Makes of makes engine → Makes of (In engine.world makes) engine
  makes_here m = record { world = m.world; meets = m.meets; entry = m.entry; made = (m.meets.ready ready, m.made); follows = m.follows }

  no_room_here : (s : State) → Stays of engine s → HasNoRoom of makes s new.journal → HasNoRoom of (In engine.world makes) s new.journal
  no_room_here s stays n = record { entries = n.entries; settles = n.settles; ends = n.ends; world = n.world; leads = n.leads; entry = n.entry; made = (here s stays n.entries n.world n.settles n.leads, n.made); follows = n.follows; full = n.full }

  pub attempts_here : (outcome : Outcome) → Attempts of makes engine new outcome → Attempts of (In engine.world makes) engine new outcome
  attempts_here outcome a = record {
    commits = λ is s stays. let c = a.commits is s stays in (c.0, (c.1.0, c.1.1, c.1.2, new_here s stays c.1.0 c.1.1 c.1.2 c.1.3, c.1.4), c.2);
    breaks = λ isnt s stays. let b = a.breaks isnt s stays in (b.0, fails_here s stays b.0 b.1, b.2);
    rests = a.rests;
    no_room = λ is s stays. no_room_here s stays (a.no_room is s stays);
    ready = a.ready;
    closed = a.closed;
    done = λ is. (makes_here (a.done is).0, (a.done is).1, (a.done is).2);
    full = λ is. (makes_here (a.full is).0, (a.full is).1);
    room = λ is. ((a.room is).0, makes_here (a.room is).1, (a.room is).2, (a.room is).3);
    handles = a.handles;
  }

-- the same of what is refused
pub attempts_refused : {D : Type 0} (of : Ghosts D) (makes : World → Entry → Type 0) (engine new : View D) (refusal : TurnRefusal) → engine.ready ≡ true → IsNotStale refusal → Attempts of makes engine new (turn_outcome (Err refusal))
    → Attempts of (In engine.world makes) engine new (fault_outcome {T = Turned} (Err (fault_of refusal)))
attempts_refused of makes engine new refusal ready is a =
    subst (λ o. Attempts of (In engine.world makes) engine new o) (outcome_of refusal is) (attempts_here of makes engine new ready (turn_outcome (Err refusal)) a)
