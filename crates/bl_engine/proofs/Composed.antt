-- A call that appends, after the engine was made ready.
use Rattle.std.proofs.Common.{◌≡◌, ◌⊎◌, inl, inr, ⊎_elim, ℕ, ◌≤◌, ◌+◌, true, false, List, ◌∷◌, None, Some, refl, sym, ◌∙◌, ap, subst, arith, length}
use Rattle.std.specs.declared.option.Option.{Option}
use Rattle.std.proofs.lemmas.Bool.{true≢false}
use Rattle.bl_outside.specs.Counts.{Rose}
use Rattle.bl_outside.specs.declared.disk.Disk.{Ghosts}
use Rattle.bl_outside.proofs.Moments.{then_runs, weaker}
use Rattle.bl_journal.specs.Journals.{IsFull, Since}
use Rattle.bl_entry.specs.declared.entry.Entry.{Entry}
use Rattle.bl_entry.specs.Encoding.{entry_bytes}
use Rattle.bl_world.specs.Worlds.{World}
use Rattle.bl_world.specs.States.{Fails, IsNew, Rests, Settles, State, at_rest}
use Rattle.bl_engine.specs.declared.refusals.Trouble.{Trouble}
use Rattle.bl_engine.specs.declared.refusals.Trouble.TheVariants.{StoreFault, BadStore, NoMemory}
use Rattle.bl_engine.specs.Images.{IsImageOf}
use Rattle.bl_engine.specs.Engines.{Stays, View}
use Rattle.bl_engine.specs.Openings.{Meets}
use Rattle.bl_engine.specs.Calls.{Answers, Breaks, Commits, Handles, Looks, Settled}
use Rattle.bl_engine.specs.Outcomes.{Outcome, Done, Refused, Full, Stopped, trouble_in}
use Rattle.bl_engine.specs.Attempts.{AppendsNothing, Attempts, HasNoRoom, LeavesClosed, LeavesReady, Makes}
use Rattle.bl_engine.specs.Findings.{Finds}
use Rattle.bl_engine.specs.Appending.{IsJust}

rose_later : (a b c : ℕ) → a ≤ b → Rose b c → Rose a c
rose_later a b c le rose = omega (arith, rose)

pub handles_after : {D : Type 0} (of : Ghosts D) (old mid new : View D) (trouble : Option Trouble) → mid.ready ≡ true → Handles of old mid None → Handles of mid new trouble → Handles of old new trouble
handles_after of old mid new trouble ready first second = record {
  left = second.left ∙ first.left;
  right = second.right ∙ first.right;
  sound = ((λ s. second.sound.0 (first.sound.0 s)), λ s. first.sound.1 (second.sound.1 s));
  later = omega (arith, first.later, second.later);
  store = λ is. rose_later (of.faults old.journal.disk) (of.faults mid.journal.disk) (of.faults new.journal.disk) first.later (second.store is);
  bad = λ place is. absurd (true≢false (sym ready ∙ (second.bad place is).0));
}

pub meets_after : {D : Type 0} (of : Ghosts D) (old mid : View D) (world : World) → mid.ready ≡ true → Meets of old mid.world → Meets of mid world → Meets of old world
meets_after of old mid world ready first second = subst (λ w. Meets of old w) (sym (second.ready ready)) first

module _ {D : Type 0} (of : Ghosts D) (makes : World → Entry → Type 0) (old mid new : View D) (looks : Looks of old mid None) (ready : mid.ready ≡ true) where
  -- every image of both runs is one of the first state or of the last
  both : (s to : State) (entries : List Entry) → Settles s entries → Since of old.journal.disk mid.journal.disk (λ c. IsImageOf s c ⊎ IsImageOf (at_rest entries) c)
      → Since of mid.journal.disk new.journal.disk (λ c. IsImageOf (at_rest entries) c ⊎ IsImageOf to c) → Since of old.journal.disk new.journal.disk (λ c. IsImageOf s c ⊎ IsImageOf to c)
  both s to entries settles first second =
      let was : (c : List ℕ) → IsImageOf (at_rest entries) c → IsImageOf s c = λ c i. (i.0, subst (λ l. Settles s l) (sym i.1) settles, i.2) in
      then_runs of.moment of.left_since old.journal.disk mid.journal.disk new.journal.disk (λ c. IsImageOf s c ⊎ IsImageOf to c) (λ c. IsImageOf (at_rest entries) c ⊎ IsImageOf to c)
      (weaker of.moment of.left_since old.journal.disk mid.journal.disk (λ c. IsImageOf s c ⊎ IsImageOf (at_rest entries) c) (λ c. IsImageOf s c ⊎ IsImageOf to c) first (λ c. ⊎_elim (λ i. inl i) (λ i. inl (was c i))))
      second (λ c. ⊎_elim (λ i. inl (was c i)) (λ i. inr i))

  -- the state at rest in which the engine is once it is ready
  pub record Rested (s : State) : Type 0 where
    pub entries : List Entry
    pub settles : Settles s entries
    pub stays : Stays of mid (at_rest entries)
    pub since : Since of old.journal.disk mid.journal.disk (λ c. IsImageOf s c ⊎ IsImageOf (at_rest entries) c)
    pub counts : old.seq ≡ length s.kept → mid.seq ≡ length entries

  rested : (s : State) → Stays of old s → Rested s
  rested s stays =
      let t = looks.settled ready s stays in
      record {
        entries = t.1.0;
        settles = t.1.2;
        stays = subst (λ to. Stays of mid to) t.1.5 t.2.stays;
        since = subst (λ to. Since of old.journal.disk mid.journal.disk (λ c. IsImageOf s c ⊎ IsImageOf to c)) t.1.5 t.2.since;
        counts = λ counted. t.2.counts counted ∙ ap (λ (to : State). length to.kept) t.1.5;
      }

  then_answers : (s : State) (r : Rested s) (to : State) → Answers of mid new (at_rest r.entries) to → Answers of old new s to
  then_answers s r to answers = record { stays = answers.stays; since = both s to r.entries r.settles r.since answers.since; counts = λ counted. answers.counts (r.counts counted) }

  settled_by : (s : State) (r : Rested s) (entries : List Entry) → entries ≡ r.entries → Settles s entries
  settled_by s r entries same = subst (λ l. Settles s l) (sym same) r.settles

  then_commits : (s : State) (r : Rested s) → Commits of makes mid new (at_rest r.entries) → Commits of makes old new s
  then_commits s r c = (c.0, (c.1.0, c.1.1, settled_by s r c.1.0 c.1.2, c.1.3, c.1.4), then_answers s r c.0 c.2)

  then_fails : (s : State) (r : Rested s) (to : State) → Fails makes (at_rest r.entries) to → Fails makes s to
  then_fails s r to (inl same) = inr (r.entries, r.settles, inl same)
  then_fails s r to (inr f) = inr (f.0, settled_by s r f.0 f.1, f.2)

  then_settled : (Is : World → Type 0) (s : State) (r : Rested s) → Settled of Is mid new (at_rest r.entries) → Settled of Is old new s
  then_settled Is s r t = (t.0, (t.1.0, t.1.1, settled_by s r t.1.0 t.1.2, t.1.3, t.1.4, t.1.5), then_answers s r t.0 t.2)

  then_no_room : (s : State) (r : Rested s) → HasNoRoom of makes (at_rest r.entries) new.journal → HasNoRoom of makes s new.journal
  then_no_room s r n = record { entries = n.entries; settles = settled_by s r n.entries n.settles; ends = n.ends; world = n.world; leads = n.leads; entry = n.entry; made = n.made; follows = n.follows; full = n.full }

  abbrev then_makes : Makes of makes mid → Makes of makes old
  then_makes m = record { world = m.world; meets = meets_after of old mid m.world ready (looks.meets ready) m.meets; entry = m.entry; made = m.made; follows = m.follows }

  pub attempts_after : (outcome : Outcome) → Attempts of makes mid new outcome → Attempts of makes old new outcome
  attempts_after outcome a = record {
    commits = λ is s stays. let r = rested s stays in then_commits s r (a.commits is (at_rest r.entries) r.stays);
    breaks = λ isnt s stays.
        let r = rested s stays in
        let b = a.breaks isnt (at_rest r.entries) r.stays in
        (b.0, then_fails s r b.0 b.1, then_answers s r b.0 b.2);
    rests = λ none s stays. let r = rested s stays in then_settled (λ _. Unit {0}) s r (a.rests none (at_rest r.entries) r.stays);
    no_room = λ is s stays. let r = rested s stays in then_no_room s r (a.no_room is (at_rest r.entries) r.stays);
    ready = a.ready;
    closed = a.closed;
    done = λ is. (then_makes (a.done is).0, (a.done is).1, (a.done is).2);
    full = λ is. (then_makes (a.full is).0, (a.full is).1);
    room = λ is. ((a.room is).0, then_makes (a.room is).1, (a.room is).2, (a.room is).3);
    handles = handles_after of old mid new (trouble_in outcome) ready looks.handles a.handles;
  }

  pub finds_after : (outcome : Outcome) (Is : World → Type 0) → Is mid.world → (outcome ≡ Refused → new.world ≡ mid.world) → Finds of old new outcome Is
  finds_after outcome Is is refused = inr (mid.world, looks.meets ready, is, refused)

-- nothing was appended by these
not_done : {P : Type 0} (what : Trouble) → Stopped what ≡ Done → P
not_done what is = cc

not_full : {P : Type 0} (what : Trouble) → Stopped what ≡ Full → P
not_full what is = cc

module _ {D : Type 0} (of : Ghosts D) (makes : World → Entry → Type 0) (old mid : View D) where
  -- it could not be opened
  pub attempts_shut : (what : Trouble) → Looks of old mid (Some what) → mid.ready ≡ false → Attempts of makes old mid (Stopped what)
  attempts_shut what looks shut = record {
    commits = λ is. not_done what is;
    breaks = λ isnt s stays. (s, inl refl, (looks.closed shut).2 s stays);
    rests = λ none. absurd none;
    no_room = λ is. not_full what is;
    ready = λ leaves. absurd leaves;
    closed = λ leaves. shut;
    done = λ is. not_done what is;
    full = λ is. not_full what is;
    room = λ is. not_done what is;
    handles = looks.handles;
  }

  pub finds_shut : (what : Trouble) (Is : World → Type 0) → Looks of old mid (Some what) → mid.ready ≡ false → Finds of old mid (Stopped what) Is
  finds_shut what Is looks shut = inl (record { was = (looks.closed shut).0; is = shut; stopped = (what, refl) })

  fails_at_rest : (s to : State) (Is : World → Type 0) → Rests Is s to → Fails makes s to
  fails_at_rest s to Is r = inr (r.0, r.2, inl r.5)

  -- it is refused over the world
  pub attempts_refused : Looks of old mid None → mid.ready ≡ true → Attempts of makes old mid Refused
  attempts_refused looks ready = record {
    commits = λ is. cc;
    breaks = λ isnt s stays.
        let t = looks.settled ready s stays in
        (t.0, fails_at_rest s t.0 (λ world. world ≡ mid.world) t.1, t.2);
    rests = λ none s stays.
        let t = looks.settled ready s stays in
        (t.0, (t.1.0, t.1.1, t.1.2, t.1.3, tt, t.1.5), t.2);
    no_room = λ is. cc;
    ready = λ leaves. ready;
    closed = λ leaves. absurd leaves;
    done = λ is. cc;
    full = λ is. cc;
    room = λ is. cc;
    handles = looks.handles;
  }

  -- memory ran out before anything was done
  pub attempts_starved : Looks of old mid None → mid.ready ≡ true → Attempts of makes old mid (Stopped NoMemory)
  attempts_starved looks ready = record {
    commits = λ is. cc;
    breaks = λ isnt s stays.
        let t = looks.settled ready s stays in
        (t.0, fails_at_rest s t.0 (λ world. world ≡ mid.world) t.1, t.2);
    rests = λ none. absurd none;
    no_room = λ is. cc;
    ready = λ leaves. absurd leaves;
    closed = λ leaves. absurd leaves;
    done = λ is. cc;
    full = λ is. cc;
    room = λ is. cc;
    handles = record {
      left = looks.handles.left;
      right = looks.handles.right;
      sound = looks.handles.sound;
      later = looks.handles.later;
      store = λ is. cc;
      bad = λ place is. cc;
    };
  }

-- an entry that is made so is also made otherwise
pub attempts_more : {D : Type 0} (of : Ghosts D) (makes others : World → Entry → Type 0) (old new : View D) (outcome : Outcome) → ((world : World) (entry : Entry) → makes world entry → others world entry)
    → Attempts of makes old new outcome → Attempts of others old new outcome
attempts_more {D} of makes others old new outcome more a = record {
  commits = λ is s stays. let c = a.commits is s stays in (c.0, (c.1.0, c.1.1, c.1.2, renew c.1.0 c.1.1 c.1.3, c.1.4), c.2);
  breaks = λ isnt s stays. let b = a.breaks isnt s stays in (b.0, refail s b.0 b.1, b.2);
  rests = a.rests;
  no_room = λ is s stays. reroom s (a.no_room is s stays);
  ready = a.ready;
  closed = a.closed;
  done = λ is. (remake (a.done is).0, (a.done is).1, (a.done is).2);
  full = λ is. (remake (a.full is).0, (a.full is).1);
  room = λ is. ((a.room is).0, remake (a.room is).1, (a.room is).2, (a.room is).3);
  handles = a.handles;
} where
  renew : (entries : List Entry) (entry : Entry) → IsNew makes entries entry → IsNew others entries entry
  renew entries entry n = record { before = n.before; of = n.of; made = more n.before entry n.made; world = n.world; step = n.step }

  refail : (s to : State) → Fails makes s to → Fails others s to
  refail s to (inl same) = inl same
  refail s to (inr f) = inr (f.0, f.1, ⊎_elim (λ same. inl same) (λ n. inr (n.0, renew f.0 n.0 n.1, n.2)) f.2)

  reroom : (s : State) → HasNoRoom of makes s new.journal → HasNoRoom of others s new.journal
  reroom s n = record { entries = n.entries; settles = n.settles; ends = n.ends; world = n.world; leads = n.leads; entry = n.entry; made = more n.world n.entry n.made; follows = n.follows; full = n.full }

  remake : Makes of makes old → Makes of others old
  remake m = record { world = m.world; meets = m.meets; entry = m.entry; made = more m.world m.entry m.made; follows = m.follows }

-- it could not be opened, and answers so
pub shut_at : {R D : Type 0} (of : Ghosts D) (outcome : R → Outcome) (Is : R → World → Type 0) (makes : R → World → Entry → Type 0) (old mid : View D) (r : R) (what : Trouble) → outcome r ≡ Stopped what
    → Looks of old mid (Some what) → mid.ready ≡ false → Finds of old mid (outcome r) (Is r) × Attempts of (makes r) old mid (outcome r)
shut_at of outcome Is makes old mid r what is looks shut = (
  subst (λ o. Finds of old mid o (Is r)) (sym is) (finds_shut of (makes r) old mid what (Is r) looks shut),
  subst (λ o. Attempts of (makes r) old mid o) (sym is) (attempts_shut of (makes r) old mid what looks shut),
)

-- just this entry, which is what the call makes
pub attempts_just : {D : Type 0} (of : Ghosts D) (makes : World → Entry → Type 0) (world : World) (entry : Entry) (old new : View D) (outcome : Outcome) → makes world entry → Attempts of (IsJust world entry) old new outcome → Attempts of makes old new outcome
attempts_just of makes world entry old new outcome made a =
    attempts_more of (IsJust world entry) makes old new outcome (λ w e j. subst (λ x. makes x e) (sym j.0) (subst (λ x. makes world x) (sym j.1) made)) a
