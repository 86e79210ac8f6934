-- Calls after calls.
use Rattle.std.specs.Prelude.{◌≡◌, ◌⊎◌, ◌≤◌, ℕ, true, List, [], ◌∷◌, ◌++◌, None, refl}
use Rattle.std.specs.declared.option.Option.{Option}
use Rattle.std.proofs.Common.{sym, subst, ◌∙◌, inl, inr, ⊎_elim, arith, append_assoc}
use Rattle.std.proofs.lemmas.Bool.{true≢false}
use Rattle.bl_outside.specs.Counts.{Rose}
use Rattle.bl_outside.specs.declared.disk.Disk.{Ghosts}
use Rattle.bl_outside.proofs.Moments.{then_runs, weaker}
use Rattle.bl_journal.specs.Journals.{JournalRecord}
use Rattle.bl_entry.specs.declared.entry.Entry.{Entry}
use Rattle.bl_world.specs.Worlds.{World}
use Rattle.bl_world.specs.States.{Appends, AreNew, Fails, Grows, IsNew, Settles, State, at_rest, unsure}
use Rattle.bl_engine.specs.Attempts.{HasNoRoom}
use Rattle.bl_engine.specs.Calls.{Answers, Breaks, Commits, Drains, Handles, Reaches}
use Rattle.bl_engine.specs.Engines.{IsAt, Stays, View}
use Rattle.bl_engine.specs.Images.{IsImageOf}
use Rattle.bl_engine.specs.declared.refusals.Trouble.{Trouble}

module _ (makes : World → Entry → Type 0) where
  -- new ones behind new ones
  are_new_both : (old new later : List Entry) → AreNew makes old new → AreNew makes (new ++ old) later → AreNew makes old (later ++ new)
  are_new_both old new [] first second = first
  are_new_both old new (entry ∷ later) first second =
      (are_new_both old new later first second.0, subst (λ l. IsNew makes l entry) (sym (append_assoc later new old)) second.1)

  -- the end of a store that has grown
  abbrev pub EndsAt : List Entry → State → Type 0
  EndsAt entries to = (to ≡ at_rest entries) ⊎ ((entry : Entry) × IsNew makes entries entry × (to ≡ unsure entries entry))

  ends_both : (old new later : List Entry) (to : State) → EndsAt (later ++ (new ++ old)) to → EndsAt ((later ++ new) ++ old) to
  ends_both old new later to ends = subst (λ l. EndsAt l to) (sym (append_assoc later new old)) ends

  grows_by : (from : State) (old new middle : List Entry) (to : State) → Settles from old → AreNew makes old new → middle ≡ new ++ old
      → (later : List Entry) → AreNew makes middle later → EndsAt (later ++ middle) to → Grows makes from to
  grows_by from old new middle to settles are same later more ends =
      let are_more : AreNew makes (new ++ old) later = subst (λ l. AreNew makes l later) same more in
      let ends_so : EndsAt (later ++ (new ++ old)) to = subst (λ l. EndsAt (later ++ l) to) same ends in
      (old, later ++ new, settles, are_new_both old new later are are_more, ends_both old new later to ends_so)

  grows_then : (a b c : State) → Grows makes a b → Grows makes b c → Grows makes a c
  grows_then a b c (old, new, settles, are, inl is) (old', new', settles', are', ends') =
      grows_by a old new old' c settles are (subst (λ s. Settles s old') is settles') new' are' ends'
  grows_then a b c (old, new, settles, are, inr is) (old', new', settles', are', ends') =
      ⊎_elim
      (λ same. grows_by a old new old' c settles are same new' are' ends')
      (λ same. grows_by a old (is.0 ∷ new) old' c settles (are, is.1) same new' are' ends')
      (subst (λ s. Settles s old') is.2 settles')

  pub reaches_then : (a b c : State) → Reaches makes a b → Reaches makes b c → Reaches makes a c
  reaches_then a b c one (inl same) = subst (λ s. Reaches makes a s) (sym same) one
  reaches_then a b c (inl same) (inr more) = inr (subst (λ s. Grows makes s c) same more)
  reaches_then a b c (inr first) (inr more) = inr (grows_then a b c first more)

  module _ {D : Type 0} (of : Ghosts D) where
    -- calls after calls
    pub drains_then : (old mid new : View D) (from : State) (first : Drains of makes old mid from) → Drains of makes mid new first.to → Drains of makes old new from
    drains_then old mid new from first second = record {
      to = second.to;
      reaches = reaches_then from first.to second.to first.reaches second.reaches;
      stays = second.stays;
      since =
          then_runs of.moment of.left_since old.journal.disk mid.journal.disk new.journal.disk
          (λ c. (between : State) × Reaches makes from between × IsImageOf between c) (λ c. (between : State) × Reaches makes from between × IsImageOf between c)
          first.since
          (weaker of.moment of.left_since mid.journal.disk new.journal.disk
          (λ c. (between : State) × Reaches makes first.to between × IsImageOf between c) (λ c. (between : State) × Reaches makes from between × IsImageOf between c)
          second.since (λ c image. (image.0, reaches_then from first.to image.0 first.reaches image.1, image.2)))
          (λ c way. way);
      left = second.left ∙ first.left;
      right = second.right ∙ first.right;
    }

    at_ready : (engine : View D) (s : State) → engine.ready ≡ true → Stays of engine s → IsAt of engine s.kept × (s.pending ≡ None)
    at_ready engine s ready (inl stays) = stays
    at_ready engine s ready (inr closed) = absurd (true≢false (sym ready ∙ closed.closed))

    -- the entries at which an engine stands that is ready
    pub at_entries : (engine : View D) (s : State) → engine.ready ≡ true → Stays of engine s → IsAt of engine s.kept × (s ≡ at_rest s.kept)
    at_entries engine s ready stays =
        let at : IsAt of engine s.kept × (s.pending ≡ None) = at_ready engine s ready stays in
        (at.0, λ i. record { kept = s.kept; pending = at.1 i })

    -- the same by the entries, where the engine is ready between them
    pub drains_on : (old mid new : View D) (entries : List Entry) (first : Drains of makes old mid (at_rest entries)) → mid.ready ≡ true
        → ((them : List Entry) → IsAt of mid them → Drains of makes mid new (at_rest them))
        → Drains of makes old new (at_rest entries)
    drains_on old mid new entries first ready second =
        let at : IsAt of mid first.to.kept × (first.to ≡ at_rest first.to.kept) = at_entries mid first.to ready first.stays in
        drains_then old mid new (at_rest entries) first (subst (λ s. Drains of makes mid new s) (sym at.1) (second first.to.kept at.0))

-- a call that appends an entry, or doesn't
module _ {D : Type 0} (of : Ghosts D) (makes wider : World → Entry → Type 0) (widen : (world : World) (entry : Entry) → makes world entry → wider world entry) (old new : View D) (from : State)
    (left : new.left ≡ old.left) (right : new.right ≡ old.right) where
  new_wider : (entries : List Entry) (entry : Entry) → IsNew makes entries entry → IsNew wider entries entry
  new_wider entries entry new = record { before = new.before; of = new.of; made = widen new.before entry new.made; world = new.world; step = new.step }

  appends_reaches : (to : State) → Appends makes from to → Reaches wider from to
  appends_reaches to a = inr (a.0, a.1 ∷ [], a.2, (tt, new_wider a.0 a.1 a.3), inl a.4)

  fails_reaches : (to : State) → Fails makes from to → Reaches wider from to
  fails_reaches to (inl same) = inl same
  fails_reaches to (inr f) =
      inr (f.0, [], f.1, tt, ⊎_elim (λ same. inl same) (λ (e : (entry : Entry) × IsNew makes f.0 entry × (to ≡ unsure f.0 entry)). inr (e.0, new_wider f.0 e.0 e.1, e.2)) f.2)

  answers_drain : (to : State) → Reaches wider from to → Answers of old new from to → Drains of wider old new from
  answers_drain to reaches answers = record {
    to = to;
    reaches = reaches;
    stays = answers.stays;
    since =
        weaker of.moment of.left_since old.journal.disk new.journal.disk
        (λ c. IsImageOf from c ⊎ IsImageOf to c) (λ c. (between : State) × Reaches wider from between × IsImageOf between c)
        answers.since
        (λ c. ⊎_elim (λ image. (from, inl refl, image)) (λ image. (to, reaches, image)));
    left = left;
    right = right;
  }

  pub commits_drain : Commits of makes old new from → Drains of wider old new from
  commits_drain c = answers_drain c.0 (appends_reaches c.0 c.1) c.2

  pub breaks_drain : Breaks of makes old new from → Drains of wider old new from
  breaks_drain b = answers_drain b.0 (fails_reaches b.0 b.1) b.2

-- a journal that is full for an entry is full for one of a wider kind
pub no_room_wider : {D : Type 0} (of : Ghosts D) (makes wider : World → Entry → Type 0) (widen : (world : World) (entry : Entry) → makes world entry → wider world entry) (state : State) (journal : JournalRecord D)
    → HasNoRoom of makes state journal → HasNoRoom of wider state journal
no_room_wider of makes wider widen state journal none = record {
  entries = none.entries;
  settles = none.settles;
  ends = none.ends;
  world = none.world;
  leads = none.leads;
  entry = none.entry;
  made = widen none.world none.entry none.made;
  follows = none.follows;
  full = none.full;
}

-- ---- what holds of each call

rose_later : (a b c : ℕ) → a ≤ b → Rose b c → Rose a c
rose_later a b c le rose = omega (arith, rose)

pub handles_after : {D : Type 0} (of : Ghosts D) (old mid new : View D) (trouble : Option Trouble) → mid.ready ≡ true → Handles of old mid None → Handles of mid new trouble → Handles of old new trouble
handles_after of old mid new trouble ready first second = record {
  left = second.left ∙ first.left;
  right = second.right ∙ first.right;
  sound = ((λ s. second.sound.0 (first.sound.0 s)), λ s. first.sound.1 (second.sound.1 s));
  later = omega (arith, first.later, second.later);
  store = λ is. rose_later (of.faults old.journal.disk) (of.faults mid.journal.disk) (of.faults new.journal.disk) first.later (second.store is);
  bad = λ place is. absurd (true≢false (sym ready ∙ (second.bad place is).0));
}
