-- What loads come to in a store that has grown by turns.
use Rattle.std.proofs.Common.{◌≡◌, ◌⊎◌, inl, inr, ⊎_elim, ℕ, List, [], ◌∷◌, ◌++◌, refl, sym, ◌∙◌, ap, subst, append_assoc}
use Rattle.bl_outside.specs.declared.disk.Disk.{Ghosts}
use Rattle.bl_outside.specs.Folders.{Files}
use Rattle.bl_outside.proofs.Moments.{then_runs, weaker}
use Rattle.bl_entry.specs.declared.entry.Entry.{Entry}
use Rattle.bl_world.specs.Worlds.{World}
use Rattle.bl_world.specs.States.{AreNew, IsNew, Settles, State, at_rest, unsure}
use Rattle.bl_chain.specs.Folders.{AreTablesOf}
use Rattle.bl_chain.specs.MadeEntries.{IsMade}
use Rattle.bl_chain.proofs.OverFiles.{loads_resume}
use Rattle.bl_chain.proofs.UncutEntries.{uncut_loads_resume}
use Rattle.bl_engine.specs.Calls.{Drains, Reaches}
use Rattle.bl_engine.specs.Engines.{View}
use Rattle.bl_engine.specs.Images.{HasEntries, IsImageOf}
use Rattle.bl_load.specs.Turns.{DrainsOver, HasResumed, ResumesTo}

-- ---- lists

module _ (makes : World → Entry → Type 0) where
  -- the older of the new ones are new
  are_before : (old rest part : List Entry) → AreNew makes old (rest ++ part) → AreNew makes old part
  are_before old [] part are = are
  are_before old (entry ∷ rest) part are = are_before old rest part are.0

  -- new ones behind new ones
  are_both : (old new later : List Entry) → AreNew makes old new → AreNew makes (new ++ old) later → AreNew makes old (later ++ new)
  are_both old new [] first second = first
  are_both old new (entry ∷ later) first second =
      (are_both old new later first second.0, subst (λ l. IsNew makes l entry) (sym (append_assoc later new old)) second.1)

  -- ---- states

  -- what a state has grown to, once the pending entry is settled
  pub record Grown (from : State) (entries : List Entry) : Type 0 where
    pub old : List Entry
    pub new : List Entry
    pub settles : Settles from old
    pub are : AreNew makes old new
    pub same : entries ≡ new ++ old

  pub grown : (from between : State) (entries : List Entry) → Reaches makes from between → Settles between entries → Grown from entries
  grown from between entries (inl still) settles = record { old = entries; new = []; settles = subst (λ (t : State). Settles t entries) still settles; are = tt; same = refl }
  grown from between entries (inr g) settles = by g.4 where
    by : (between ≡ at_rest (g.1 ++ g.0)) ⊎ ((entry : Entry) × IsNew makes (g.1 ++ g.0) entry × (between ≡ unsure (g.1 ++ g.0) entry)) → Grown from entries
    by (inl rest) = record { old = g.0; new = g.1; settles = g.2; are = g.3; same = subst (λ (t : State). Settles t entries) rest settles }
    by (inr p) = ⊎_elim (λ same. record { old = g.0; new = g.1; settles = g.2; are = g.3; same = same }) (λ same. record { old = g.0; new = p.0 ∷ g.1; settles = g.2; are = (g.3, p.1); same = same })
        (subst (λ (t : State). Settles t entries) p.2 settles)

  -- where a store ends that has grown
  abbrev pub EndsAt : List Entry → State → Type 0
  EndsAt entries to = (to ≡ at_rest entries) ⊎ ((entry : Entry) × IsNew makes entries entry × (to ≡ unsure entries entry))

  -- what has grown grows on
  pub reaches_then : (a b c : State) → Reaches makes a b → Reaches makes b c → Reaches makes a c
  reaches_then a b c first (inl same) = subst (λ t. Reaches makes a t) (sym same) first
  reaches_then a b c first (inr g) =
      let r = grown a b g.0 first g.2 in
      let are : AreNew makes (r.new ++ r.old) g.1 = subst (λ l. AreNew makes l g.1) r.same g.3 in
      let is : g.1 ++ g.0 ≡ (g.1 ++ r.new) ++ r.old = ap (λ l. g.1 ++ l) r.same ∙ sym (append_assoc g.1 r.new r.old) in
      inr (r.old, g.1 ++ r.new, r.settles, are_both r.old r.new g.1 r.are are, subst (λ l. EndsAt l c) is g.4)

  -- ---- calls

  module _ {D : Type 0} (of : Ghosts D) where
    -- calls after calls
    pub drains_then : (old mid new : View D) (from : State) (first : Drains of makes old mid from) → Drains of makes mid new first.to → Drains of makes old new from
    drains_then old mid new from first second = record {
      to = second.to;
      reaches = reaches_then from first.to second.to first.reaches second.reaches;
      stays = second.stays;
      since = then_runs of.moment of.left_since old.journal.disk mid.journal.disk new.journal.disk (λ c. (between : State) × Reaches makes from between × IsImageOf between c)
          (λ c. (between : State) × Reaches makes first.to between × IsImageOf between c) first.since second.since (λ c way. (way.0, reaches_then from first.to way.0 first.reaches way.1, way.2));
      left = second.left ∙ first.left;
      right = second.right ∙ first.right;
    }

-- ---- loads

has_resumed : (files : Files) (from : State) (entries : List Entry) → Grown (IsMade (AreTablesOf files)) from entries → HasResumed files from entries
has_resumed files from entries g = record {
  before = g.old;
  later = g.new;
  settles = g.settles;
  are = g.same;
  resume = λ rest part is world job chain may. loads_resume files g.old part world job chain (part_new rest part is) may;
  end = λ rest part is world job chain may. uncut_loads_resume files g.old part world job chain (part_new rest part is) may;
} where
  part_new : (rest part : List Entry) → g.new ≡ rest ++ part → AreNew (IsMade (AreTablesOf files)) g.old part
  part_new rest part is = are_before (IsMade (AreTablesOf files)) g.old rest part (subst (λ l. AreNew (IsMade (AreTablesOf files)) g.old l) is g.are)

-- loads of each list on the way have resumed
pub reached_resumed : (files : Files) (from between : State) (entries : List Entry) → Reaches (IsMade (AreTablesOf files)) from between → Settles between entries → HasResumed files from entries
reached_resumed files from between entries reaches settles = has_resumed files from entries (grown (IsMade (AreTablesOf files)) from between entries reaches settles)

pub resumes_to : {D : Type 0} (of : Ghosts D) (files : Files) (old new : View D) (from : State) → DrainsOver of files old new from → ResumesTo of files old new from
resumes_to of files old new from d =
    let makes = IsMade (AreTablesOf files) in
    weaker of.moment of.left_since old.journal.disk new.journal.disk (λ c. (between : State) × Reaches makes from between × IsImageOf between c) (λ c. (entries : List Entry) × HasEntries c entries × HasResumed files from entries) d.since
    (λ c way. (way.2.0, way.2.2, reached_resumed files from way.0 way.2.0 way.1 way.2.1))
