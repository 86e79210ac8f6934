-- One entry more.
use Rattle.std.proofs.Common.{◌≡◌, ◌⊎◌, inl, inr, ⊎_elim, ℕ, ◌≤◌, true, List, [], ◌∷◌, ◌++◌, None, Some, refl, sym, ◌∙◌, ap, subst}
use Rattle.std.specs.List.{All}
use Rattle.std.proofs.lemmas.List.{append-nil}
use Rattle.std.proofs.lemmas.List.Elements.{All-cons}
use Rattle.bl_outside.specs.Disks.{OnlySeen}
use Rattle.bl_outside.specs.declared.disk.Disk.{Ghosts}
use Rattle.bl_outside.proofs.Moments.{weaker}
use Rattle.bl_journal.specs.Frames.{Found, HasFrames, WithOrWithout, frames, prefixed}
use Rattle.bl_journal.specs.Journals.{Ends, JournalRecord, Since}
use Rattle.bl_entry.specs.declared.entry.Entry.{Entry}
use Rattle.bl_entry.specs.Encoding.{entry_bytes}
use Rattle.bl_entry.specs.Valid.{IsEntry}
use Rattle.bl_world.specs.Worlds.{Step, World}
use Rattle.bl_engine.specs.Images.{HasEntries, WithEntry, bodies_of}
use Rattle.bl_engine.specs.Engines.{IsAt, View}
use Rattle.bl_engine.proofs.Replayed.{bodies_more}

module _ {D : Type 0} (of : Ghosts D) where
  -- at the end of a journal each image has just its frames
  pub ends_has : (journal : JournalRecord D) (bodies : List (List ℕ)) (e : Ends of journal bodies) → (c : List ℕ) → of.may_leave journal.disk c → HasFrames c bodies
  ends_has journal bodies e c now =
      let only = subst (λ o. OnlySeen o (of.may_leave journal.disk)) e.stands.told e.settled.only in
      ap frames (only c now) ∙ e.stands.reaches.own ∙ ap (λ (m : Found). prefixed bodies m) (sym e.stands.rest) ∙ ap (λ (l : List (List ℕ)). (l, None)) (append-nil bodies)

  pub at_has : (engine : View D) (entries : List Entry) → IsAt of engine entries → (c : List ℕ) → of.may_leave engine.journal.disk c → HasEntries c entries
  at_has engine entries at c now = record { valid = at.valid; frames = ends_has engine.journal (bodies_of entries) at.ends c now; world = engine.world; leads = at.world }

  -- the entry is appended, and the world has moved on
  pub pushed : (old new : View D) (entries : List Entry) (entry : Entry) → IsAt of old entries → new.ready ≡ true → IsEntry entry → Step old.world entry new.world
      → Ends of new.journal (bodies_of entries ++ entry_bytes entry ∷ []) → IsAt of new (entry ∷ entries)
  pushed old new entries entry at ready valid step ends = record {
    ready = ready;
    valid = All-cons IsEntry entry entries valid at.valid;
    ends = subst (λ l. Ends of new.journal l) (sym (bodies_more entry entries)) ends;
    world = (old.world, at.world, step);
  }

  -- every image of the append has the entries, with the new one or without it
  pub since : (engine : View D) (new : D) (entries : List Entry) (entry : Entry) (next : World) → IsAt of engine entries → IsEntry entry → Step engine.world entry next
      → Since of engine.journal.disk new (WithOrWithout (bodies_of entries) (entry_bytes entry)) → Since of engine.journal.disk new (WithEntry entries entry)
  since engine new entries entry next at valid step run =
      weaker of.moment of.left_since engine.journal.disk new (WithOrWithout (bodies_of entries) (entry_bytes entry)) (WithEntry entries entry) run
      (λ c. ⊎_elim (λ without. inl (record { valid = at.valid; frames = without; world = engine.world; leads = at.world }))
      (λ with. inr (record { valid = All-cons IsEntry entry entries valid at.valid; frames = with ∙ ap (λ (l : List (List ℕ)). (l, None)) (sym (bodies_more entry entries)); world = next; leads = (engine.world, at.world, step) })))
