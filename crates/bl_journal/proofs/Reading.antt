-- What the first frame at a gate says to a reader who knows what stands before it.
use Rattle.std.proofs.Common.{◌≡◌, ℕ, ◌+◌, List, [], ◌∷◌, ◌++◌, length, Some, None, Ok, Err, refl, sym, ◌∙◌, ap, subst}
use Rattle.std.specs.Prelude.{Result}
use Rattle.std.specs.declared.option.Option.{Option}
use Rattle.bl_outside.specs.declared.disk.Disk.{Ghosts}
use Rattle.bl_outside.specs.declared.journal_fault.JournalFault.{JournalFault}
use Rattle.bl_outside.specs.declared.journal_fault.JournalFault.TheVariants.{StoreFault, NotAJournal, NoMemory}
use Rattle.bl_journal.specs.Frames.{Found, prefixed, frames_at}
use Rattle.bl_journal.specs.Journals.{JournalRecord, IsSound, IsSettled, Reaches, Stands, IsAtGate, FrameIs, NextIs, Moves}
use Rattle.bl_journal.proofs.Reaching.{reach_next}

stands_at : (seen : Option (List ℕ)) (old new : ℕ) (done : List (List ℕ)) (ahead : Found) → new ≡ old → Stands seen old done ahead → Stands seen new done ahead
stands_at seen old new done ahead same s = subst (λ p. Stands seen p done ahead) (sym same) s

pub next_is : (seen : Option (List ℕ)) (old new : ℕ) (done : List (List ℕ)) (ahead : Found) (result : Result (Option (List ℕ)) JournalFault) → FrameIs seen old result → Moves old new result → Stands seen old done ahead → NextIs seen new done ahead result
next_is seen old new done ahead (Ok (Some body)) frame moved s =
    let is : frames_at old s.content ≡ prefixed (body ∷ []) (frames_at (old + 5 + length body) s.content) = subst (λ o. FrameIs o old (Ok (Some body))) s.told frame in (
      frames_at new s.content,
      s.rest ∙ is ∙ ap (λ p. prefixed (body ∷ []) (frames_at p s.content)) (sym moved.0),
      record {
        content = s.content;
        told = s.told;
        reaches = subst (λ p. Reaches s.content p (done ++ body ∷ [])) (sym moved.0) (reach_next s.content body old done (frames_at (old + 5 + length body) s.content) s.reaches is);
        rest = refl;
      },
    )
next_is seen old new done ahead (Ok None) frame moved s = (s.rest ∙ subst (λ o. FrameIs o old (Ok None)) s.told frame, stands_at seen old new done ahead moved s)
next_is seen old new done ahead (Err (NotAJournal fault)) frame moved s = (s.rest ∙ subst (λ o. FrameIs o old (Err (NotAJournal fault))) s.told frame, stands_at seen old new done ahead moved s)
next_is seen old new done ahead (Err StoreFault) frame moved s = stands_at seen old new done ahead moved s
next_is seen old new done ahead (Err NoMemory) frame moved s = stands_at seen old new done ahead moved s

-- Over one body: the journal before the call, and after it.
module _ {D : Type 0} (of : Ghosts D) (old new : JournalRecord D) (seen : of.seen new.disk ≡ of.seen old.disk) (body : List ℕ) (frame : FrameIs (of.seen old.disk) old.place (Ok (Some body)))
    (moved : Moves old.place new.place (Ok (Some body))) where
  pub body_stands : (done : List (List ℕ)) (ahead : Found) → Stands (of.seen old.disk) old.place done ahead → NextIs (of.seen new.disk) new.place done ahead (Ok (Some body))
  body_stands done ahead s = subst (λ o. NextIs o new.place done ahead (Ok (Some body))) (sym seen) (next_is (of.seen old.disk) old.place new.place done ahead (Ok (Some body)) frame moved s)

  pub body_at_gate : (IsSound of new.disk → IsSound of old.disk) → (IsSettled of old.disk → IsSettled of new.disk) → IsAtGate of old → IsAtGate of new
  body_at_gate sound settled at is_sound =
      let t = at (sound is_sound) in
      let n = body_stands t.1 t.2 t.3 in
      (settled t.0, t.1 ++ body ∷ [], n.0, n.2)
