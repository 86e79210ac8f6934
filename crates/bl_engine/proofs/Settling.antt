-- What an opening settles.
use Rattle.std.proofs.Common.{◌≡◌, ◌⊎◌, inl, inr, ℕ, ◌+◌, is_some, List, [], ◌∷◌, ◌++◌, length, None, Some, refl, sym, ◌∙◌, ap, suc, arith}
use Rattle.std.specs.declared.option.Option.{Option}
use Rattle.std.specs.List.{All}
use Rattle.std.proofs.lemmas.List.{append-nil, length_push, same_from_push}
use Rattle.bl_outside.specs.declared.disk.Disk.{Ghosts}
use Rattle.bl_journal.specs.Frames.{AsBefore, Found}
use Rattle.bl_journal.specs.Journals.{IsSound}
use Rattle.bl_entry.specs.Decoded.{NoneBegins}
use Rattle.bl_entry.specs.declared.entry.Entry.{Entry}
use Rattle.bl_entry.specs.Encoding.{entry_bytes}
use Rattle.bl_entry.specs.Valid.{IsEntry}
use Rattle.bl_world.specs.States.{State, Stood}
use Rattle.bl_engine.specs.Images.{HasEntries, IsImageOf, bodies_of}
use Rattle.bl_engine.specs.Engines.{IsAt, Stays, View}
use Rattle.bl_engine.proofs.Replayed.{bodies_more}
use Rattle.bl_engine.proofs.Committed.{at_has}

-- bodies are those of one list of entries
pub same_bodies : NoneBegins → (one other : List Entry) → All IsEntry one → All IsEntry other → bodies_of one ≡ bodies_of other → one ≡ other
same_bodies codec [] [] a b is = refl
same_bodies codec [] (y ∷ ys) a b is = absurd (omega (arith, ap length (is ∙ bodies_more y ys), length_push (bodies_of ys) (entry_bytes y)))
same_bodies codec (x ∷ xs) [] a b is = absurd (omega (arith, ap length (sym is ∙ bodies_more x xs), length_push (bodies_of xs) (entry_bytes x)))
same_bodies codec (x ∷ xs) (y ∷ ys) a b is =
    let both = same_from_push (bodies_of xs) (bodies_of ys) (entry_bytes x) (entry_bytes y) (sym (bodies_more x xs) ∙ is ∙ bodies_more y ys) in
    let head : x ≡ y = (codec x y [] (a 0 x (omega arith)) (b 0 y (omega arith)) (append-nil (entry_bytes x) ∙ both.1)).0 in
    let tail : xs ≡ ys = same_bodies codec xs ys (λ k d below. a (suc k) d (omega arith)) (λ k d below. b (suc k) d (omega arith)) both.0 in
    cc

-- an image has one list of entries
pub same_entries : NoneBegins → (c : List ℕ) (one other : List Entry) → HasEntries c one → HasEntries c other → one ≡ other
same_entries codec c one other has had = same_bodies codec one other has.valid had.valid (ap (λ (f : Found). f.0) (sym has.frames ∙ had.frames))

pub stood_kept : (kept : List Entry) (pending : Option Entry) → Stood kept pending kept
stood_kept kept None = refl
stood_kept kept (Some entry) = inl refl

module _ {D : Type 0} (of : Ghosts D) where
  pub stays_sound : (engine : View D) (s : State) → Stays of engine s → IsSound of engine.journal.disk
  stays_sound engine s (inl stays) = record { honest = stays.0.ends.settled.honest; told = ap is_some stays.0.ends.stands.told }
  stays_sound engine s (inr closed) = closed.sound

  pub stays_now : (engine : View D) (s : State) → Stays of engine s → (c : List ℕ) → of.may_leave engine.journal.disk c → IsImageOf s c
  stays_now engine s (inl stays) c now = (s.kept, stood_kept s.kept s.pending, at_has of engine s.kept stays.0 c now)
  stays_now engine s (inr closed) c now = closed.each c now

  pub before_image : (engine : View D) (s : State) → Stays of engine s → (c : List ℕ) → AsBefore (of.may_leave engine.journal.disk) c → IsImageOf s c
  before_image engine s stays c was =
      let i = stays_now engine s stays was.0 was.1 in
      (i.0, i.1, record { valid = i.2.valid; frames = was.2 ∙ i.2.frames; world = i.2.world; leads = i.2.leads })
