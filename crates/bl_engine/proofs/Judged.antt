-- A file is judged in one way, and one with entries is never bad.
use Rattle.std.proofs.Common.{◌≡◌, ℕ, ◌+◌, List, [], ◌∷◌, ◌++◌, length, Some, None, Ok, Err, inl, inr, refl, sym, ◌∙◌, ap, subst, suc, arith}
use Rattle.std.specs.Prelude.{Result}
use Rattle.std.specs.declared.option.Option.{Option}
use Rattle.std.specs.List.{All}
use Rattle.std.proofs.lemmas.List.{append-nil, append_assoc}
use Rattle.bl_journal.specs.Frames.{Found, frames}
use Rattle.bl_entry.specs.Decoded.{NoneBegins}
use Rattle.bl_entry.specs.declared.entry.Entry.{Entry}
use Rattle.bl_entry.specs.Encoding.{entry_bytes}
use Rattle.bl_entry.specs.Valid.{IsEntry}
use Rattle.bl_world.specs.Worlds.{IsWorldOf, OneWorld, Step, World, empty_world}
use Rattle.bl_engine.specs.Images.{HasEntries, bodies_of}
use Rattle.bl_engine.specs.Openings.{AreJudged, IsUnfit, Leads, NeverBad, OneJudgement}
use Rattle.bl_engine.proofs.Replayed.{bodies_more}

-- a body is one entry at most
one_entry : NoneBegins → (body : List ℕ) (a b : Entry) → IsEntry a → IsEntry b → body ≡ entry_bytes a → body ≡ entry_bytes b → a ≡ b
one_entry codec body a b valid other is was = (codec a b [] valid other (append-nil (entry_bytes a) ∙ sym is ∙ was)).0

-- and leads to one world at most
one_next : NoneBegins → OneWorld → (entries : List Entry) (world : World) → IsWorldOf entries world → (body : List ℕ) (one other : World) → Leads world body one → Leads world body other → one ≡ other
one_next codec worlds entries world leads body one other a b =
    worlds (a.0 ∷ entries) one other (world, leads, a.3) (subst (λ e. IsWorldOf (e ∷ entries) other) (sym (one_entry codec body a.0 b.0 a.1 b.1 a.2 b.2)) (world, leads, b.3))

one_way : NoneBegins → OneWorld → (bodies : List (List ℕ)) (fault : Option ℕ) (place : ℕ) (entries : List Entry) (world : World) → IsWorldOf entries world → (one other : Result World ℕ)
    → AreJudged place world bodies fault one → AreJudged place world bodies fault other → one ≡ other
one_way codec worlds [] None place entries world leads one other a b = a ∙ sym b
one_way codec worlds [] (Some fault) place entries world leads one other a b = a ∙ sym b
one_way codec worlds (body ∷ bodies) fault place entries world leads one other (inl a) (inl b) =
    let same : a.0 ≡ b.0 = one_next codec worlds entries world leads body a.0 b.0 a.1 b.1 in
    one_way codec worlds bodies fault (place + 5 + length body) (a.1.0 ∷ entries) a.0 (world, leads, a.1.3) one other a.2 (subst (λ w. AreJudged (place + 5 + length body) w bodies fault other) (sym same) b.2)
one_way codec worlds (body ∷ bodies) fault place entries world leads one other (inl a) (inr b) = absurd (b.0 a.1.0 a.1.1 a.1.2 a.1.3.follows)
one_way codec worlds (body ∷ bodies) fault place entries world leads one other (inr a) (inl b) = absurd (a.0 b.1.0 b.1.1 b.1.2 b.1.3.follows)
one_way codec worlds (body ∷ bodies) fault place entries world leads one other (inr a) (inr b) = a.1 ∙ sym b.1

pub one_judgement : NoneBegins → OneWorld → OneJudgement
one_judgement codec worlds content one other a b = one_way codec worlds (frames content).0 (frames content).1 15 [] empty_world refl one other a b

-- behind the frames of entries the judgement goes on in their world
pub record GoesOn (entries : List Entry) (world : World) : Type 0 where
  pub place : ℕ
  pub judges : (more : List (List ℕ)) (fault : Option ℕ) (found : Result World ℕ) → AreJudged place world more fault found → AreJudged 15 empty_world (bodies_of entries ++ more) fault found

goes_on : (entries : List Entry) (world : World) → All IsEntry entries → IsWorldOf entries world → GoesOn entries world
goes_on [] world valid leads = record {
  place = 15;
  judges = λ more fault found h. subst (λ w. AreJudged 15 w more fault found) leads h;
}
goes_on (entry ∷ older) world valid leads =
    let g = goes_on older leads.0 (λ k d below. valid (suc k) d (omega arith)) leads.1 in
    record {
      place = g.place + 5 + length (entry_bytes entry);
      judges = λ more fault found h.
          subst (λ l. AreJudged 15 empty_world l fault found)
          (sym (append_assoc (bodies_of older) (entry_bytes entry ∷ []) more) ∙ ap (λ l. l ++ more) (sym (bodies_more entry older)))
          (g.judges (entry_bytes entry ∷ more) fault found (inl (world, (entry, valid 0 entry (omega arith), refl, leads.2), h)));
    }

-- a judgement of an image that has entries is their world
pub judged_entries : (image : List ℕ) (entries : List Entry) (has : HasEntries image entries) → AreJudged 15 empty_world (frames image).0 (frames image).1 (Ok has.world)
judged_entries image entries has =
    let g = goes_on entries has.world has.valid has.leads in
    subst (λ (f : Found). AreJudged 15 empty_world f.0 f.1 (Ok has.world)) (sym has.frames)
    (subst (λ l. AreJudged 15 empty_world l None (Ok has.world)) (append-nil (bodies_of entries)) (g.judges [] None (Ok has.world) refl))

abbrev led : World → Result World ℕ
led world = Ok world

abbrev bad_at : ℕ → Result World ℕ
bad_at place = Err place

pub never_bad : NoneBegins → OneWorld → NeverBad
never_bad codec worlds image entries place has bad =
    let same : led has.world ≡ bad_at place = one_judgement codec worlds image (Ok has.world) (Err place) (judged_entries image entries has) bad in
    cc
