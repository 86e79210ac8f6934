-- What the first five bytes at a gate say of the frames from there on.
use Rattle.std.proofs.Common.{◌≡◌, ℕ, suc, ◌+◌, ◌-◌, ◌<◌, Bool, true, false, List, [], ◌∷◌, length, take, drop, Some, None, Ok, Err, refl, sym, ◌∙◌, ap, subst, arith}
use Rattle.std.specs.Prelude.{if◌then◌else◌, ◌==◌}
use Rattle.std.specs.declared.option.Option.{Option}
use Rattle.std.proofs.lemmas.Option.{none-some, same_Some}
use Rattle.std.proofs.lemmas.Bool.{eqb-true, eqb-false}
use Rattle.std.proofs.lemmas.List.{drop-drop, length-drop, length-take-le}
use Rattle.bl_outside.specs.Disks.{OfContent}
use Rattle.bl_outside.specs.declared.journal_fault.JournalFault.TheVariants.{NotAJournal}
use Rattle.bl_journal.specs.Frames.{number, prefixed, is_frame, body_of, frames_from, frames_at, length_behind}
use Rattle.bl_journal.specs.Journals.{body_at, GateIs}
use Rattle.bl_journal.proofs.Bytes.{closed, one_frame, no_frame, frame_is, frame_bound, number_take}
use Rattle.bl_journal.proofs.Reaching.{at_next, rest_length}

choice_some : (b : Bool) (x y : ℕ) → (if b then Some x else None) ≡ Some y → (b ≡ true) × (x ≡ y)
choice_some true x y is = (refl, same_Some x y is)
choice_some false x y is = absurd (none-some y is)

not_true : (b : Bool) → (b ≡ true → ⊥) → b ≡ false
not_true true not = absurd (not refl)
not_true false not = refl

choice_none : (b : Bool) (x : ℕ) → (if b then Some x else None) ≡ None → b ≡ false
choice_none true x is = absurd (none-some x (sym is))
choice_none false x is = refl

-- no length: the gate is closed, or there is none
none_by : (place : ℕ) (bytes : List ℕ) → length_behind (take 5 bytes) ≡ None → frames_from place 0 bytes ≡ ([], None)
none_by place [] is = refl
none_by place (gate ∷ rest) is = closed place gate rest (eqb-false gate 1 (choice_none (gate == 1) (number (take 4 rest)) is))

-- a length: the gate is open
some_by : (bytes : List ℕ) (n : ℕ) → length_behind (take 5 bytes) ≡ Some n → (rest : List ℕ) × (bytes ≡ 1 ∷ rest) × (number rest ≡ n)
some_by [] n is = absurd (none-some n is)
some_by (gate ∷ rest) n is =
    let t = choice_some (gate == 1) (number (take 4 rest)) n is in
    (rest, ap (λ g. g ∷ rest) (eqb-true gate 1 t.0), sym (number_take rest) ∙ t.1)

module _ (place : ℕ) (content front : List ℕ) (front_is : front ≡ take 5 (drop place content)) where
  none_ahead : length_behind front ≡ None → frames_at place content ≡ ([], None)
  none_ahead none = none_by place (drop place content) (ap length_behind (sym front_is) ∙ none)

  module _ (n : ℕ) (is : length_behind front ≡ Some n) where
    opened : (rest : List ℕ) × (drop place content ≡ 1 ∷ rest) × (number rest ≡ n)
    opened = some_by (drop place content) n (ap length_behind (sym front_is) ∙ is)

    room : length content - place ≡ suc (length opened.0)
    room = rest_length content opened.0 place 1 opened.1

    fault_by : is_frame opened.0 n ≡ false → frames_at place content ≡ ([], Some place)
    fault_by not = ap (λ l. frames_from place 0 l) opened.1 ∙ no_frame place opened.0 (ap (λ k. is_frame opened.0 k) opened.2 ∙ not)

    fault_ahead : ((0 < n) × (place + 5 + n < length content) → ⊥) → frames_at place content ≡ ([], Some place)
    fault_ahead not = fault_by (not_true (is_frame opened.0 n) (λ whole. let bound = frame_bound opened.0 n whole in not (bound.0, omega (arith, room, bound.1))))

    module _ (some : 0 < n) (long : place + 5 + n < length content) where
      whole : is_frame opened.0 n ≡ true
      whole = frame_is opened.0 n some (omega (arith, room, long))

      body_is : body_at place n content ≡ body_of opened.0 n
      body_is =
          let back : opened.0 ≡ drop (place + 1) content = ap (λ l. drop 1 l) (sym opened.1) ∙ drop-drop 1 place content in
          sym (ap (λ l. take n (drop 4 l)) back ∙ ap (λ l. take n l) (drop-drop 4 (place + 1) content ∙ ap (λ k. drop k content) (let e : place + 1 + 4 ≡ place + 5 = omega arith in e)))

      body_length : length (body_at place n content) ≡ n
      body_length = length-take-le n (drop (place + 5) content) (omega (arith, length-drop (place + 5) content, long))

      some_ahead : frames_at place content ≡ prefixed (body_at place n content ∷ []) (frames_at (place + 5 + n) content)
      some_ahead =
          ap (λ l. frames_from place 0 l) opened.1 ∙ one_frame place n opened.0 opened.2 whole
          ∙ ap (λ l. prefixed (body_of opened.0 n ∷ []) (frames_from (place + 5 + n) 0 l)) (at_next content opened.0 place n opened.1)
          ∙ ap (λ b. prefixed (b ∷ []) (frames_at (place + 5 + n) content)) (sym body_is)

-- the same of a content that may be told
module _ (place : ℕ) where
  abbrev front_of : List ℕ → List ℕ
  front_of content = take 5 (drop place content)

  pub gate_none : (seen : Option (List ℕ)) (front : List ℕ) → OfContent seen front_of front → length_behind front ≡ None → GateIs seen place (Ok None)
  gate_none None front read none = tt
  gate_none (Some content) front read none = none_ahead place content front read none

  pub gate_fault : (seen : Option (List ℕ)) (size n : ℕ) (front : List ℕ) → OfContent seen length size → OfContent seen front_of front → length_behind front ≡ Some n
      → ((0 < n) × (place + 5 + n < size) → ⊥) → GateIs seen place (Err (NotAJournal place))
  gate_fault None size n front sized read some short = tt
  gate_fault (Some content) size n front sized read some short =
      fault_ahead place content front read n some (subst (λ s. (0 < n) × (place + 5 + n < s) → ⊥) sized short)

  pub gate_some : (seen : Option (List ℕ)) (size n : ℕ) (front : List ℕ) → OfContent seen length size → OfContent seen front_of front → length_behind front ≡ Some n
      → (0 < n) × (place + 5 + n < size) → GateIs seen place (Ok (Some n))
  gate_some None size n front sized read is fits = tt
  gate_some (Some content) size n front sized read is fits =
      let long : place + 5 + n < length content = subst (λ s. place + 5 + n < s) sized fits.1 in
      (body_length place content front read n is fits.0 long, some_ahead place content front read n is fits.0 long)
