-- The first value of a name, pair by pair.
use Rattle.std.proofs.Common.{◌≡◌, ◌∙◌, ◌+◌, ◌<◌, ℕ, true, false, cond, List, ◌∷◌, Option, Some, None, drop, get_or, length, ap, sym}
use Rattle.std.proofs.lemmas.List.{drop_more}
use Rattle.bl_feed.specs.LoadBodies.{is}
use Rattle.bl_session.specs.Parameters.{value_of}

module _ (name : List ℕ) (query : List (List ℕ × List ℕ)) (i : ℕ) (pair : List ℕ × List ℕ) (within : i < length query) (at : pair ≡ get_or query i pair) where
  left : drop i query ≡ pair ∷ drop (i + 1) query
  left = drop_more query i pair within ∙ ap (λ (p : List ℕ × List ℕ). p ∷ drop (i + 1) query) (sym at)

  -- it is the value of this pair
  pub value_here : is pair.0 name ≡ true → Some pair.1 ≡ value_of name (drop i query)
  value_here same = sym (ap (value_of name) left ∙ ap (λ b. cond b (Some pair.1) (value_of name (drop (i + 1) query))) same)

  -- it stands behind this pair
  pub value_later : is pair.0 name ≡ false → value_of name (drop (i + 1) query) ≡ value_of name (drop i query)
  value_later other = sym (ap (value_of name) left ∙ ap (λ b. cond b (Some pair.1) (value_of name (drop (i + 1) query))) other)
