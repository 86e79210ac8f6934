-- Members of lists, one item at a time.
use Rattle.std.specs.Prelude.{◌≡◌, Bool, true, false, cond, List, [], ◌∷◌, map, filter, refl}
use Rattle.std.proofs.Common.{sym, ap, subst, ◌∙◌, arith, inl, inr, ◌⊎◌}
use Rattle.std.specs.List.{Contains}
use Rattle.std.proofs.lemmas.List.Elements.{Contains-append_left, Contains-append_right, Contains-push, Contains-push_cases, Contains-append_cases}

module _ {X : Type 0} where
  pub no_member : {P : Type 0} (x : X) → Contains [] x → P
  no_member x h = absurd (omega (arith, h.1))

  pub first_member : (x : X) (xs : List X) → Contains (x ∷ xs) x
  first_member x xs = Contains-append_left (x ∷ []) xs x (Contains-push [] x)

  pub later_member : (y : X) (xs : List X) (x : X) → Contains xs x → Contains (y ∷ xs) x
  later_member y xs x h = Contains-append_right (y ∷ []) xs x h

  pub member_cases : (y : X) (xs : List X) (x : X) → Contains (y ∷ xs) x → (y ≡ x) ⊎ Contains xs x
  member_cases y xs x h =
      elim (Contains-append_cases (y ∷ []) xs x h) [
        | inl here ↦ (elim (Contains-push_cases [] y x here) [ inl none ↦ no_member x none | inr same ↦ inl same ])
        | inr later ↦ inr later
      ]

module _ {X Y : Type 0} (p : X → Bool) (f : X → Y) where
  -- y is made of an item that passes
  abbrev pub Selected : List X → Y → Type 0
  Selected xs y = (x : X) × Contains xs x × (p x ≡ true) × (y ≡ f x)

  more : (x : X) (xs : List X) (y : Y) → Selected xs y → Selected (x ∷ xs) y
  more x xs y h = (h.0, later_member x xs h.0 h.1, h.2, h.3)

  selected_by : (x : X) (xs : List X) (y : Y) (b : Bool) → p x ≡ b → (Contains (map f (filter p xs)) y → Selected xs y) → Contains (map f (cond b (x ∷ filter p xs) (filter p xs))) y → Selected (x ∷ xs) y
  selected_by x xs y true is rest h =
      elim (member_cases (f x) (map f (filter p xs)) y h) [
        | inl same ↦ (x, first_member x xs, is, sym same)
        | inr later ↦ more x xs y (rest later)
      ]
  selected_by x xs y false is rest h = more x xs y (rest h)

  pub selected : (xs : List X) (y : Y) → Contains (map f (filter p xs)) y → Selected xs y
  selected [] y h = no_member y h
  selected (x ∷ xs) y h = selected_by x xs y (p x) refl (selected xs y) h

  later_kept : (b : Bool) (x : X) (xs : List X) (y : Y) → Contains (map f (filter p xs)) y → Contains (map f (cond b (x ∷ filter p xs) (filter p xs))) y
  later_kept true x xs y h = later_member (f x) (map f (filter p xs)) y h
  later_kept false x xs y h = h

  pub select : (xs : List X) (x : X) → Contains xs x → p x ≡ true → Contains (map f (filter p xs)) (f x)
  select [] x h passes = no_member x h
  select (z ∷ xs) x h passes =
      elim (member_cases z xs x h) [
        | inl same ↦ subst (λ b. Contains (map f (cond b (z ∷ filter p xs) (filter p xs))) (f x)) (sym (ap p same ∙ passes)) (subst (λ y. Contains (f z ∷ map f (filter p xs)) y) (ap f same) (first_member (f z) (map f (filter p xs))))
        | inr later ↦ later_kept (p z) z xs (f x) (select xs x later passes)
      ]
