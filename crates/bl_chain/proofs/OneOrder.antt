-- A list in strict order is one by its members.
use Rattle.std.specs.Prelude.{◌≡◌, List, [], ◌∷◌, refl, Contains}
use Rattle.std.specs.declared.cmp.Ordering.{Ordering}
use Rattle.std.specs.declared.cmp.Ordering.TheVariants.{Less, Greater}
use Rattle.std.specs.Ordering.{ordering_reverse}
use Rattle.std.specs.Cmp.{IsTotalOrder}
use Rattle.std.specs.List.Sorted.{IsStrictlySortedBy}
use Rattle.std.proofs.Common.{sym, ap, ◌∙◌, inl, inr, is_lt}
use Rattle.std.proofs.lemmas.Bool.{true≢false}
use Rattle.std.proofs.lemmas.Cmp.{tied_itself}
use Rattle.std.proofs.lemmas.List.Elements.{All-contains, All-from_recursion}
use Rattle.std.proofs.lemmas.Map.Keys.{sorted_head, sorted_tail}
use Rattle.bl_files.proofs.Members.{first_member, later_member, member_cases, no_member}

module _ {X : Type 0} (cmp : X → X → Ordering) (total : IsTotalOrder cmp) where
  first_of : (a : X) (xs : List X) (b : X) → IsStrictlySortedBy cmp (a ∷ xs) → Contains xs b → cmp a b ≡ Less
  first_of a xs b up h = All-contains (λ c. cmp a c ≡ Less) xs b (All-from_recursion (λ c. cmp a c ≡ Less) xs (sorted_head cmp a xs up)) h

  not_both : {P : Type 0} (a b : X) → cmp a b ≡ Less → cmp b a ≡ Less → P
  not_both a b h k = let e : cmp a b ≡ Greater = total.antisymm a b ∙ ap ordering_reverse k in absurd (true≢false (sym (ap is_lt h) ∙ ap is_lt e))

  same_first : (a b : X) (xs ys : List X) → IsStrictlySortedBy cmp (a ∷ xs) → IsStrictlySortedBy cmp (b ∷ ys) → Contains (b ∷ ys) a → Contains (a ∷ xs) b → a ≡ b
  same_first a b xs ys up up2 h k =
      elim (member_cases b ys a h) [
        | inl same ↦ sym same
        | inr later ↦ (elim (member_cases a xs b k) [
          | inl same ↦ same
          | inr later2 ↦ not_both a b (first_of a xs b up later2) (first_of b ys a up2 later)
        ])
      ]

  same_rest : (a b : X) (xs ys : List X) → a ≡ b → IsStrictlySortedBy cmp (a ∷ xs) → ((x : X) → Contains (a ∷ xs) x → Contains (b ∷ ys) x) → (x : X) → Contains xs x → Contains ys x
  same_rest a b xs ys same up all x h =
      elim (member_cases b ys x (all x (later_member a xs x h))) [
        | inl is ↦ (let less : cmp a x ≡ Less = first_of a xs x up h in absurd (true≢false (sym (ap is_lt less) ∙ ap is_lt (ap (λ y. cmp a y) (sym (same ∙ is)) ∙ tied_itself total a))))
        | inr later ↦ later
      ]

  pub one_order : (xs ys : List X) → IsStrictlySortedBy cmp xs → IsStrictlySortedBy cmp ys → ((x : X) → Contains xs x → Contains ys x) → ((x : X) → Contains ys x → Contains xs x) → xs ≡ ys
  one_order [] [] up up2 all back = refl
  one_order [] (b ∷ ys) up up2 all back = no_member b (back b (first_member b ys))
  one_order (a ∷ xs) [] up up2 all back = no_member a (all a (first_member a xs))
  one_order (a ∷ xs) (b ∷ ys) up up2 all back =
      let same : a ≡ b = same_first a b xs ys up up2 (all a (first_member a xs)) (back b (first_member b ys)) in
      let rest : xs ≡ ys = one_order xs ys (sorted_tail cmp a xs up) (sorted_tail cmp b ys up2) (same_rest a b xs ys same up all) (same_rest b a ys xs (sym same) up2 back) in
      λ i. same i ∷ rest i
