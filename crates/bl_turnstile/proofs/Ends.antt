-- A turnstile as it is made, and as it is closed.
use Rattle.std.proofs.Common.{◌≡◌, ℕ, zero, suc, false, List, [], ◌∷◌, sym, refl, ap, ◌∙◌, subst, arith, Some}
use Rattle.std.specs.declared.option.Option.{Option}
use mathlib.Core.Bool.{true≢false}
use mathlib.Core.Option.{some, some-injective, some-ne-none}
use lib.ListN.{get_elem?}
use Rattle.atomic_table.specs.Table.{State, opening}
use Rattle.bl_turnstile.specs.declared.standing.Standing.{Standing}
use Rattle.bl_turnstile.specs.Entries.{Entries, IsPrefix, times}
use Rattle.bl_turnstile.specs.Views.{idle, inside}
use Rattle.bl_turnstile.specs.Rule.{owns, IsTurn}
use Rattle.bl_turnstile.proofs.Counts.{prefix_self, prefix_nil}
use Rattle.bl_turnstile.proofs.Parts.{lists_of, whole}
use Rattle.bl_turnstile.proofs.Stepping.{is_false, only_inside}

at_one : (w : Standing) (i : ℕ) (u : Standing) → get_elem? (w ∷ []) i ≡ some u → w ≡ u
at_one w zero u e = some-injective w u e
at_one w (suc i) u e = absurd (some-ne-none u (sym e))

module _ {T : Type 0} (stands : T → Entries → Type 0) where
  -- the turnstile as it is made
  pub opens : (x : T) (first : Entries) (items : List (Option T)) → stands x first → items ≡ Some x ∷ [] → IsTurn stands (opening (0 ∷ 0 ∷ []) items (idle first []))
  opens x first items stood e =
      let w : Standing = idle first [] in
      let one_view : (i : ℕ) (u : Standing) → get_elem? (w ∷ []) i ≡ some u → w ≡ u = at_one w in
      subst (λ xs. IsTurn stands (opening (0 ∷ 0 ∷ []) xs w)) (sym e) (whole stands (0 ∷ 0 ∷ []) (some (Some x) ∷ []) (w ∷ []) record {
        words = refl;
        slots = refl;
        line = record {
          tickets = record {
            counted = refl;
            small = omega arith;
            within = λ i u f h. absurd (true≢false (sym h ∙ sym (ap (λ (z : Standing). z.waits) (one_view i u f))));
            differ = λ i j u z f f' h h' k. absurd (true≢false (sym h ∙ sym (ap (λ (z : Standing). z.waits) (one_view i u f))));
          };
          served = λ i u f h. absurd (true≢false (sym h ∙ sym (ap (λ (z : Standing). z.inside) (one_view i u f))));
        };
        lists = record {
          entries = first;
          holder = λ i u f h. absurd (true≢false (sym h ∙ sym (ap (λ (z : Standing). z.has) (one_view i u f))));
          out = λ i u f h. absurd (true≢false (sym h ∙ sym (ap (λ (z : Standing). z.has) (one_view i u f))));
          full = λ _. (Some x, refl);
          meant = record {
            home = λ y f. (x, sym (some-injective (Some x) y (some-injective (some (Some x)) (some y) f)), stood);
            here = λ i u f h. absurd (true≢false (sym h ∙ sym (ap (λ (z : Standing). z.inside) (one_view i u f))));
            unbound = λ i u f h. sym (ap (λ (z : Standing). z.bound) (one_view i u f));
          };
          fronts = record {
            each = λ i u f. subst (λ (z : Standing). IsPrefix z.seen first) (one_view i u f) (prefix_self first);
            longest = λ i u f h j z f'. absurd (true≢false (sym h ∙ sym (ap (λ (y : Standing). y.inside) (one_view i u f))));
            noted = λ i u f. subst (λ (z : Standing). IsPrefix z.note z.seen) (one_view i u f) (prefix_nil first);
          };
        };
        numbers = record {
          once = λ y. omega arith;
          named = λ i u f y h. let t : 0 ≡ times y u.mine = ap (owns y) (one_view i u f) in absurd (omega (arith, t, h));
        };
      })

  -- the value is at home while its turn is served, before it is taken
  pub closes : (id n : ℕ) (seen : Entries) (mine : List ℕ) (s : State (Option T) Standing) → IsTurn stands s → get_elem? s.views id ≡ some (inside n seen mine) → (x : T) × (get_elem? s.homes 0 ≡ some (some (Some x))) × stands x seen
  closes id n seen mine s r at =
      let l = (lists_of stands s r) in
      let v : Standing = inside n seen mine in
      let only = only_inside stands s r id v at refl in
      let none_has : (i : ℕ) (u : Standing) → get_elem? s.views i ≡ some u → u.has ≡ false = λ i u e. is_false u.has (λ h.
      let own : i ≡ id = only i u e (l.holder i u e h) in
      true≢false (sym h ∙ sym (ap (λ (z : Standing). z.has) (some-injective v u (sym at ∙ ap (get_elem? s.views) (sym own) ∙ e))))) in
      let there = l.full none_has in
      let value = l.meant.home there.0 there.1 in
      (value.0, there.1 ∙ ap (λ y. some (some y)) value.1, subst (stands value.0) (l.meant.here id v at refl) value.2)
