-- The steps that lead out keep the rule.
use Rattle.std.proofs.Common.{◌≡◌, ◌≢◌, ◌⊎◌, ℕ, suc, ◌+◌, ◌-◌, ◌%◌, ◌^◌, ◌<◌, ◌≤◌, true, false, List, [], ◌∷◌, ◌++◌, length, get_or, set, sym, refl, ap, ◌∙◌, subst, arith, length-set, get_or-set_same, get_or-set_other, ⊎_elim, Some}
use Rattle.std.specs.declared.option.Option.{Option}
use mathlib.Core.Logic.{dite}
use mathlib.Core.Bool.{true≢false}
use mathlib.Core.Option.{none, some, some-injective, some-ne-none}
use native.Mathlib.Decide.{ℕ_discrete}
use lib.ListN.{get_elem?}
use Rattle.atomic_table.specs.Table.{step, keeps, gives, stepped, Allows}
use Rattle.atomic_table.proofs.Lists.{at_set, set_here}
use Rattle.bl_turnstile.specs.declared.standing.Standing.{Standing}
use Rattle.bl_turnstile.specs.Entries.{Entries, IsPrefix, one, times, added}
use Rattle.bl_turnstile.specs.Views.{idle, having, bound_to, back}
use Rattle.bl_turnstile.specs.Rule.{total, holds_ticket, owns, Numbers, IsTurn}
use Rattle.bl_turnstile.specs.Plays.{Announces, Puts, Raises}
use Rattle.bl_turnstile.proofs.Counts.{below, prefix_self, prefix_nil, prefix_length, times_append, numbered_times, total_set, total_none}
use Rattle.bl_turnstile.proofs.Parts.{Line, Lists, line_of, lists_of, whole, inner_lists, outer_lists}
use Rattle.bl_turnstile.proofs.Stepping.{own_of, loaded, only_inside}

raised_tickets : (words : List ℕ) (views : List Standing) (id : ℕ) (v w : Standing) → get_elem? views id ≡ some v → v.inside ≡ true → w.waits ≡ false → w.inside ≡ false → length words ≡ 2 → Line words views
    → Line (set words 0 (get_or words 0 0 + 1)) (set views id w)
raised_tickets words views id v w at ins ww wi two r =
    let n : ℕ = get_or words 0 0 in
    let now : (i : ℕ) (u : Standing) → get_elem? (set views id w) i ≡ some u → ((i ≡ id) × (w ≡ u)) ⊎ ((i ≢ id) × (get_elem? views i ≡ some u)) = λ i u e. at_set views id i w u e in
    let here : get_or (set words 0 (n + 1)) 0 0 ≡ n + 1 = get_or-set_same words 0 (n + 1) 0 (omega (arith, two)) in
    let there : get_or (set words 0 (n + 1)) 1 0 ≡ get_or words 1 0 = get_or-set_other words 0 1 (n + 1) 0 (λ e. omega arith) in
    let q = r.served id v at ins in
    let other_ticket : (i : ℕ) (u : Standing) → i ≢ id → get_elem? views i ≡ some u → u.waits ≡ true → u.ticket ≢ n = λ i u not e h k. not (r.tickets.differ i id u v e at h q.0 (k ∙ sym q.1)) in
    let outside : (u : Standing) → w ≡ u → ¬ (u.waits ≡ true) = λ u e h. true≢false (sym h ∙ sym (ap (λ (z : Standing). z.waits) e) ∙ ww) in
    record {
      tickets = record {
        counted = omega (arith, here, there, r.tickets.counted, total_set holds_ticket views id v w at, ap one q.0, ap one ww);
        small = omega (arith, there, r.tickets.small);
        within = λ i u e h. ⊎_elim (λ own. absurd (outside u own.1 h)) (λ other. let p = r.tickets.within i u other.1 h in let not = other_ticket i u other.0 other.1 h in (omega (arith, here, p.0, not), omega (arith, there, p.1))) (now i u e);
        differ = λ i j u z e f uw zw same. ⊎_elim
            (λ own. absurd (outside u own.1 uw))
            (λ other. ⊎_elim (λ own'. absurd (outside z own'.1 zw)) (λ other'. r.tickets.differ i j u z other.1 other'.1 uw zw same) (now j z f))
            (now i u e);
      };
      served = λ i u e h. ⊎_elim
          (λ own. absurd (true≢false (sym h ∙ sym (ap (λ (z : Standing). z.inside) own.1) ∙ wi)))
          (λ other. let p = r.served i u other.1 h in absurd (other_ticket i u other.0 other.1 p.0 p.1))
          (now i u e);
    }

raised_numbers : (views : List Standing) (id : ℕ) (v : Standing) (entries : Entries) → get_elem? views id ≡ some v → IsPrefix v.seen entries → ((j : ℕ) (u : Standing) → get_elem? views j ≡ some u → IsPrefix u.seen v.seen) → Numbers views → Numbers (set views id (idle entries (v.mine ++ added v.seen entries)))
raised_numbers views id v entries at grown longest r =
    let w : Standing = idle entries (v.mine ++ added v.seen entries) in
    let more = prefix_length v.seen entries grown in
    let fresh : (x : ℕ) → (times x (added v.seen entries) ≤ 1) × (0 < times x (added v.seen entries) → (length v.seen < x) × (x ≤ length entries)) = λ x. let q = numbered_times x (suc (length v.seen)) (length entries - length v.seen) in (q.0, λ h. let p = q.1 h in (omega (arith, p.0), omega (arith, p.1, more))) in
    let absent : (x : ℕ) → 0 < times x (added v.seen entries) → total (owns x) views ≡ 0 = λ x h. total_none (owns x) views (λ j u e. dite (ℕ_discrete (times x u.mine) 0) (λ z. z) (λ nz. absurd (omega (arith, (r.named j u e x (omega (arith, nz))).1, prefix_length u.seen v.seen (longest j u e), ((fresh x).1 h).0)))) in
    record {
      once = λ x.
          let k = total_set (owns x) views id v w at in
          let a = times_append x v.mine (added v.seen entries) in
          dite (ℕ_discrete (times x (added v.seen entries)) 0)
          (λ z. omega (arith, k, a, z, r.once x))
          (λ nz. omega (arith, k, a, absent x (omega (arith, nz)), (fresh x).0));
      named = λ i u e x some_times. ⊎_elim
          (λ own.
          let t : times x u.mine ≡ times x (v.mine ++ added v.seen entries) = sym (ap (owns x) own.1) in
          let l : length entries ≡ length u.seen = ap (λ (z : Standing). length z.seen) own.1 in
          let a = times_append x v.mine (added v.seen entries) in
          dite (ℕ_discrete (times x (added v.seen entries)) 0)
          (λ z. let q = r.named id v at x (omega (arith, t, a, z, some_times)) in (q.0, omega (arith, q.1, more, l)))
          (λ nz. let q = (fresh x).1 (omega (arith, nz)) in (omega (arith, q.0), omega (arith, q.1, l))))
          (λ other. r.named i u other.1 x some_times)
          (at_set views id i w u e);
    }

module _ {T : Type 0} (stands : T → Entries → Type 0) where
  pub announces : (slots id n : ℕ) (seen entries : Entries) (mine : List ℕ) (x : T) → stands x entries → IsPrefix seen entries → Allows (IsTurn stands) slots id (having n seen mine, (0, Some x) ∷ []) 0 (λ x. x) (Announces stands (step slots 0 0 0 none) (having n seen mine, (0, Some x) ∷ []))
  announces slots id n seen entries mine x stood grown s r _ at _ =
      let l = (lists_of stands s r) in
      let v : Standing = having n seen mine in
      let w : Standing = bound_to n seen mine entries in
      let gone : get_elem? s.homes 0 ≡ some none = l.out id v at refl in
      let lists : Lists stands s.homes (set s.views id w) = inner_lists stands s.homes s.homes s.views id v w at l entries refl (only_inside stands s r id v at refl) (λ j u e. l.fronts.longest id v at refl j u e) grown refl (prefix_nil seen) (λ y e. absurd (some-ne-none y (sym (some-injective none (some y) (sym gone ∙ e))))) (λ h. absurd (true≢false h)) (λ _. gone) in (
        w,
        keeps,
        tt,
        loaded stands s r id v w s.homes at refl refl refl (r.one_inside.served id v at refl).1 refl (omega arith) r.slots lists,
        (x, entries, refl, stood, grown, refl),
      )

  pub puts : (slots id n : ℕ) (seen entries : Entries) (mine : List ℕ) (x : T) → stands x entries → IsPrefix seen entries → Allows (IsTurn stands) slots id (bound_to n seen mine entries, (0, Some x) ∷ []) 0 (λ x. x) (Puts stands (step slots 0 0 0 none) (bound_to n seen mine entries, (0, Some x) ∷ []))
  puts slots id n seen entries mine x stood grown s r _ at _ =
      let l = (lists_of stands s r) in
      let v : Standing = bound_to n seen mine entries in
      let w : Standing = back n seen mine entries in
      let homes' : List (mathlib.Core.Option.Option (Option T)) = set s.homes 0 (some (Some x)) in
      let there : get_elem? homes' 0 ≡ some (some (Some x)) = set_here s.homes 0 (some (Some x)) (omega (arith, r.slots)) in
      let lists : Lists stands homes' (set s.views id w) = inner_lists stands s.homes homes' s.views id v w at l entries refl (only_inside stands s r id v at refl) (λ j u e. l.fronts.longest id v at refl j u e) grown refl (prefix_nil seen) (λ y e. (x, some-injective y (Some x) (some-injective (some y) (some (Some x)) (sym e ∙ there)), stood)) (λ _. (Some x, there)) (λ h. absurd (true≢false (sym h))) in (
        w,
        gives,
        tt,
        loaded stands s r id v w homes' at refl refl refl (r.one_inside.served id v at refl).1 refl (omega arith) (length-set s.homes 0 (some (Some x)) ∙ r.slots) lists,
        (entries, refl, refl),
      )

  pub raises : (slots id n : ℕ) (seen entries : Entries) (mine : List ℕ) → Allows (IsTurn stands) slots id (back n seen mine entries, []) 0 (λ w. (w + 1) % 2 ^ 64) (Raises stands (step slots 0 1 0 none) (back n seen mine entries, []))
  raises slots id n seen entries mine s r _ at _ =
      let l = (lists_of stands s r) in
      let v : Standing = back n seen mine entries in
      let w : Standing = idle entries (mine ++ added seen entries) in
      let is : l.entries ≡ entries = l.meant.here id v at refl in
      let grown : IsPrefix seen entries = subst (IsPrefix seen) is (l.fronts.each id v at) in
      let only = only_inside stands s r id v at refl in
      let q = r.one_inside.served id v at refl in
      let p = r.tickets.within id v at q.0 in
      let next : get_or s.words 0 0 + 1 ≡ (get_or s.words 0 0 + 1) % 2 ^ 64 = omega (arith, q.1, p.1, r.tickets.small) in
      let numbers : Numbers (set s.views id w) = raised_numbers s.views id v entries at grown (λ j u e. l.fronts.longest id v at refl j u e) r.numbers in
      let turn : IsTurn stands (stepped s 0 (get_or s.words 0 0 + 1) id [] w keeps) = whole stands (set s.words 0 (get_or s.words 0 0 + 1)) s.homes (set s.views id w) record {
        words = length-set s.words 0 (get_or s.words 0 0 + 1) ∙ r.words;
        slots = r.slots;
        line = raised_tickets s.words s.views id v w at refl refl refl r.words (line_of stands s r);
        lists = outer_lists stands s.homes s.views id v w at l refl refl refl refl (subst (IsPrefix entries) (sym is) (prefix_self entries)) (λ i u not e h. absurd (not (only i u e h))) (prefix_nil entries);
        numbers = numbers;
      } in (
        w,
        keeps,
        tt,
        subst (λ k. IsTurn stands (stepped s 0 k id [] w keeps)) next turn,
        (entries, refl, own_of (set s.views id w) numbers id w (set_here s.views id w (below s.views id v at)), refl),
      )
