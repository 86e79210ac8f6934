-- The steps that lead inside keep the rule.
use Rattle.std.proofs.Common.{◌≡◌, ◌≢◌, ◌⊎◌, ℕ, ◌+◌, ◌<◌, ◌≤◌, true, false, eqb, List, [], ◌∷◌, length, get_or, set, sym, refl, ap, ◌∙◌, subst, arith, length-set, get_or-set_same, get_or-set_other, eq-eqb, ne_eqb, ⊎_elim}
use Rattle.std.specs.declared.option.Option.{Option}
use mathlib.Core.Logic.{dite}
use mathlib.Core.Bool.{true≢false}
use mathlib.Core.Option.{none, some, some-injective, some-ne-none}
use native.Mathlib.Decide.{ℕ_discrete}
use lib.ListN.{get_elem?}
use prog.Atomic.{either}
use Rattle.atomic_table.specs.Table.{State, step, keeps, takes, stepped, Allows}
use Rattle.atomic_table.proofs.Lists.{at_set, set_here}
use Rattle.bl_turnstile.specs.declared.standing.Standing.{Standing}
use Rattle.bl_turnstile.specs.Entries.{Entries}
use Rattle.bl_turnstile.specs.Views.{idle, waiting, inside, having}
use Rattle.bl_turnstile.specs.Rule.{holds_ticket, IsTurn}
use Rattle.bl_turnstile.specs.Plays.{Draws, Looks, Takes}
use Rattle.bl_turnstile.proofs.Counts.{prefix_self, prefix_nil, prefix_length, total_set}
use Rattle.bl_turnstile.proofs.Parts.{Line, Lists, line_of, lists_of, whole, alone, inner_lists, outer_lists, same_numbers}
use Rattle.bl_turnstile.proofs.Stepping.{is_false, same_words, loaded, only_inside}

drawn_tickets : (words : List ℕ) (views : List Standing) (id : ℕ) (seen : Entries) (mine : List ℕ) → get_elem? views id ≡ some (idle seen mine) → length words ≡ 2 → get_or words 1 0 < 18446744073709551615 → Line words views
    → Line (set words 1 (get_or words 1 0 + 1)) (set views id (waiting (get_or words 1 0) seen mine))
drawn_tickets words views id seen mine at two room r =
    let n : ℕ = get_or words 1 0 in
    let w : Standing = waiting n seen mine in
    let now : (i : ℕ) (v : Standing) → get_elem? (set views id w) i ≡ some v → ((i ≡ id) × (w ≡ v)) ⊎ ((i ≢ id) × (get_elem? views i ≡ some v)) = λ i v e. at_set views id i w v e in
    let here : get_or (set words 1 (n + 1)) 1 0 ≡ n + 1 = get_or-set_same words 1 (n + 1) 0 (omega (arith, two)) in
    let there : get_or (set words 1 (n + 1)) 0 0 ≡ get_or words 0 0 = get_or-set_other words 1 0 (n + 1) 0 (λ e. omega arith) in
    let ordered : get_or words 0 0 ≤ n = omega (arith, r.tickets.counted) in
    record {
      tickets = record {
        counted = omega (arith, here, there, r.tickets.counted, total_set holds_ticket views id (idle seen mine) w at);
        small = omega (arith, here, room);
        within = λ i v e waits. ⊎_elim
            (λ own. let t = ap (λ (z : Standing). z.ticket) own.1 in (omega (arith, there, ordered, t), omega (arith, here, t)))
            (λ other. let q = r.tickets.within i v other.1 waits in (omega (arith, there, q.0), omega (arith, here, q.1)))
            (now i v e);
        differ = λ i j v u e f vw uw same. ⊎_elim
            (λ own. ⊎_elim
            (λ own'. own.0 ∙ sym own'.0)
            (λ other'. let t = ap (λ (z : Standing). z.ticket) own.1 in absurd (omega (arith, t, same, (r.tickets.within j u other'.1 uw).1)))
            (now j u f))
            (λ other. ⊎_elim
            (λ own'. let t = ap (λ (z : Standing). z.ticket) own'.1 in absurd (omega (arith, t, same, (r.tickets.within i v other.1 vw).1)))
            (λ other'. r.tickets.differ i j v u other.1 other'.1 vw uw same)
            (now j u f))
            (now i v e);
      };
      served = λ i v e ins. ⊎_elim
          (λ own. absurd (true≢false (sym ins ∙ sym (ap (λ (z : Standing). z.inside) own.1))))
          (λ other. let h = r.served i v other.1 ins in (h.0, h.1 ∙ sym there))
          (now i v e);
    }

module _ {T : Type 0} (stands : T → Entries → Type 0) where
  drawn : (s : State (Option T) Standing) (r : IsTurn stands s) (id : ℕ) (seen : Entries) (mine : List ℕ) → get_elem? s.views id ≡ some (idle seen mine) → get_or s.words 1 0 < 18446744073709551615
      → IsTurn stands (stepped s 1 (get_or s.words 1 0 + 1) id [] (waiting (get_or s.words 1 0) seen mine) keeps)
  drawn s r id seen mine at room =
      let n : ℕ = get_or s.words 1 0 in
      let w : Standing = waiting n seen mine in
      whole stands (set s.words 1 (n + 1)) s.homes (set s.views id w) record {
        words = length-set s.words 1 (n + 1) ∙ r.words;
        slots = r.slots;
        line = drawn_tickets s.words s.views id seen mine at r.words room (line_of stands s r);
        lists = outer_lists stands s.homes s.views id (idle seen mine) w at (lists_of stands s r) refl refl refl refl (r.fronts.each id (idle seen mine) at) (λ i u _ e h. r.fronts.longest i u e h id (idle seen mine) at) (prefix_nil seen);
        numbers = same_numbers s.views id (idle seen mine) w at refl (omega arith) r.numbers;
      }

  pub draws : (slots id old : ℕ) (seen : Entries) (mine : List ℕ) → old < 18446744073709551615 → Allows (IsTurn stands) slots id (idle seen mine, []) 1 (λ x. either (eqb x old) (old + 1) x) (Draws stands (step slots 1 old (old + 1) none) (idle seen mine, []))
  draws slots id old seen mine room s r _ at _ = dite (ℕ_discrete (get_or s.words 1 0) old)
      (λ hit. (
        waiting (get_or s.words 1 0) seen mine,
        keeps,
        tt,
        subst (λ b. IsTurn stands (stepped s 1 (either b (old + 1) (get_or s.words 1 0)) id [] (waiting (get_or s.words 1 0) seen mine) keeps)) (sym (eq-eqb (get_or s.words 1 0) old hit))
            (subst (λ n. IsTurn stands (stepped s 1 n id [] (waiting (get_or s.words 1 0) seen mine) keeps)) (ap (λ n. n + 1) hit) (drawn s r id seen mine at (omega (arith, hit, room)))),
        ((λ _. refl), λ not. absurd (not hit)),
      ))
      (λ miss. (
        idle seen mine,
        keeps,
        tt,
        subst (λ b. IsTurn stands (stepped s 1 (either b (old + 1) (get_or s.words 1 0)) id [] (idle seen mine) keeps)) (sym (ne_eqb (get_or s.words 1 0) old miss)) (same_words stands s r 1 id (idle seen mine) at),
        ((λ hit. absurd (miss hit)), λ _. refl),
      ))

  nobody : (s : State (Option T) Standing) (r : IsTurn stands s) (id n : ℕ) (seen : Entries) (mine : List ℕ) → get_elem? s.views id ≡ some (waiting n seen mine) → get_or s.words 0 0 ≡ n → (i : ℕ) (u : Standing) → get_elem? s.views i ≡ some u → ¬ (u.inside ≡ true)
  nobody s r id n seen mine at hit i u e h =
      let own : i ≡ id = alone s.words s.views id (waiting n seen mine) at refl (sym hit) (line_of stands s r) i u e h in
      true≢false (sym h ∙ sym (ap (λ (z : Standing). z.inside) (some-injective (waiting n seen mine) u (sym at ∙ ap (get_elem? s.views) (sym own) ∙ e))))

  pub looks : (slots id n : ℕ) (seen : Entries) (mine : List ℕ) → Allows (IsTurn stands) slots id (waiting n seen mine, []) 0 (λ x. x) (Looks stands (step slots 0 0 0 none) (waiting n seen mine, []))
  looks slots id n seen mine s r _ at _ = dite (ℕ_discrete (get_or s.words 0 0) n)
      (λ hit.
      let l = (lists_of stands s r) in
      let v : Standing = waiting n seen mine in
      let w : Standing = inside n l.entries mine in
      let free = nobody s r id n seen mine at hit in
      let none_has : (i : ℕ) (u : Standing) → get_elem? s.views i ≡ some u → u.has ≡ false = λ i u e. is_false u.has (λ h. free i u e (l.holder i u e h)) in
      let lists : Lists stands s.homes (set s.views id w) = inner_lists stands s.homes s.homes s.views id v w at l l.entries refl (λ i u e h. absurd (free i u e h)) l.fronts.each (prefix_self l.entries) refl (prefix_nil l.entries) l.meant.home (λ _. l.full none_has) (λ h. absurd (true≢false (sym h))) in (
        w,
        keeps,
        tt,
        loaded stands s r id v w s.homes at refl refl refl (sym hit) refl (prefix_length seen l.entries (l.fronts.each id v at)) r.slots lists,
        ((λ _. (l.entries, l.fronts.each id v at, λ k. (inside (sym hit k) l.entries mine, []))), λ not. absurd (not hit)),
      ))
      (λ miss. (
        waiting n seen mine,
        keeps,
        tt,
        same_words stands s r 0 id (waiting n seen mine) at,
        ((λ hit. absurd (miss hit)), λ _. refl),
      ))

  pub takes_it : (slots id n : ℕ) (seen : Entries) (mine : List ℕ) → Allows (IsTurn stands) slots id (inside n seen mine, []) 0 (λ x. x) (Takes stands (step slots 0 0 0 none) (inside n seen mine, []))
  takes_it slots id n seen mine s r _ at _ =
      let l = (lists_of stands s r) in
      let v : Standing = inside n seen mine in
      let w : Standing = having n seen mine in
      let only = only_inside stands s r id v at refl in
      let none_has : (i : ℕ) (u : Standing) → get_elem? s.views i ≡ some u → u.has ≡ false = λ i u e. is_false u.has (λ h.
      let own : i ≡ id = only i u e (l.holder i u e h) in
      true≢false (sym h ∙ sym (ap (λ (z : Standing). z.has) (some-injective v u (sym at ∙ ap (get_elem? s.views) (sym own) ∙ e))))) in
      let there = l.full none_has in
      let value = l.meant.home there.0 there.1 in
      let is : l.entries ≡ seen = l.meant.here id v at refl in
      let gone : get_elem? (set s.homes 0 none) 0 ≡ some none = set_here s.homes 0 none (omega (arith, r.slots)) in
      let lists : Lists stands (set s.homes 0 none) (set s.views id w) = inner_lists stands s.homes (set s.homes 0 none) s.views id v w at l seen refl only (λ j u e. l.fronts.longest id v at refl j u e) (prefix_self seen) refl (prefix_nil seen) (λ y e. absurd (some-ne-none y (sym (some-injective none (some y) (sym gone ∙ e))))) (λ h. absurd (true≢false h)) (λ _. gone) in (
        w,
        takes 0 there.0,
        there.1,
        loaded stands s r id v w (set s.homes 0 none) at refl refl refl (r.one_inside.served id v at refl).1 refl (omega arith) (length-set s.homes 0 none ∙ r.slots) lists,
        (value.0, subst (stands value.0) is value.2, λ k. (having n seen mine, (0, value.1 k) ∷ [])),
      )
