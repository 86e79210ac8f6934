-- Passes that are split and joined keep the rule.
use Rattle.std.proofs.Common.{◌≡◌, ◌⊎◌, ℕ, true, false, List, [], ◌∷◌, ◌++◌, length, get_or, set, sym, refl, ap, ◌∙◌, subst, arith, length-set, ⊎_elim, None}
use mathlib.Core.Logic.{dite}
use mathlib.Core.Bool.{true≢false}
use mathlib.Core.Option.{none, some}
use native.Mathlib.Decide.{ℕ_discrete}
use lib.ListN.{get_elem?}
use Rattle.atomic_table.specs.Table.{step, keeps, stepped, Allows, Splits, Joins}
use Rattle.atomic_table.proofs.Lists.{at_set, at_snoc, at_longer, set_else, set_again}
use Rattle.bl_turnstile.specs.declared.standing.Standing.{Standing}
use Rattle.bl_turnstile.specs.Entries.{Entries, IsPrefix, times, longer}
use Rattle.bl_turnstile.specs.Views.{idle, joined, newcomer, same_view}
use Rattle.bl_turnstile.specs.Rule.{holds_ticket, owns, IsTurn}
use Rattle.bl_turnstile.specs.Plays.{Settles}
use Rattle.bl_turnstile.proofs.Counts.{prefix_nil, times_append, longer_of, longer_begins, longer_length, total_set, total_snoc}
use Rattle.bl_turnstile.proofs.Parts.{Line, Lists, line_of, lists_of, whole, turn_of, same_tickets, outer_lists, same_numbers}
use Rattle.bl_turnstile.proofs.Stepping.{kept, own_of}

module _ {T : Type 0} (stands : T → Entries → Type 0) where
  pub settles : (slots id : ℕ) (seen note : Entries) (mine : List ℕ) (v : Standing) → v ≡ record { waits = false; inside = false; has = false; ticket = 0; seen = seen; mine = mine; bound = None; note = note } → Allows (IsTurn stands) slots id (v, []) 0 (λ x. x) (Settles stands (step slots 0 0 0 none) (v, []))
  settles slots id seen note mine v is s r _ at _ =
      let l = (lists_of stands s r) in
      let w : Standing = idle v.seen v.mine in
      let outside : v.inside ≡ false = ap (λ (z : Standing). z.inside) is in
      let turn : IsTurn stands (stepped s 0 (get_or s.words 0 0) id [] w keeps) = whole stands (set s.words 0 (get_or s.words 0 0)) s.homes (set s.views id w) record {
        words = length-set s.words 0 (get_or s.words 0 0) ∙ r.words;
        slots = r.slots;
        line = subst (λ ws. Line ws (set s.views id w)) (sym (kept s.words)) (same_tickets s.words s.views id v w at (ap turn_of is) (line_of stands s r));
        lists = outer_lists stands s.homes s.views id v w at l (ap (λ (z : Standing). z.has) is) refl refl refl (l.fronts.each id v at) (λ i u _ e h. l.fronts.longest i u e h id v at) (prefix_nil v.seen);
        numbers = same_numbers s.views id v w at refl (omega arith) r.numbers;
      } in (
        w,
        keeps,
        tt,
        turn,
        (l.fronts.noted id v at, own_of s.views r.numbers id v at, refl),
      )

  pub splits : (id : ℕ) (v : Standing) (seen : Entries) (mine : List ℕ) → v ≡ idle seen mine → Splits (IsTurn stands) id v (same_view v) (newcomer v)
  splits id v seen mine is s r at =
      let l = (lists_of stands s r) in
      let w : Standing = newcomer v in
      let again : set s.views id v ≡ s.views = set_again s.views id v at in
      let now : (i : ℕ) (u : Standing) → get_elem? (s.views ++ w ∷ []) i ≡ some u → (get_elem? s.views i ≡ some u) ⊎ (w ≡ u) = λ i u e. at_snoc s.views w u i e in
      let still : (u : Standing) → w ≡ u → ¬ (u.waits ≡ true) = λ u e h. true≢false (sym h ∙ sym (ap (λ (z : Standing). z.waits) e)) in
      let out : (u : Standing) → w ≡ u → ¬ (u.inside ≡ true) = λ u e h. true≢false (sym h ∙ sym (ap (λ (z : Standing). z.inside) e)) in
      let lacks : (u : Standing) → w ≡ u → ¬ (u.has ≡ true) = λ u e h. true≢false (sym h ∙ sym (ap (λ (z : Standing). z.has) e)) in
      let longer_by : IsTurn stands record { words = s.words; homes = s.homes; views = s.views ++ w ∷ [] } = whole stands s.words s.homes (s.views ++ w ∷ []) record {
        words = r.words;
        slots = r.slots;
        line = record {
          tickets = record {
            counted = omega (arith, r.tickets.counted, total_snoc holds_ticket s.views w);
            small = r.tickets.small;
            within = λ i u e h. ⊎_elim (λ old. r.tickets.within i u old h) (λ new. absurd (still u new h)) (now i u e);
            differ = λ i j u z e f uw zw k. ⊎_elim (λ old. ⊎_elim (λ old'. r.tickets.differ i j u z old old' uw zw k) (λ new. absurd (still z new zw)) (now j z f)) (λ new. absurd (still u new uw)) (now i u e);
          };
          served = λ i u e h. ⊎_elim (λ old. r.one_inside.served i u old h) (λ new. absurd (out u new h)) (now i u e);
        };
        lists = record {
          entries = l.entries;
          holder = λ i u e h. ⊎_elim (λ old. l.holder i u old h) (λ new. absurd (lacks u new h)) (now i u e);
          out = λ i u e h. ⊎_elim (λ old. l.out i u old h) (λ new. absurd (lacks u new h)) (now i u e);
          full = λ none_has. l.full (λ i u e. none_has i u (at_longer s.views (w ∷ []) i u e));
          meant = record {
            home = l.meant.home;
            here = λ i u e h. ⊎_elim (λ old. l.meant.here i u old h) (λ new. absurd (out u new h)) (now i u e);
            unbound = λ i u e h. ⊎_elim (λ old. l.meant.unbound i u old h) (λ new. sym (ap (λ (z : Standing). z.bound) new)) (now i u e);
          };
          fronts = record {
            each = λ i u e. ⊎_elim (λ old. l.fronts.each i u old) (λ new. subst (λ (z : Standing). IsPrefix z.seen l.entries) new (l.fronts.each id v at)) (now i u e);
            longest = λ i u e h j z f. ⊎_elim (λ old. ⊎_elim (λ old'. l.fronts.longest i u old h j z old') (λ new. subst (λ (y : Standing). IsPrefix y.seen u.seen) new (l.fronts.longest i u old h id v at)) (now j z f)) (λ new. absurd (out u new h)) (now i u e);
            noted = λ i u e. ⊎_elim (λ old. l.fronts.noted i u old) (λ new. subst (λ (z : Standing). IsPrefix z.note z.seen) new (prefix_nil v.seen)) (now i u e);
          };
        };
        numbers = record {
          once = λ x. omega (arith, r.numbers.once x, total_snoc (owns x) s.views w);
          named = λ i u e x h. ⊎_elim (λ old. r.numbers.named i u old x h) (λ new. let t : 0 ≡ times x u.mine = ap (owns x) new in absurd (omega (arith, t, h))) (now i u e);
        };
      } in
      subst (λ views. IsTurn stands record { words = s.words; homes = s.homes; views = views ++ w ∷ [] }) (sym again) longer_by

  pub joins : (id other : ℕ) (v w : Standing) (seen seen' : Entries) (mine mine' : List ℕ) → v ≡ idle seen mine → w ≡ idle seen' mine' → Joins (IsTurn stands) id v other w (joined v w) (idle [] [])
  joins id other v w seen seen' mine mine' vis wis s r at apart at' =
      let l = (lists_of stands s r) in
      let both : Standing = joined v w in
      let spent : Standing = idle [] [] in
      let views' : List Standing = set s.views id both in
      let was_there : get_elem? s.views other ≡ some w = sym (set_else s.views id other both apart) ∙ at' in
      let v_each = l.fronts.each id v at in
      let w_each = l.fronts.each other w was_there in
      let lists' : Lists stands s.homes views' = outer_lists stands s.homes s.views id v both at l (ap (λ (z : Standing). z.has) vis) refl refl refl
      (longer_of (λ e. IsPrefix e l.entries) v.seen w.seen l.entries v_each w_each v_each w_each)
      (λ i u _ e h. longer_of (λ k. IsPrefix k u.seen) v.seen w.seen l.entries v_each w_each (l.fronts.longest i u e h id v at) (l.fronts.longest i u e h other w was_there))
      (longer_begins v.seen w.seen l.entries v_each w_each) in
      let sizes = longer_length v.seen w.seen l.entries v_each w_each in
      whole stands s.words s.homes (set views' other spent) record {
        words = r.words;
        slots = r.slots;
        line = same_tickets s.words views' other w spent at' (ap turn_of wis) (same_tickets s.words s.views id v both at (ap turn_of vis) (line_of stands s r));
        lists = outer_lists stands s.homes views' other w spent at' lists' (ap (λ (z : Standing). z.has) wis) refl refl refl (prefix_nil lists'.entries) (λ i u _ e h. prefix_nil u.seen) (prefix_nil []);
        numbers = record {
          once = λ x. omega (arith, r.numbers.once x, total_set (owns x) s.views id v both at, total_set (owns x) views' other w spent at', times_append x v.mine w.mine);
          named = λ i u e x h. ⊎_elim
              (λ own. let t : 0 ≡ times x u.mine = ap (owns x) own.1 in absurd (omega (arith, t, h)))
              (λ before. ⊎_elim
              (λ own.
              let t : times x (v.mine ++ w.mine) ≡ times x u.mine = ap (owns x) own.1 in
              let a = times_append x v.mine w.mine in
              let k : length (longer v.seen w.seen) ≡ length u.seen = ap (λ (z : Standing). length z.seen) own.1 in
              dite (ℕ_discrete (times x v.mine) 0)
              (λ z. let q = r.numbers.named other w was_there x (omega (arith, t, a, z, h)) in (q.0, omega (arith, q.1, sizes.1, k)))
              (λ nz. let q = r.numbers.named id v at x (omega (arith, nz)) in (q.0, omega (arith, q.1, sizes.0, k))))
              (λ old. r.numbers.named i u old.1 x h)
              (at_set s.views id i both u before.1))
              (at_set views' other i spent u e);
        };
      }
