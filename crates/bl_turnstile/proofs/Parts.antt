-- What a change of one view does to each part of the rule.
use Rattle.std.proofs.Common.{◌≡◌, ◌≢◌, ◌⊎◌, ℕ, ◌≤◌, Bool, true, false, List, length, get_or, set, sym, refl, ap, ◌∙◌, subst, arith, ⊎_elim, Some, None}
use Rattle.std.specs.Prelude.{slice_index}
use Rattle.std.specs.Option.{unwrap_or}
use Rattle.std.specs.declared.option.Option.{Option}
use mathlib.Core.Logic.{dite}
use mathlib.Core.Bool.{true≢false}
use mathlib.Core.Option.{none, some, some-injective, some-ne-none}
use native.Mathlib.Decide.{ℕ_discrete}
use lib.ListN.{get_elem?}
use Rattle.atomic_table.proofs.Lists.{at_set, set_here, set_else}
use Rattle.atomic_table.specs.Table.{State}
use Rattle.bl_turnstile.specs.declared.standing.Standing.{Standing}
use Rattle.bl_turnstile.specs.Entries.{Entries, IsPrefix, one, times}
use Rattle.bl_turnstile.specs.Rule.{holds_ticket, owns, EachView, Tickets, Meant, AreFronts, Numbers, IsTurn}
use Rattle.bl_turnstile.proofs.Counts.{below, prefix_self, prefix_trans, total_set}

-- the first clause and the first half of the second
pub record Line (words : List ℕ) (views : List Standing) : Type 0 where
  pub tickets : Tickets words views
  pub served : EachView views (λ v. v.inside ≡ true → (v.waits ≡ true) × (v.ticket ≡ slice_index words 0))

-- the second half of the second clause, the third and the fourth
pub record Lists {T : Type 0} (stands : T → Entries → Type 0) (homes : List (mathlib.Core.Option.Option (Option T))) (views : List Standing) : Type 0 where
  pub entries : Entries
  pub holder : EachView views (λ v. v.has ≡ true → v.inside ≡ true)
  pub out : EachView views (λ v. v.has ≡ true → get_elem? homes 0 ≡ some none)
  pub full : EachView views (λ v. v.has ≡ false) → (y : Option T) × (get_elem? homes 0 ≡ some (some y))
  pub meant : Meant stands entries homes views
  pub fronts : AreFronts entries views

module _ {T : Type 0} (stands : T → Entries → Type 0) (s : State (Option T) Standing) where
  abbrev pub line_of : IsTurn stands s → Line s.words s.views
  line_of r = record { tickets = r.tickets; served = r.one_inside.served }

  abbrev pub lists_of : IsTurn stands s → Lists stands s.homes s.views
  lists_of r = record { entries = r.entries; holder = r.one_inside.holder; out = r.one_inside.out; full = r.one_inside.full; meant = r.meant; fronts = r.fronts }

-- the rule from its parts
pub record Whole {T : Type 0} (stands : T → Entries → Type 0) (ws : List ℕ) (homes : List (mathlib.Core.Option.Option (Option T))) (views : List Standing) : Type 0 where
  pub words : length ws ≡ 2
  pub slots : length homes ≡ 1
  pub line : Line ws views
  pub lists : Lists stands homes views
  pub numbers : Numbers views

abbrev pub whole : {T : Type 0} (stands : T → Entries → Type 0) (words : List ℕ) (homes : List (mathlib.Core.Option.Option (Option T))) (views : List Standing) → Whole stands words homes views → IsTurn stands record { words = words; homes = homes; views = views }
whole stands words homes views p = record {
  words = p.words;
  slots = p.slots;
  tickets = p.line.tickets;
  one_inside = record { served = p.line.served; holder = p.lists.holder; out = p.lists.out; full = p.lists.full };
  entries = p.lists.entries;
  meant = p.lists.meant;
  fronts = p.lists.fronts;
  numbers = p.numbers;
}

-- what an old view had, of which a new one has the same
Turn : Type 0
Turn = Bool × Bool × ℕ

abbrev pub turn_of : Standing → Bool × Bool × ℕ
turn_of v = (v.waits, v.inside, v.ticket)

pub was : (views : List Standing) (id : ℕ) (v w : Standing) → get_elem? views id ≡ some v → {A : Type 0} (f : Standing → A) → f v ≡ f w
    → (i : ℕ) (x : Standing) → get_elem? (set views id w) i ≡ some x → (u : Standing) × (get_elem? views i ≡ some u) × (f u ≡ f x)
was views id v w at f e i x here = ⊎_elim (λ own. (v, ap (get_elem? views) own.0 ∙ at, e ∙ ap f own.1)) (λ other. (x, other.1, refl)) (at_set views id i w x here)

-- the ticket is as it was
pub same_tickets : (words : List ℕ) (views : List Standing) (id : ℕ) (v w : Standing) → get_elem? views id ≡ some v → turn_of v ≡ turn_of w → Line words views → Line words (set views id w)
same_tickets words views id v w at e r =
    let was' = was views id v w at turn_of e in
    let waits : (i : ℕ) (x : Standing) (here : get_elem? (set views id w) i ≡ some x) → x.waits ≡ true → (was' i x here).0.waits ≡ true = λ i x here h. ap (λ (t : Bool × Bool × ℕ). t.0) (was' i x here).2 ∙ h in
    let ticket : (i : ℕ) (x : Standing) (here : get_elem? (set views id w) i ≡ some x) → (was' i x here).0.ticket ≡ x.ticket = λ i x here. ap (λ (t : Bool × Bool × ℕ). t.2) (was' i x here).2 in
    record {
      tickets = record {
        counted = omega (arith, r.tickets.counted, total_set holds_ticket views id v w at, ap (λ (t : Bool × Bool × ℕ). one t.0) e);
        small = r.tickets.small;
        within = λ i x here h. let q = r.tickets.within i (was' i x here).0 (was' i x here).1 (waits i x here h) in let t = ticket i x here in (omega (arith, q.0, t), omega (arith, q.1, t));
        differ = λ i j x y hx hy wx wy same. r.tickets.differ i j (was' i x hx).0 (was' j y hy).0 (was' i x hx).1 (was' j y hy).1 (waits i x hx wx) (waits j y hy wy) (ticket i x hx ∙ same ∙ sym (ticket j y hy));
      };
      served = λ i x here h.
          let u = was' i x here in
          let q = r.served i u.0 u.1 (ap (λ (t : Bool × Bool × ℕ). t.1) u.2 ∙ h) in
          (ap (λ (t : Bool × Bool × ℕ). t.0) (sym u.2) ∙ q.0, sym (ticket i x here) ∙ q.1);
    }

-- only one view is inside
pub alone : (words : List ℕ) (views : List Standing) (id : ℕ) (v : Standing) → get_elem? views id ≡ some v → v.waits ≡ true → v.ticket ≡ get_or words 0 0 → Line words views
    → (i : ℕ) (u : Standing) → get_elem? views i ≡ some u → u.inside ≡ true → i ≡ id
alone words views id v at w mine r i u here h = let q = r.served i u here h in r.tickets.differ i id u v here at q.0 w (q.1 ∙ sym mine)

-- the view that is served, changed while it is inside. Nobody else was inside
pub inner_lists : {T : Type 0} (stands : T → Entries → Type 0) (homes homes' : List (mathlib.Core.Option.Option (Option T))) (views : List Standing) (id : ℕ) (v w : Standing) → get_elem? views id ≡ some v
    → Lists stands homes views
    → (entries : Entries)
    → w.inside ≡ true
    → ((i : ℕ) (u : Standing) → get_elem? views i ≡ some u → u.inside ≡ true → i ≡ id)
    → ((j : ℕ) (u : Standing) → get_elem? views j ≡ some u → IsPrefix u.seen w.seen)
    → IsPrefix w.seen entries
    → entries ≡ unwrap_or w.bound w.seen
    → IsPrefix w.note w.seen
    → ((y : Option T) → get_elem? homes' 0 ≡ some (some y) → (x : T) × (y ≡ Some x) × stands x entries)
    → (w.has ≡ false → (y : Option T) × (get_elem? homes' 0 ≡ some (some y)))
    → (w.has ≡ true → get_elem? homes' 0 ≡ some none)
    → Lists stands homes' (set views id w)
inner_lists stands homes homes' views id v w at r entries ins only before grown meant noted home full out =
    let now : (i : ℕ) (u : Standing) → get_elem? (set views id w) i ≡ some u → ((i ≡ id) × (w ≡ u)) ⊎ ((i ≢ id) × (get_elem? views i ≡ some u)) = λ i u e. at_set views id i w u e in
    record {
      entries = entries;
      holder = λ i u e h. ⊎_elim (λ own. sym (ap (λ (z : Standing). z.inside) own.1) ∙ ins) (λ other. r.holder i u other.1 h) (now i u e);
      out = λ i u e h. ⊎_elim (λ own. out (ap (λ (z : Standing). z.has) own.1 ∙ h)) (λ other. absurd (other.0 (only i u other.1 (r.holder i u other.1 h)))) (now i u e);
      full = λ none_has. full (none_has id w (set_here views id w (below views id v at)));
      meant = record {
        home = home;
        here = λ i u e h. ⊎_elim (λ own. meant ∙ ap (λ (z : Standing). unwrap_or z.bound z.seen) own.1) (λ other. absurd (other.0 (only i u other.1 h))) (now i u e);
        unbound = λ i u e h. ⊎_elim (λ own. absurd (true≢false (sym ins ∙ ap (λ (z : Standing). z.inside) own.1 ∙ h))) (λ other. r.meant.unbound i u other.1 h) (now i u e);
      };
      fronts = record {
        each = λ i u e. ⊎_elim (λ own. subst (λ (z : Standing). IsPrefix z.seen entries) own.1 grown) (λ other. prefix_trans u.seen w.seen entries (before i u other.1) grown) (now i u e);
        longest = λ i u e h j z f. ⊎_elim
            (λ own. ⊎_elim
            (λ own'. subst (λ (y : Standing). IsPrefix z.seen y.seen) own.1 (subst (λ (y : Standing). IsPrefix y.seen w.seen) own'.1 (prefix_self w.seen)))
            (λ other'. subst (λ (y : Standing). IsPrefix z.seen y.seen) own.1 (before j z other'.1))
            (now j z f))
            (λ other. absurd (other.0 (only i u other.1 h)))
            (now i u e);
        noted = λ i u e. ⊎_elim (λ own. subst (λ (z : Standing). IsPrefix z.note z.seen) own.1 noted) (λ other. r.fronts.noted i u other.1) (now i u e);
      };
    }

-- a view, changed while it is not inside, or as it comes out
pub outer_lists : {T : Type 0} (stands : T → Entries → Type 0) (homes : List (mathlib.Core.Option.Option (Option T))) (views : List Standing) (id : ℕ) (v w : Standing) → get_elem? views id ≡ some v
    → (r : Lists stands homes views)
    → v.has ≡ false → w.has ≡ false → w.inside ≡ false → w.bound ≡ None
    → IsPrefix w.seen r.entries
    → ((i : ℕ) (u : Standing) → i ≢ id → get_elem? views i ≡ some u → u.inside ≡ true → IsPrefix w.seen u.seen)
    → IsPrefix w.note w.seen
    → Lists stands homes (set views id w)
outer_lists stands homes views id v w at r v_has w_has ins bound grown before noted =
    let now : (i : ℕ) (u : Standing) → get_elem? (set views id w) i ≡ some u → ((i ≡ id) × (w ≡ u)) ⊎ ((i ≢ id) × (get_elem? views i ≡ some u)) = λ i u e. at_set views id i w u e in
    record {
      entries = r.entries;
      holder = λ i u e h. ⊎_elim (λ own. absurd (true≢false (sym h ∙ sym (ap (λ (z : Standing). z.has) own.1) ∙ w_has))) (λ other. r.holder i u other.1 h) (now i u e);
      out = λ i u e h. ⊎_elim (λ own. absurd (true≢false (sym h ∙ sym (ap (λ (z : Standing). z.has) own.1) ∙ w_has))) (λ other. r.out i u other.1 h) (now i u e);
      full = λ none_has. r.full (λ i u e. dite (ℕ_discrete i id)
          (λ own. sym (ap (λ (z : Standing). z.has) (some-injective v u (sym at ∙ ap (get_elem? views) (sym own) ∙ e))) ∙ v_has)
          (λ other. none_has i u (set_else views id i w other ∙ e)));
      meant = record {
        home = r.meant.home;
        here = λ i u e h. ⊎_elim (λ own. absurd (true≢false (sym h ∙ sym (ap (λ (z : Standing). z.inside) own.1) ∙ ins))) (λ other. r.meant.here i u other.1 h) (now i u e);
        unbound = λ i u e h. ⊎_elim (λ own. sym (ap (λ (z : Standing). z.bound) own.1) ∙ bound) (λ other. r.meant.unbound i u other.1 h) (now i u e);
      };
      fronts = record {
        each = λ i u e. ⊎_elim (λ own. subst (λ (z : Standing). IsPrefix z.seen r.entries) own.1 grown) (λ other. r.fronts.each i u other.1) (now i u e);
        longest = λ i u e h j z f. ⊎_elim
            (λ own. absurd (true≢false (sym h ∙ sym (ap (λ (y : Standing). y.inside) own.1) ∙ ins)))
            (λ other. ⊎_elim
            (λ own'. subst (λ (y : Standing). IsPrefix y.seen u.seen) own'.1 (before i u other.0 other.1 h))
            (λ other'. r.fronts.longest i u other.1 h j z other'.1)
            (now j z f))
            (now i u e);
        noted = λ i u e. ⊎_elim (λ own. subst (λ (z : Standing). IsPrefix z.note z.seen) own.1 noted) (λ other. r.fronts.noted i u other.1) (now i u e);
      };
    }

-- the own numbers are as they were, and no less was seen
pub same_numbers : (views : List Standing) (id : ℕ) (v w : Standing) → get_elem? views id ≡ some v → w.mine ≡ v.mine → length v.seen ≤ length w.seen → Numbers views → Numbers (set views id w)
same_numbers views id v w at e h r = record {
  once = λ x. let t = ap (times x) e in omega (arith, r.once x, total_set (owns x) views id v w at, t);
  named = λ i u f x some_times. ⊎_elim
      (λ own.
      let t : times x u.mine ≡ times x v.mine = sym (ap (owns x) own.1) ∙ ap (times x) e in
      let l : length w.seen ≡ length u.seen = ap (λ (z : Standing). length z.seen) own.1 in
      let q = r.named id v at x (omega (arith, t, some_times)) in (q.0, omega (arith, q.1, h, l)))
      (λ other. r.named i u other.1 x some_times)
      (at_set views id i w u f);
}
