-- What the steps have in common.
use Rattle.std.proofs.Common.{◌≡◌, ◌≢◌, ◌⊎◌, ℕ, ◌≤◌, Bool, true, false, List, [], length, get_or, set, sym, refl, ap, ◌∙◌, subst, arith, length-set, ⊎_elim}
use Rattle.std.specs.declared.option.Option.{Option}
use mathlib.Core.Option.{none, some, some-injective, some-ne-none}
use lib.ListN.{get_elem?}
use Rattle.atomic_table.specs.Table.{State, keeps, stepped}
use Rattle.atomic_table.proofs.Lists.{at_set, set_again}
use Rattle.std.proofs.lemmas.List.{set-get_or}
use Rattle.bl_turnstile.specs.declared.standing.Standing.{Standing}
use Rattle.bl_turnstile.specs.Entries.{Entries, AreOwn, one}
use Rattle.bl_turnstile.specs.Rule.{holds_ticket, owns, Numbers, IsTurn}
use Rattle.bl_turnstile.proofs.Counts.{total_set, total_least}
use Rattle.bl_turnstile.proofs.Parts.{Line, Lists, line_of, whole, alone, same_numbers}

pub kept : (words : List ℕ) → set words 0 (get_or words 0 0) ≡ words
kept words = set-get_or words 0 0

-- the numbers of one view
pub own_of : (views : List Standing) → Numbers views → (id : ℕ) (v : Standing) → get_elem? views id ≡ some v → AreOwn v.mine v.seen
own_of views r id v at x = (omega (arith, total_least (owns x) views id v at, r.once x), r.named id v at x)

pub is_false : (b : Bool) → ¬ (b ≡ true) → b ≡ false
is_false true h = absurd (h refl)
is_false false h = refl

pub looked_tickets : (words : List ℕ) (views : List Standing) (id n : ℕ) (v : Standing) (w : Standing) → get_elem? views id ≡ some v → v.waits ≡ true → w.waits ≡ true → w.ticket ≡ v.ticket → w.ticket ≡ get_or words 0 0 → Line words views → Line words (set views id w)
looked_tickets words views id n v w at vw ww t mine r =
    let now : (i : ℕ) (u : Standing) → get_elem? (set views id w) i ≡ some u → ((i ≡ id) × (w ≡ u)) ⊎ ((i ≢ id) × (get_elem? views i ≡ some u)) = λ i u e. at_set views id i w u e in
    let q = r.tickets.within id v at vw in
    let o : holds_ticket v ≡ 1 = ap one vw in
    let o' : holds_ticket w ≡ 1 = ap one ww in
    record {
      tickets = record {
        counted = omega (arith, r.tickets.counted, total_set holds_ticket views id v w at, o, o');
        small = r.tickets.small;
        within = λ i u e h. ⊎_elim (λ own. let k = ap (λ (z : Standing). z.ticket) own.1 in (omega (arith, k, t, q.0), omega (arith, k, t, q.1))) (λ other. r.tickets.within i u other.1 h) (now i u e);
        differ = λ i j u z e f uw zw same. ⊎_elim
            (λ own. ⊎_elim (λ own'. own.0 ∙ sym own'.0) (λ other'. own.0 ∙ r.tickets.differ id j v z at other'.1 vw zw (sym t ∙ ap (λ (y : Standing). y.ticket) own.1 ∙ same)) (now j z f))
            (λ other. ⊎_elim (λ own'. r.tickets.differ i id u v other.1 at uw vw (same ∙ sym (ap (λ (y : Standing). y.ticket) own'.1) ∙ t) ∙ sym own'.0) (λ other'. r.tickets.differ i j u z other.1 other'.1 uw zw same) (now j z f))
            (now i u e);
      };
      served = λ i u e h. ⊎_elim (λ own. (sym (ap (λ (z : Standing). z.waits) own.1) ∙ ww, sym (ap (λ (z : Standing). z.ticket) own.1) ∙ mine)) (λ other. r.served i u other.1 h) (now i u e);
    }

module _ {T : Type 0} (stands : T → Entries → Type 0) where
  pub same_words : (s : State (Option T) Standing) (r : IsTurn stands s) (i id : ℕ) (v : Standing) → get_elem? s.views id ≡ some v → IsTurn stands (stepped s i (get_or s.words i 0) id [] v keeps)
  same_words s r i id v at =
      subst (IsTurn stands) (λ k. record { words = sym (set-get_or s.words i 0) k; homes = s.homes; views = sym (set_again s.views id v at) k }) r

  -- a load by the view that is served, or comes to be
  pub loaded : (s : State (Option T) Standing) (r : IsTurn stands s) (id : ℕ) (v w : Standing) (homes' : List (mathlib.Core.Option.Option (Option T))) → get_elem? s.views id ≡ some v → v.waits ≡ true → w.waits ≡ true → w.ticket ≡ v.ticket → w.ticket ≡ get_or s.words 0 0
      → w.mine ≡ v.mine → length v.seen ≤ length w.seen → length homes' ≡ 1 → Lists stands homes' (set s.views id w)
      → IsTurn stands record { words = set s.words 0 (get_or s.words 0 0); homes = homes'; views = set s.views id w }
  loaded s r id v w homes' at vw ww t mine e l one_slot lists = whole stands (set s.words 0 (get_or s.words 0 0)) homes' (set s.views id w) record {
    words = length-set s.words 0 (get_or s.words 0 0) ∙ r.words;
    slots = one_slot;
    line = subst (λ ws. Line ws (set s.views id w)) (sym (kept s.words)) (looked_tickets s.words s.views id 0 v w at vw ww t mine (line_of stands s r));
    lists = lists;
    numbers = same_numbers s.views id v w at e l r.numbers;
  }

  pub only_inside : (s : State (Option T) Standing) (r : IsTurn stands s) (id : ℕ) (v : Standing) → get_elem? s.views id ≡ some v → v.inside ≡ true → (i : ℕ) (u : Standing) → get_elem? s.views i ≡ some u → u.inside ≡ true → i ≡ id
  only_inside s r id v at ins = let q = r.one_inside.served id v at ins in alone s.words s.views id v at q.0 q.1 (line_of stands s r)
