-- Sets of values: the order of values is total, and tells all values apart.
use Rattle.std.specs.Prelude.{◌≡◌, Bool as Truth, true, false, cond, List, length, refl}
use Rattle.std.proofs.Common.{subst, sym, ap, ◌∙◌}
use Rattle.std.specs.declared.cmp.Ordering.{Ordering}
use Rattle.std.specs.declared.cmp.Ordering.TheVariants.{Equal}
use Rattle.std.specs.List.{list_any}
use Rattle.std.specs.BTreeMap.{is_at}
use Rattle.std.specs.Cmp.{IsTotalOrder}
use Rattle.std.specs.Ordering.{bool_cmp}
use Rattle.std.specs.FinMap.{IsAntisymmetric}
use Rattle.bl_outside.specs.OrderedSet as set
use Rattle.std.proofs.lemmas.Map.Lookups.{exact_bytes, exact_signed}
use Rattle.std.specs.List.Sorted.{IsStrictlySortedBy}
use Rattle.bl_outside.proofs.Finite.{has_key, add_key, take_key, items_stay, set_len_stays}
use Rattle.bl_value.specs.Order.{value_cmp}
use Rattle.bl_value.specs.declared.value.Value.{Value}
use Rattle.bl_value.specs.declared.value.Value.TheVariants.{Bool, Byte, Short, Int, Long, Str, Date}
use Rattle.bl_value.specs.contracts.value.ValueOrd.TheImpl.{cmp-value}
use Rattle.bl_value.specs.contracts.value.ValueOrd.TheImpl.Laws.{total-law}

-- the order that the derived impl has
abbrev pub derived : Value → Value → Ordering
derived = cmp-value.it

answers : (a b : Value) → derived a b ≡ value_cmp a b
answers (Bool a) (Bool b) = refl
answers (Byte a) (Byte b) = refl
answers (Short a) (Short b) = refl
answers (Int a) (Int b) = refl
answers (Long a) (Long b) = refl
answers (Str a) (Str b) = refl
answers (Date a) (Date b) = refl
answers a b = refl

pub derived-is : derived ≡ value_cmp
derived-is = λ i a b. answers a b i

pub value_cmp_total : IsTotalOrder value_cmp
value_cmp_total = subst IsTotalOrder derived-is total-law

same_truth : (a b : Truth) → bool_cmp a b ≡ Equal → a ≡ b
same_truth true true h = refl
same_truth false false h = refl
same_truth true false h = cc
same_truth false true h = cc

pub exact_values : IsAntisymmetric value_cmp
exact_values (Bool a) (Bool b) h = ap Bool (same_truth a b h)
exact_values (Byte a) (Byte b) h = ap Byte (exact_signed a b h)
exact_values (Short a) (Short b) h = ap Short (exact_signed a b h)
exact_values (Int a) (Int b) h = ap Int (exact_signed a b h)
exact_values (Long a) (Long b) h = ap Long (exact_signed a b h)
exact_values (Str a) (Str b) h = ap Str (exact_bytes a b h)
exact_values (Date a) (Date b) h = ap Date (exact_signed a b h)
exact_values a b h = cc

-- what a set of keys has
pub has_value : (ks : List Value) (q : Value) → list_any (is_at (derived q)) ks ≡ set.contains (set.from_list {R = value_cmp} ks) q
has_value ks q = ap (λ R. list_any (is_at (R q)) ks) derived-is ∙ sym (has_key value_cmp_total ks q)

-- keys with one more make the set with it
pub given_value : (ks ls : List Value) (k : Value) → ((q : Value) → list_any (is_at (derived q)) ls ≡ cond (is_at (derived k) q) true (list_any (is_at (derived q)) ks)) → set.from_list {R = value_cmp} ls ≡ set.insert (set.from_list ks) k
given_value ks ls k h = add_key value_cmp_total exact_values ks ls k (subst (λ R. (q : Value) → list_any (is_at (R q)) ls ≡ cond (is_at (R k) q) true (list_any (is_at (R q)) ks)) derived-is h)

-- keys without one make the set without it
pub taken_value : (ks ls : List Value) (k : Value) → ((q : Value) → list_any (is_at (derived q)) ls ≡ cond (is_at (derived k) q) false (list_any (is_at (derived q)) ks)) → set.from_list {R = value_cmp} ls ≡ set.remove (set.from_list ks) k
taken_value ks ls k h = take_key value_cmp_total exact_values ks ls k (subst (λ R. (q : Value) → list_any (is_at (R q)) ls ≡ cond (is_at (R k) q) false (list_any (is_at (R q)) ks)) derived-is h)

-- keys in order are the items of their set
pub values_in_order : (ks : List Value) → IsStrictlySortedBy derived ks → set.items (set.from_list {R = value_cmp} ks) ≡ ks
values_in_order ks h = items_stay value_cmp_total ks (subst (λ R. IsStrictlySortedBy R ks) derived-is h)

pub values_counted : (ks : List Value) → IsStrictlySortedBy derived ks → set.len (set.from_list {R = value_cmp} ks) ≡ length ks
values_counted ks h = set_len_stays value_cmp_total ks (subst (λ R. IsStrictlySortedBy R ks) derived-is h)
