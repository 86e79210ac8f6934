-- Facts on the maps of a graph.
use Rattle.std.specs.Prelude.{◌≡◌, ◌≢◌, ◌==◌, ℕ, ◌-◌, Bool, true, false, ◌||◌, List, [], ◌∷◌, length, Some, None, is_some, refl}
use Rattle.std.specs.declared.option.Option.{Option}
use Rattle.std.specs.declared.cmp.Ordering.{Ordering}
use Rattle.std.specs.Option.{unwrap_or}
use Rattle.std.proofs.Common.{sym, ap, ◌∙◌, cond, if◌then◌else◌, arith}
use Rattle.std.proofs.lemmas.Bool.{false≢true}
use Rattle.std.specs.Ordering.{nat_cmp, eq_by_cmp, is_eq}
use Rattle.std.specs.Cmp.{IsTotalOrder, tied_itself}
use Rattle.std.specs.Cmp.Lexicographic.{slice_cmp}
use Rattle.std.specs.FinMap as map
use Rattle.bl_outside.specs.OrderedSet as set
use borrow.Author.Tests.{eqb-true}
use Rattle.bl_outside.proofs.Finite.{contains-empty, contains-insert}
use Rattle.bl_value.specs.Order.{value_cmp}
use Rattle.bl_value.specs.declared.value.Value.{Value}
use Rattle.bl_graph.specs.Graph.{Values, ByText, Properties, at_key}
use Rattle.bl_graph.specs.Numbered.{ByNumber, written, filled}
use Rattle.bl_graph.specs.Replay.{with_values, with_keys}
use Rattle.bl_graph.proofs.ValueOrder.{value_cmp_total}

-- no key has a value where there are no keys
pub none_at_key : (key : List ℕ) → at_key map.empty key ≡ set.empty
none_at_key key = ap (λ (o : Option Values). unwrap_or o set.empty) (map.get-empty (slice_cmp nat_cmp) key)

pub unless_zero : (n : ℕ) (test : Bool) → (n == 0) ≡ test → n ≢ 0 → test ≡ false
unless_zero n true h = λ no. absurd (no (eqb-true n 0 h))
unless_zero n false h = λ no. refl

module _ {K : Type 0} {R : K → K → Ordering} (o : IsTotalOrder R) where
  pub itself : (k : K) → eq_by_cmp R k k ≡ true
  itself k = ap is_eq (tied_itself o k)

  -- a set with one item more isn't empty
  pub set_with : (s : set.OrderedSet R) (k : K) → (set.len (set.insert s k) == 0) ≡ false
  set_with s k = unless_zero _ _ refl (λ none. false≢true
      (sym (contains-empty R k) ∙ ap (λ t. set.contains t k) (sym (map.empty_of_len (set.insert s k) none))
      ∙ contains-insert o s k k ∙ ap (λ b. b || set.contains s k) (itself k)))

  -- a set is empty where it was made of nothing
  pub len_none : (ks : List K) → (length ks == 0) ≡ (set.len (set.from_list {R = R} ks) == 0)
  len_none [] = ap (λ n. n == 0) (sym (map.len-empty R (Unit {0})))
  len_none (k ∷ ks) = unless_zero (length (k ∷ ks)) (length (k ∷ ks) == 0) refl (λ e. omega (arith, e)) ∙ sym (set_with (set.from_list ks) k)

  -- a map with one entry more isn't empty
  pub map_with : {X : Type 0} (m : map.FinMap R X) (k : K) (x : X) → (map.len (map.insert m k x) == 0) ≡ false
  map_with m k x = unless_zero _ _ refl (λ none. false≢true
      (ap is_some (sym (map.get-empty R k)) ∙ ap (λ n. is_some (map.get n k)) (sym (map.empty_of_len (map.insert m k x) none))
      ∙ ap is_some (map.get-insert o m k x k ∙ ap (λ b. cond b (Some x) (map.get m k)) (itself k))))

-- a set without an item that it hasn't
pub none_left : (value : Value) → (set.len (set.remove (set.empty {R = value_cmp}) value) == 0) ≡ true
none_left value =
    ap (λ n. n == 0) (map.len-remove value_cmp_total map.empty value ∙ ap (λ b. cond b (map.len (set.empty {R = value_cmp}) - 1) (map.len (set.empty {R = value_cmp}))) (contains-empty value_cmp value) ∙ map.len-empty value_cmp (Unit {0}))

-- a key with values left, and one with none
pub kept : (keys : ByNumber Values) (key : ℕ) (values : Values) → false ≡ (set.len values == 0) → map.insert keys key values ≡ written keys key (filled values)
kept keys key values h = ap (λ b. written keys key (if b then None else Some values)) h

pub dropped : (keys : ByNumber Values) (key : ℕ) (values : Values) → true ≡ (set.len values == 0) → map.remove keys key ≡ written keys key (filled values)
dropped keys key values h = ap (λ b. written keys key (if b then None else Some values)) h

-- a value more leaves something
pub added : (keys : ByNumber Values) (key : ℕ) (values : Values) (value : Value) → map.insert keys key (set.insert values value) ≡ written keys key (filled (set.insert values value))
added keys key values value = kept keys key (set.insert values value) (sym (set_with value_cmp_total values value))

-- the definitions of changes say the same in other words
pub with_values_is : (keys : ByText Values) (key : List ℕ) (values : Values) → with_values keys key values ≡ written keys key (filled values)
with_values_is keys key values = by (set.len values == 0)
  where
    by : (b : Bool) → (if b then map.remove keys key else map.insert keys key values) ≡ written keys key (if b then None else Some values)
    by true = refl
    by false = refl

pub with_keys_is : (all : Properties) (id : List ℕ) (keys : ByText Values) → with_keys all id keys ≡ written all id (filled keys)
with_keys_is all id keys = by (map.len keys == 0)
  where
    by : (b : Bool) → (if b then map.remove all id else map.insert all id keys) ≡ written all id (if b then None else Some keys)
    by true = refl
    by false = refl
