-- Values that were given one by one, each with its number.
use Rattle.std.specs.Prelude.{◌≡◌, ℕ, ◌+◌, ◌-◌, ◌^◌, min, ◌==◌, nat_eq, Bool, true, false, not, ◌||◌, ◌&&◌, cond, if◌then◌else◌, List, [], ◌∷◌, ◌++◌, ◌<◌, length, filter, take, Some, None, IfSome, is_some, refl}
use Rattle.std.specs.declared.option.Option.{Option}
use Rattle.std.specs.Option.{unwrap_or, option_map}
use Rattle.std.proofs.Common.{sym, ap, subst, ◌∙◌, arith, suc, get_or}
use Rattle.std.proofs.lemmas.List.{take_more}
use Rattle.std.proofs.lemmas.Bool.{false≢true, eqb-true}
use Rattle.std.proofs.lemmas.List.Folds.{list_any-append}
use Rattle.std.proofs.lemmas.Map.Views.{any-filter_same}
use Rattle.std.specs.List.{list_any}
use Rattle.std.specs.Ordering.{nat_cmp, eq_by_cmp, is_eq}
use Rattle.std.specs.Cmp.{nat_cmp_total, Equal-is, eq_by_cmp_equiv, unsigned_ties}
use Rattle.std.specs.FinMap as map
use Rattle.std.specs.FinMap.{nat_cmp-IsAntisymmetric}
use Rattle.bl_outside.specs.OrderedSet as set
use Rattle.bl_outside.proofs.Finite.{contains-empty, contains-insert, contains-remove, no_items, put_again}
use Rattle.bl_value.specs.Order.{value_cmp}
use Rattle.bl_value.specs.declared.value.Value.{Value}
use Rattle.bl_graph.specs.Graph.{Values}
use Rattle.bl_graph.specs.Numbered.{ByNumber, AreOnce, at_number, filled, nested, values_count, written}
use Rattle.bl_graph.specs.Admission.{is_among}
use Rattle.bl_graph.proofs.Maps.{set_with}
use Rattle.bl_graph.proofs.Named.{get_written}
use Rattle.bl_graph.proofs.OneWay.{HasSome, same_at_key}
use Rattle.bl_graph.proofs.Totals.{total_put_at, total_at, any_insert, any_left, none_counted}
use Rattle.bl_graph.proofs.ValueOrder.{value_cmp_total, exact_values}

-- the pair has this number and this value
abbrev pub is_pair : ℕ → Value → ℕ × Value → Bool
is_pair number value pair = nat_eq pair.0 number && is_eq (value_cmp pair.1 value)

-- one value more
abbrev pub give : ByNumber Values → ℕ → Value → ByNumber Values
give all number value = map.insert all number (set.insert (at_number all number) value)

-- one less
abbrev pub take_out : ByNumber Values → ℕ → Value → ByNumber Values
take_out all number value = written all number (filled (set.remove (at_number all number) value))

tied : (n k : ℕ) → eq_by_cmp nat_cmp k n ≡ nat_eq n k
tied n k = (eq_by_cmp_equiv nat_cmp_total).symm k n ∙ sym (unsigned_ties n k)

same_value : (v w : Value) → eq_by_cmp value_cmp w v ≡ is_eq (value_cmp v w)
same_value v w = (eq_by_cmp_equiv value_cmp_total).symm w v

pub unfilled : (s : Values) → unwrap_or (filled s) set.empty ≡ s
unfilled s = by (set.len s == 0) refl
  where
    by : (b : Bool) → (set.len s == 0) ≡ b → unwrap_or (if b then None else Some s) set.empty ≡ s
    by true h = sym (map.empty_of_len s (eqb-true (set.len s) 0 h))
    by false h = refl

-- ---- what stands at numbers

at_given_by : (m : ByNumber Values) (n k : ℕ) (s : Values) (b : Bool) → nat_eq n k ≡ b → unwrap_or (cond b (Some s) (map.get m k)) set.empty ≡ cond b s (at_number m k)
at_given_by m n k s true is = refl
at_given_by m n k s false is = refl

pub at_given : (m : ByNumber Values) (n k : ℕ) (s : Values) → at_number (map.insert m n s) k ≡ cond (nat_eq n k) s (at_number m k)
at_given m n k s = ap (λ o. unwrap_or o set.empty) (map.get-insert nat_cmp_total m n s k ∙ ap (λ b. cond b (Some s) (map.get m k)) (tied n k)) ∙ at_given_by m n k s (nat_eq n k) refl

at_written_by : (m : ByNumber Values) (n k : ℕ) (s : Values) (b : Bool) → nat_eq n k ≡ b → unwrap_or (cond b (filled s) (map.get m k)) set.empty ≡ cond b s (at_number m k)
at_written_by m n k s true is = unfilled s
at_written_by m n k s false is = refl

at_written : (m : ByNumber Values) (n k : ℕ) (s : Values) → at_number (written m n (filled s)) k ≡ cond (nat_eq n k) s (at_number m k)
at_written m n k s = ap (λ o. unwrap_or o set.empty) (get_written nat_cmp_total m n (filled s) k ∙ ap (λ b. cond b (filled s) (map.get m k)) (tied n k)) ∙ at_written_by m n k s (nat_eq n k) refl

has_given_by : (m : ByNumber Values) (n k : ℕ) (v w : Value) (b : Bool) → nat_eq n k ≡ b → set.contains (cond b (set.insert (at_number m n) v) (at_number m k)) w ≡ ((b && is_eq (value_cmp v w)) || set.contains (at_number m k) w)
has_given_by m n k v w true is =
    contains-insert value_cmp_total (at_number m n) v w ∙ ap (λ b. b || set.contains (at_number m n) w) (same_value v w)
    ∙ ap (λ i. is_eq (value_cmp v w) || set.contains (at_number m i) w) (eqb-true n k is)
has_given_by m n k v w false is = refl

pub has_given : (m : ByNumber Values) (n k : ℕ) (v w : Value) → set.contains (at_number (give m n v) k) w ≡ ((nat_eq n k && is_eq (value_cmp v w)) || set.contains (at_number m k) w)
has_given m n k v w = ap (λ s. set.contains s w) (at_given m n k (set.insert (at_number m n) v)) ∙ has_given_by m n k v w (nat_eq n k) refl

has_left_by : (m : ByNumber Values) (n k : ℕ) (v w : Value) (b : Bool) → nat_eq n k ≡ b → set.contains (cond b (set.remove (at_number m n) v) (at_number m k)) w ≡ (not (b && is_eq (value_cmp v w)) && set.contains (at_number m k) w)
has_left_by m n k v w true is =
    contains-remove value_cmp_total (at_number m n) v w ∙ ap (λ b. not b && set.contains (at_number m n) w) (same_value v w)
    ∙ ap (λ i. not (is_eq (value_cmp v w)) && set.contains (at_number m i) w) (eqb-true n k is)
has_left_by m n k v w false is = refl

has_left : (m : ByNumber Values) (n k : ℕ) (v w : Value) → set.contains (at_number (take_out m n v) k) w ≡ (not (nat_eq n k && is_eq (value_cmp v w)) && set.contains (at_number m k) w)
has_left m n k v w = ap (λ s. set.contains s w) (at_written m n k (set.remove (at_number m n) v)) ∙ has_left_by m n k v w (nat_eq n k) refl

-- a value is there where one of the pairs is it
pub has_nested : (es : List (ℕ × Value)) (k : ℕ) (w : Value) → set.contains (at_number (nested es) k) w ≡ list_any (is_pair k w) es
has_nested [] k w = ap (λ (o : Option Values). set.contains (unwrap_or o set.empty) w) (map.get-empty nat_cmp k) ∙ contains-empty value_cmp w
has_nested (e ∷ es) k w = has_given (nested es) e.0 k e.1 w ∙ ap (λ b. is_pair k w e || b) (has_nested es k w)

-- ---- no number has an empty set

abbrev AreFull : ByNumber Values → Type 0
AreFull m = (k : ℕ) → IfSome (map.get m k) HasSome

full_by : (m : ByNumber Values) (k : ℕ) (b : Bool) (o : Option Values) → IfSome o HasSome → IfSome (map.get m k) HasSome → IfSome (cond b o (map.get m k)) HasSome
full_by m k true o some full = some
full_by m k false o some full = full

full_written : (m : ByNumber Values) (n : ℕ) (o : Option Values) → IfSome o HasSome → AreFull m → AreFull (written m n o)
full_written m n o some full = λ k. subst (λ r. IfSome r HasSome) (sym (get_written nat_cmp_total m n o k)) (full_by m k (eq_by_cmp nat_cmp k n) o some (full k))

filled_some : (s : Values) → IfSome (filled s) HasSome
filled_some s = by (set.len s == 0) refl
  where
    by : (b : Bool) → (set.len s == 0) ≡ b → IfSome (if b then None else Some s) HasSome
    by true h = tt
    by false h = λ none. false≢true (sym h ∙ ap (λ n. n == 0) none)

insert_some : (s : Values) (v : Value) → HasSome (set.insert s v)
insert_some s v = λ none. false≢true (sym (set_with value_cmp_total s v) ∙ ap (λ n. n == 0) none)

full_nested : (es : List (ℕ × Value)) → AreFull (nested es)
full_nested [] = λ k. subst (λ r. IfSome r HasSome) (sym (map.get-empty nat_cmp k)) tt
full_nested (e ∷ es) = full_written (nested es) e.0 (Some (set.insert (at_number (nested es) e.0) e.1)) (insert_some (at_number (nested es) e.0) e.1) (full_nested es)

same_nested : (m n : ByNumber Values) → AreFull m → AreFull n → ((k : ℕ) (w : Value) → set.contains (at_number m k) w ≡ set.contains (at_number n k) w) → m ≡ n
same_nested m n full full2 same = map.same_map nat_cmp_total nat_cmp-IsAntisymmetric m n (λ k. same_at_key (map.get m k) (map.get n k) (full k) (full2 k) (same k))

-- ---- one pair more, and one less

or_turned : (a b : Bool) → (a || (b || false)) ≡ (b || a)
or_turned true true = refl
or_turned true false = refl
or_turned false true = refl
or_turned false false = refl

pub nested_more : (es : List (ℕ × Value)) (n : ℕ) (v : Value) → nested (es ++ (n, v) ∷ []) ≡ give (nested es) n v
nested_more es n v = same_nested _ _ (full_nested (es ++ (n, v) ∷ [])) (full_written (nested es) n (Some (set.insert (at_number (nested es) n) v)) (insert_some (at_number (nested es) n) v) (full_nested es))
    (λ k w. has_nested (es ++ (n, v) ∷ []) k w ∙ list_any-append (is_pair k w) es ((n, v) ∷ []) ∙ or_turned (list_any (is_pair k w) es) (is_pair k w (n, v))
    ∙ ap (λ b. is_pair k w (n, v) || b) (sym (has_nested es k w)) ∙ sym (has_given (nested es) n k v w))

both : (a b : Bool) → (a && b) ≡ true → (a ≡ true) × (b ≡ true)
both true true h = (refl, refl)
both true false h = absurd (false≢true h)
both false b h = absurd (false≢true h)

pair_is : (k : ℕ) (w : Value) (e : ℕ × Value) → is_pair k w e ≡ true → e ≡ (k, w)
pair_is k w e h =
    let p = both (nat_eq e.0 k) (is_eq (value_cmp e.1 w)) h in
    λ i. (eqb-true e.0 k p.0 i, exact_values e.1 w ((Equal-is (value_cmp e.1 w)).0 p.1) i)

turned_pair : (n k : ℕ) (v w : Value) → is_pair n v (k, w) ≡ (nat_eq n k && is_eq (value_cmp v w))
turned_pair n k v w = λ i. ((unsigned_ties k n ∙ tied n k) i && (eq_by_cmp_equiv value_cmp_total).symm w v i)

pub nested_less : (es : List (ℕ × Value)) (n : ℕ) (v : Value) → nested (filter (λ e. not (is_pair n v e)) es) ≡ take_out (nested es) n v
nested_less es n v = same_nested _ _ (full_nested (filter (λ e. not (is_pair n v e)) es)) (full_written (nested es) n (filled (set.remove (at_number (nested es) n) v)) (filled_some (set.remove (at_number (nested es) n) v)) (full_nested es))
    (λ k w. has_nested (filter (λ e. not (is_pair n v e)) es) k w
    ∙ any-filter_same (is_pair k w) (λ e. not (is_pair n v e)) (not (nat_eq n k && is_eq (value_cmp v w))) (λ e h. ap not (ap (is_pair n v) (pair_is k w e h) ∙ turned_pair n k v w)) es
    ∙ ap (λ b. not (nat_eq n k && is_eq (value_cmp v w)) && b) (sym (has_nested es k w)) ∙ sym (has_left (nested es) n k v w))

-- ---- what is asked of one number

empty_by : (m : ByNumber Values) (e : ℕ × Value) (k : ℕ) (b rest : Bool) → nat_eq e.0 k ≡ b → not rest ≡ (set.len (at_number m k) == 0) → not (b || rest) ≡ (set.len (cond b (set.insert (at_number m e.0) e.1) (at_number m k)) == 0)
empty_by m e k true rest is h = sym (set_with value_cmp_total (at_number m e.0) e.1)
empty_by m e k false rest is h = h

-- a number has no value where no pair has it
pub none_nested : (es : List (ℕ × Value)) (k : ℕ) → not (list_any (λ e. nat_eq e.0 k) es) ≡ (set.len (at_number (nested es) k) == 0)
none_nested [] k = sym (ap (λ (o : Option Values). set.len (unwrap_or o set.empty) == 0) (map.get-empty nat_cmp k) ∙ ap (λ n. n == 0) (map.len-empty value_cmp (Unit {0})))
none_nested (e ∷ es) k =
    empty_by (nested es) e k (nat_eq e.0 k) (list_any (λ x. nat_eq x.0 k) es) refl (none_nested es k)
    ∙ ap (λ s. set.len s == 0) (sym (at_given (nested es) e.0 k (set.insert (at_number (nested es) e.0) e.1)))

module _ (p : Value → Bool) where
  any_by : (m : ByNumber Values) (e : ℕ × Value) (k : ℕ) (b rest : Bool) → nat_eq e.0 k ≡ b → rest ≡ list_any p (set.items (at_number m k)) → ((b && p e.1) || rest) ≡ list_any p (set.items (cond b (set.insert (at_number m e.0) e.1) (at_number m k)))
  any_by m e k true rest is h =
      ap (λ r. p e.1 || r) (h ∙ ap (λ i. list_any p (set.items (at_number m i))) (sym (eqb-true e.0 k is)))
      ∙ sym (any_insert p value_cmp_total exact_values (at_number m e.0) e.1)
  any_by m e k false rest is h = h

  pub any_nested : (es : List (ℕ × Value)) (k : ℕ) → list_any (λ e. nat_eq e.0 k && p e.1) es ≡ list_any p (set.items (at_number (nested es) k))
  any_nested [] k = sym (ap (λ (o : Option Values). list_any p (set.items (unwrap_or o set.empty))) (map.get-empty nat_cmp k) ∙ ap (list_any p) (no_items value_cmp))
  any_nested (e ∷ es) k =
      any_by (nested es) e k (nat_eq e.0 k) (list_any (λ x. nat_eq x.0 k && p x.1) es) refl (any_nested es k)
      ∙ ap (λ s. list_any p (set.items s)) (sym (at_given (nested es) e.0 k (set.insert (at_number (nested es) e.0) e.1)))

-- a number has a value other than those where a pair has
pub other_nested : (given : List Value) (es : List (ℕ × Value)) (k : ℕ) → list_any (λ e. nat_eq e.0 k && not (is_among given e.1)) es ≡ not (length (filter (λ value. not (is_among given value)) (set.items (at_number (nested es) k))) == 0)
other_nested given es k = any_nested (λ value. not (is_among given value)) es k ∙ any_left (λ value. not (is_among given value)) (set.items (at_number (nested es) k))

-- ---- pairs that differ

size_at : (m : ByNumber Values) (n : ℕ) → unwrap_or (option_map set.len (map.get m n)) 0 ≡ set.len (at_number m n)
size_at m n = by (map.get m n)
  where
    by : (o : Option Values) → unwrap_or (option_map set.len o) 0 ≡ set.len (unwrap_or o set.empty)
    by None = sym (map.len-empty value_cmp (Unit {0}))
    by (Some s) = refl

one_more : (s : Values) (v : Value) → set.contains s v ≡ false → set.len (set.insert s v) ≡ set.len s + 1
one_more s v out = map.len-insert value_cmp_total s v tt ∙ ap (λ b. cond b (set.len s) (set.len s + 1)) out

counted : (m : ByNumber Values) (n : ℕ) (v : Value) → set.contains (at_number m n) v ≡ false → values_count (give m n v) ≡ values_count m + 1
counted m n v out =
    total_put_at nat_cmp set.len nat_cmp_total nat_cmp-IsAntisymmetric m n (set.insert (at_number m n) v)
    ∙ ap (λ l. l + values_count (map.remove m n)) (one_more (at_number m n) v out)
    ∙ turn (set.len (at_number m n)) (values_count (map.remove m n))
    ∙ ap (λ l. l + 1) (sym (total_at nat_cmp set.len nat_cmp_total nat_cmp-IsAntisymmetric m n ∙ ap (λ l. l + values_count (map.remove m n)) (size_at m n)))
  where
    turn : (a b : ℕ) → (a + 1) + b ≡ (a + b) + 1
    turn a b = omega arith

pub count_nested : (es : List (ℕ × Value)) → AreOnce es → values_count (nested es) ≡ length es
count_nested [] once = none_counted nat_cmp set.len
count_nested (e ∷ es) once = counted (nested es) e.0 e.1 once.0 ∙ ap (λ n. n + 1) (count_nested es once.1) ∙ grown (length es)
  where
    grown : (n : ℕ) → n + 1 ≡ suc n
    grown n = omega arith

once_by : (es : List (ℕ × Value)) (x : ℕ × Value) (n : ℕ) (v : Value) → list_any (is_pair x.0 x.1) es ≡ false → is_pair n v x ≡ false → list_any (is_pair x.0 x.1) (es ++ (n, v) ∷ []) ≡ false
once_by es x n v out differs =
    list_any-append (is_pair x.0 x.1) es ((n, v) ∷ []) ∙ (λ i. out i || (((turned_pair x.0 n x.1 v ∙ sym (exactly n v x)) ∙ differs) i || false))
  where
    exactly : (n : ℕ) (v : Value) (x : ℕ × Value) → is_pair n v x ≡ (nat_eq x.0 n && is_eq (value_cmp x.1 v))
    exactly n v x = refl

-- a pair that isn't there is put behind the others
pub once_more : (es : List (ℕ × Value)) (n : ℕ) (v : Value) → AreOnce es → list_any (is_pair n v) es ≡ false → AreOnce (es ++ (n, v) ∷ [])
once_more [] n v once out = (has_nested [] n v, tt)
once_more (x ∷ es) n v once out =
    let p = neither (is_pair n v x) (list_any (is_pair n v) es) out in
    (has_nested (es ++ (n, v) ∷ []) x.0 x.1 ∙ once_by es x n v (sym (has_nested es x.0 x.1) ∙ once.0) p.0, once_more es n v once.1 p.1)
  where
    neither : (a b : Bool) → (a || b) ≡ false → (a ≡ false) × (b ≡ false)
    neither true b h = absurd (false≢true (sym h))
    neither false b h = (refl, h)

left_by : (test : ℕ × Value → Bool) (x : ℕ × Value) (ys : List (ℕ × Value)) (b : Bool) → test x ≡ false → list_any test ys ≡ false → list_any test (cond b (x ∷ ys) ys) ≡ false
left_by test x ys true h later = λ i. h i || later i
left_by test x ys false h later = later

neither : (a b : Bool) → (a || b) ≡ false → (a ≡ false) × (b ≡ false)
neither true b h = absurd (false≢true (sym h))
neither false b h = (refl, h)

still_out : (p test : ℕ × Value → Bool) (es : List (ℕ × Value)) → list_any test es ≡ false → list_any test (filter p es) ≡ false
still_out p test [] h = h
still_out p test (x ∷ es) h =
    let q = neither (test x) (list_any test es) h in
    left_by test x (filter p es) (p x) q.0 (still_out p test es q.1)

once_left_by : (x : ℕ × Value) (ys : List (ℕ × Value)) (b : Bool) → set.contains (at_number (nested ys) x.0) x.1 ≡ false → AreOnce ys → AreOnce (cond b (x ∷ ys) ys)
once_left_by x ys true out once = (out, once)
once_left_by x ys false out once = once

-- pairs that differ still do where some went
pub once_left : (p : ℕ × Value → Bool) (es : List (ℕ × Value)) → AreOnce es → AreOnce (filter p es)
once_left p [] once = tt
once_left p (x ∷ es) once =
    once_left_by x (filter p es) (p x) (has_nested (filter p es) x.0 x.1 ∙ still_out p (is_pair x.0 x.1) es (sym (has_nested es x.0 x.1) ∙ once.0)) (once_left p es once.1)

-- a value that is there already changes nothing
pub given_again : (m : ByNumber Values) (n : ℕ) (v : Value) → set.contains (at_number m n) v ≡ true → give m n v ≡ m
given_again m n v h = by (map.get m n) refl h
  where
    there : (o : Option (Unit {0})) → is_some o ≡ true → o ≡ Some tt
    there (Some tt) g = refl
    there None g = absurd (false≢true g)

    by : (o : Option Values) → map.get m n ≡ o → set.contains (unwrap_or o set.empty) v ≡ true → map.insert m n (set.insert (unwrap_or (map.get m n) set.empty) v) ≡ m
    by None is g = absurd (false≢true (sym (contains-empty value_cmp v) ∙ g))
    by (Some s) is g =
        ap (λ o. map.insert m n (set.insert (unwrap_or o set.empty) v)) is
        ∙ ap (map.insert m n) (put_again value_cmp_total exact_values s v tt (there (map.get s v) g))
        ∙ put_again nat_cmp_total nat_cmp-IsAntisymmetric m n s is

-- one more of the pairs
pub nested_step : (es : List (ℕ × Value)) (i : ℕ) (x : ℕ × Value) → i < length es → x ≡ get_or es i x → give (nested (take i es)) x.0 x.1 ≡ nested (take (i + 1) es)
nested_step es i x h is =
    ap (λ e. give (nested (take i es)) e.0 e.1) is ∙ sym (nested_more (take i es) (get_or es i x).0 (get_or es i x).1) ∙ sym (ap nested (take_more es i x h))

pub at_step : (es : List (ℕ × Value)) (i : ℕ) (x : ℕ × Value) (k : ℕ) (b : Bool) → i < length es → x ≡ get_or es i x → nat_eq x.0 k ≡ b → cond b (set.insert (at_number (nested (take i es)) k) x.1) (at_number (nested (take i es)) k) ≡ at_number (nested (take (i + 1) es)) k
at_step es i x k b h is tie =
    by b tie ∙ sym (at_given (nested (take i es)) x.0 k (set.insert (at_number (nested (take i es)) x.0) x.1)) ∙ ap (λ m. at_number m k) (nested_step es i x h is)
  where
    by : (b : Bool) → nat_eq x.0 k ≡ b → cond b (set.insert (at_number (nested (take i es)) k) x.1) (at_number (nested (take i es)) k) ≡ cond (nat_eq x.0 k) (set.insert (at_number (nested (take i es)) x.0) x.1) (at_number (nested (take i es)) k)
    by true t = ap (λ n. set.insert (at_number (nested (take i es)) n) x.1) (sym (eqb-true x.0 k t)) ∙ ap (λ b. cond b (set.insert (at_number (nested (take i es)) x.0) x.1) (at_number (nested (take i es)) k)) (sym t)
    by false t = ap (λ b. cond b (set.insert (at_number (nested (take i es)) x.0) x.1) (at_number (nested (take i es)) k)) (sym t)

pub none_at : (k : ℕ) → set.empty ≡ at_number map.empty k
none_at k = ap (λ (o : Option Values). unwrap_or o set.empty) (sym (map.get-empty nat_cmp k))

pub small_min : (n : ℕ) → n < 2 ^ 64 → n ≡ min n (2 ^ 64 - 1)
small_min n h = omega (arith, h)
