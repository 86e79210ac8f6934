-- How many there are of what is said.
use Rattle.std.specs.Prelude.{◌≡◌, ℕ, ◌+◌, ◌<◌, ◌≤◌, ◌==◌, nat_eq, nat_lt, Bool, true, false, not, cond, if◌then◌else◌, List, [], ◌∷◌, length, Some, None, is_some, refl}
use Rattle.std.specs.declared.option.Option.{Option}
use Rattle.std.specs.Option.{unwrap_or, option_map}
use Rattle.std.proofs.Common.{sym, ap, subst, ◌∙◌, arith, zero-add}
use Rattle.std.proofs.lemmas.Bool.{false≢true, eqb-true, ltb-true, ltb-false}
use Rattle.std.proofs.lemmas.Option.{slice_get-get_or}
use Rattle.std.proofs.lemmas.Map.Keys.{IsDistinct-head, IsDistinct-tail}
use Rattle.std.specs.List.{AllByRecursion, IsDistinct, position_from}
use Rattle.std.specs.Map.{keys_of, values_of}
use Rattle.std.specs.Ordering.{nat_cmp, eq_by_cmp}
use Rattle.std.specs.Cmp.{nat_cmp_total, Equal-is}
use Rattle.std.specs.Cmp.Lexicographic.{pointwise, slice_cmp, nat_list_cmp_total, texts_ties, nat_list_eq_equiv}
use Rattle.std.specs.FinMap as map
use Rattle.std.specs.FinMap.{nat_cmp-IsAntisymmetric}
use Rattle.std.proofs.lemmas.Map.Lookups.{exact_bytes}
use Rattle.bl_outside.specs.OrderedSet as set
use Rattle.bl_graph.specs.declared.owner.Owner.{Owner}
use Rattle.bl_graph.specs.declared.owner.Ends.{Ends as EndNumbers}
use Rattle.bl_graph.specs.Graph.{ByText, Values}
use Rattle.bl_graph.specs.Sizes.{total, count_in}
use Rattle.bl_graph.specs.Numbered.{ByNumber, written, filled, named, named_from, values_count, IsBelow}
use Rattle.bl_graph.specs.Owners.{AreWithin, Vertex, ends_at, ends_of, found, kept, labels_said, owner_at, values_said}
use Rattle.bl_graph.proofs.Maps.{itself}
use Rattle.bl_graph.proofs.Kept.{remove_none, some_filled}
use Rattle.bl_graph.proofs.Named.{equal_texts, get_from, get_written, named_empty, number_from, reached}
use Rattle.bl_graph.proofs.Totals.{none_counted, total_at, total_new}

apart_at : (x : List ℕ) (ys : List (List ℕ)) → AllByRecursion (λ y. pointwise nat_eq x y ≡ false) ys → (n : ℕ) → number_from n ys x ≡ None
apart_at x [] h n = refl
apart_at x (y ∷ ys) h n = ap (λ b. cond b (Some n) (number_from (n + 1) ys x)) h.0 ∙ apart_at x ys h.1 (n + 1)

module _ {Y X : Type 0} (says : Y → Option X) where
  absent : (es : List (List ℕ × Y)) (q : List ℕ) → AllByRecursion (λ y. pointwise nat_eq q y ≡ false) (keys_of es) → map.get (kept says es) q ≡ None
  absent [] q h = map.get-empty (slice_cmp nat_cmp) q
  absent (e ∷ es) q h =
      get_written nat_list_cmp_total (kept says es) e.0 (says e.1) q
      ∙ ap (λ b. cond b (says e.1) (map.get (kept says es) q)) (sym (texts_ties q e.0) ∙ h.0) ∙ absent es q h.1

  len_by : (m : ByText X) (k : List ℕ) (o : Option X) (n : ℕ) → map.get m k ≡ None → map.len m ≡ n → map.len (written m k o) ≡ cond (is_some o) 1 0 + n
  len_by m k None n none is = ap map.len (remove_none m k none) ∙ is ∙ sym (zero-add n)
  len_by m k (Some x) n none is = map.len-insert nat_list_cmp_total m k x ∙ ap (λ r. cond (is_some r) (map.len m) (map.len m + 1)) none ∙ ap (λ l. l + 1) is ∙ turn n
    where
      turn : (a : ℕ) → a + 1 ≡ 1 + a
      turn a = omega arith

  -- as many entries as ids of which something is said
  pub len_kept : (es : List (List ℕ × Y)) → IsDistinct (pointwise nat_eq) (keys_of es) → map.len (kept says es) ≡ total (λ y. cond (is_some (says y)) 1 0) (values_of es)
  len_kept [] apart = map.len-empty (slice_cmp nat_cmp) X
  len_kept (e ∷ es) apart =
      len_by (kept says es) e.0 (says e.1) (total (λ y. cond (is_some (says y)) 1 0) (values_of es)) (absent es e.0 (IsDistinct-head (pointwise nat_eq) e.0 (keys_of es) apart)) (len_kept es (IsDistinct-tail (pointwise nat_eq) e.0 (keys_of es) apart))

  module _ (f : X → ℕ) where
    total_by : (m : ByText X) (k : List ℕ) (o : Option X) (n : ℕ) → map.get m k ≡ None → total f (map.values m) ≡ n → total f (map.values (written m k o)) ≡ unwrap_or (option_map f o) 0 + n
    total_by m k None n none is = ap (λ l. total f (map.values l)) (remove_none m k none) ∙ is ∙ sym (zero-add n)
    total_by m k (Some x) n none is = total_new (slice_cmp nat_cmp) f nat_list_cmp_total m k x none ∙ ap (λ l. f x + l) is

    -- and the same sum
    pub total_kept : (es : List (List ℕ × Y)) → IsDistinct (pointwise nat_eq) (keys_of es) → total f (map.values (kept says es)) ≡ total (λ y. unwrap_or (option_map f (says y)) 0) (values_of es)
    total_kept [] apart = none_counted (slice_cmp nat_cmp) f
    total_kept (e ∷ es) apart =
        total_by (kept says es) e.0 (says e.1) (total (λ y. unwrap_or (option_map f (says y)) 0) (values_of es)) (absent es e.0 (IsDistinct-head (pointwise nat_eq) e.0 (keys_of es) apart)) (total_kept es (IsDistinct-tail (pointwise nat_eq) e.0 (keys_of es) apart))

-- ---- what holds of each owner

module _ {Y : Type 0} (P : Y → Type 0) (none : Y) (nothing : P none) where
  missing : (es : List (List ℕ × Y)) (q : List ℕ) → AllByRecursion (λ y. pointwise nat_eq q y ≡ false) (keys_of es) → owner_at none es q ≡ none
  missing [] q h = refl
  missing (e ∷ es) q h = ap (λ b. unwrap_or (cond b (Some e.1) (found es q)) none) h.0 ∙ missing es q h.1

  later : (e : List ℕ × Y) (es : List (List ℕ × Y)) (q : List ℕ) (b : Bool) → pointwise nat_eq q e.0 ≡ b → AllByRecursion (λ y. pointwise nat_eq e.0 y ≡ false) (keys_of es) → P (unwrap_or (cond b (Some e.1) (found es q)) none) → P (owner_at none es q)
  later e es q true is apart h = subst P (sym (ap (owner_at none es) (equal_texts q e.0 is) ∙ missing es e.0 apart)) nothing
  later e es q false is apart h = h

  pub each_owner : (es : List (List ℕ × Y)) → IsDistinct (pointwise nat_eq) (keys_of es) → ((q : List ℕ) → P (owner_at none es q)) → AllByRecursion P (values_of es)
  each_owner [] apart h = tt
  each_owner (e ∷ es) apart h = (
    subst P (ap (λ b. unwrap_or (cond b (Some e.1) (found es e.0)) none) (nat_list_eq_equiv.refl e.0)) (h e.0),
    each_owner es (IsDistinct-tail (pointwise nat_eq) e.0 (keys_of es) apart) (λ q. later e es q (pointwise nat_eq q e.0) refl (IsDistinct-head (pointwise nat_eq) e.0 (keys_of es) apart) (h q)),
  )

pub same_total : {Y : Type 0} (f g : Y → ℕ) (ys : List Y) → AllByRecursion (λ y. f y ≡ g y) ys → total f ys ≡ total g ys
same_total f g [] h = refl
same_total f g (y ∷ ys) h = λ i. h.0 i + same_total f g ys h.1 i

-- ---- one owner

pub ends_some : (names ids : List (List ℕ)) (o : Option EndNumbers) → AreWithin (length names) (length ids) o → is_some o ≡ is_some (ends_of names ids o)
ends_some names ids None within = refl
ends_some names ids (Some ends) within =
    sym (λ i. is_some (ends_at (slice_get-get_or names ends.label [] within.0 i) (slice_get-get_or ids ends.from [] within.1 i) (slice_get-get_or ids ends.to [] within.2 i)))

pub labels_some : (names : List (List ℕ)) (owner : Vertex) → IsDistinct (pointwise nat_eq) names → IsBelow (length names) owner.own → not (set.len owner.own == 0) ≡ is_some (labels_said names owner)
labels_some names owner apart below = ap not (sym (named_empty names owner.own apart below)) ∙ sym (some_filled (named names owner.own))

-- numbers that are left out
past : {X : Type 0} (m : ByNumber X) (n i : ℕ) (b : Bool) → eq_by_cmp nat_cmp i n ≡ b → n + 1 ≤ i → map.get m i ≡ cond b None (map.get m i)
past m n i true is le = absurd (omega (arith, ap (λ x. x) (same i n is), le))
  where
    same : (i n : ℕ) → eq_by_cmp nat_cmp i n ≡ true → i ≡ n
    same i n h = nat_cmp-IsAntisymmetric i n ((Equal-is (nat_cmp i n)).0 h)
past m n i false is le = refl

without_by : {X : Type 0} (t : List ℕ → Bool) (m : ByNumber X) (n k : ℕ) (ts : List (List ℕ)) → n + 1 ≤ k → reached m (position_from t k ts) ≡ reached (map.remove m n) (position_from t k ts)
without_by t m n k [] le = refl
without_by t m n k (x ∷ xs) le = step (t x) (without_by t m n (k + 1) xs (omega (arith, le)))
  where
    step : (b : Bool) → reached m (position_from t (k + 1) xs) ≡ reached (map.remove m n) (position_from t (k + 1) xs) → reached m (cond b (Some k) (position_from t (k + 1) xs)) ≡ reached (map.remove m n) (cond b (Some k) (position_from t (k + 1) xs))
    step true h = past m n k (eq_by_cmp nat_cmp k n) refl le ∙ sym (map.get-remove nat_cmp_total m n k)
    step false h = h

without_number : {X : Type 0} (m : ByNumber X) (n : ℕ) (ts : List (List ℕ)) → named_from (n + 1) ts m ≡ named_from (n + 1) ts (map.remove m n)
without_number m n ts = map.same_map nat_list_cmp_total exact_bytes _ _ (λ q.
    get_from (n + 1) ts m q ∙ without_by (pointwise nat_eq q) m n (n + 1) ts (omega arith) ∙ sym (get_from (n + 1) ts (map.remove m n) q))

module _ {X : Type 0} (f : X → ℕ) where
  none_left : (m : ByNumber X) (n : ℕ) → ((i : ℕ) → i < n → map.get m i ≡ None) → ((i : ℕ) → n ≤ i → map.get m i ≡ None) → m ≡ map.empty
  none_left m n before behind = map.same_map nat_cmp_total nat_cmp-IsAntisymmetric _ _ (λ i. by i (nat_lt i n) refl ∙ sym (map.get-empty nat_cmp i))
    where
      by : (i : ℕ) (b : Bool) → nat_lt i n ≡ b → map.get m i ≡ None
      by i true is = before i (ltb-true i n is)
      by i false is = behind i (ltb-false i n is)

  removed_before : (m : ByNumber X) (n i : ℕ) (b : Bool) → eq_by_cmp nat_cmp i n ≡ b → i < n + 1 → ((j : ℕ) → j < n → map.get m j ≡ None) → cond b None (map.get m i) ≡ None
  removed_before m n i true is le before = refl
  removed_before m n i false is le before = before i (less i n (λ e. false≢true (sym is ∙ ap (λ x. eq_by_cmp nat_cmp x n) e ∙ itself nat_cmp_total n)) le)
    where
      less : (a b : ℕ) → (a ≡ b → ⊥) → a < b + 1 → a < b
      less a b differ h = omega (arith, differ, h)

  removed_behind : (b : Bool) (o : Option X) → o ≡ None → cond b None o ≡ None
  removed_behind true o h = refl
  removed_behind false o h = h

  count_from : (n : ℕ) (names : List (List ℕ)) → IsDistinct (pointwise nat_eq) names → (m : ByNumber X) → ((i : ℕ) → i < n → map.get m i ≡ None) → ((i : ℕ) → n + length names ≤ i → map.get m i ≡ None) → total f (map.values (named_from n names m)) ≡ total f (map.values m)
  count_from n [] apart m before behind = none_counted (slice_cmp nat_cmp) f ∙ sym (none_counted nat_cmp f) ∙ ap (λ l. total f (map.values l)) (sym (none_left m n before (λ i le. behind i (omega (arith, le)))))
  count_from n (t ∷ ts) apart m before behind =
      total_by (λ o. o) f (named_from (n + 1) ts m) t (map.get m n) (total f (map.values (map.remove m n)))
      (get_from (n + 1) ts m t ∙ ap (reached m) (apart_at t ts (IsDistinct-head (pointwise nat_eq) t ts apart) (n + 1)))
      (ap (λ l. total f (map.values l)) (without_number m n ts)
      ∙ count_from (n + 1) ts (IsDistinct-tail (pointwise nat_eq) t ts apart) (map.remove m n) (λ i le. map.get-remove nat_cmp_total m n i ∙ removed_before m n i (eq_by_cmp nat_cmp i n) refl le before)
      (λ i le. map.get-remove nat_cmp_total m n i ∙ removed_behind (eq_by_cmp nat_cmp i n) (map.get m i) (behind i (omega (arith, le)))))
      ∙ sym (total_at nat_cmp f nat_cmp_total nat_cmp-IsAntisymmetric m n)

-- as many values by names as by numbers
pub count_named : (names : List (List ℕ)) (m : ByNumber Values) → IsDistinct (pointwise nat_eq) names → IsBelow (length names) m → count_in (named names m) ≡ values_count m
count_named names m apart below = count_from set.len 0 names apart m (λ i le. absurd (omega (arith, le))) (λ i le. below i (omega (arith, le)))

said_count : (m : ByText Values) → count_in m ≡ unwrap_or (option_map count_in (filled m)) 0
said_count m = by (map.len m == 0) refl
  where
    by : (b : Bool) → (map.len m == 0) ≡ b → count_in m ≡ unwrap_or (option_map count_in (if b then None else Some m)) 0
    by true h = ap count_in (map.empty_of_len m (eqb-true (map.len m) 0 h)) ∙ none_counted (slice_cmp nat_cmp) set.len
    by false h = refl

pub values_total : {X : Type 0} (names : List (List ℕ)) (owner : Owner X) → IsDistinct (pointwise nat_eq) names → IsBelow (length names) owner.values → values_count owner.values ≡ unwrap_or (option_map count_in (values_said names owner)) 0
values_total names owner apart below = sym (count_named names owner.values apart below) ∙ said_count (named names owner.values)
