-- What is said of ids, and what becomes of it.
use Rattle.std.specs.Prelude.{◌≡◌, ℕ, ◌+◌, ◌<◌, ◌≤◌, ◌==◌, nat_eq, Bool, true, false, not, ◌&&◌, cond, if◌then◌else◌, List, [], ◌∷◌, ◌++◌, length, slice_get, Some, None, is_some, refl}
use Rattle.std.specs.declared.option.Option.{Option}
use Rattle.std.specs.declared.cmp.Ordering.{Ordering}
use Rattle.std.specs.Option.{unwrap_or}
use Rattle.std.proofs.Common.{sym, ap, subst, ◌∙◌, arith}
use Rattle.std.proofs.lemmas.Bool.{eqb-true}
use Rattle.std.proofs.lemmas.List.{length-append, length-map}
use Rattle.std.proofs.lemmas.Option.{slice_get-get_or}
use Rattle.std.proofs.Math.ListN.{get_or-append}
use Rattle.std.specs.Map.{keys_of}
use Rattle.std.specs.Ordering.{nat_cmp, eq_by_cmp}
use Rattle.std.specs.Cmp.{eq_by_cmp_equiv, Equal-is}
use Rattle.std.specs.Cmp.Lexicographic.{pointwise, slice_cmp, nat_list_cmp_total, texts_ties}
use Rattle.std.specs.FinMap as map
use Rattle.std.proofs.lemmas.Map.Lookups.{exact_bytes}
use Rattle.bl_outside.specs.OrderedSet as set
use Rattle.bl_outside.proofs.Finite.{contains-empty, contains-remove, same_set}
use Rattle.bl_value.specs.Order.{value_cmp}
use Rattle.bl_value.specs.declared.value.Value.{Value}
use Rattle.bl_graph.specs.declared.owner.Owner.{Owner}
use Rattle.bl_graph.specs.declared.owner.Ends.{Ends as EndNumbers}
use Rattle.bl_graph.specs.Graph.{ByText, Values, at_key, keys_in}
use Rattle.bl_graph.specs.Replay.{with_values_in}
use Rattle.bl_graph.specs.Numbered.{ByNumber, written, filled, named, IsFront, IsBelow}
use Rattle.bl_graph.specs.Owners.{AreSame, AreWithin, IsSound, Vertex, Edge, bare, no_vertex, no_edge, found, owner_at, kept, labels_said, values_said, ends_said, ends_at, ends_of, graph_of}
use Rattle.bl_graph.proofs.Maps.{with_values_is, with_keys_is}
use Rattle.bl_graph.proofs.Named.{get_written, named_grown, below_more, empty_named}
use Rattle.bl_graph.proofs.ValueOrder.{value_cmp_total, exact_values}

-- an empty map says nothing, and a filled one is itself
pub nothing_filled : {K X : Type 0} (R : K → K → Ordering) → filled (map.empty {X = X} {R = R}) ≡ None
nothing_filled {K} {X} R = ap (λ n. if n == 0 then None else Some (map.empty {X = X} {R = R})) (map.len-empty R X)

pub refilled : {K X : Type 0} {R : K → K → Ordering} (m : map.FinMap R X) → unwrap_or (filled m) map.empty ≡ m
refilled m = by (map.len m == 0) refl
  where
    by : (b : Bool) → (map.len m == 0) ≡ b → unwrap_or (if b then None else Some m) map.empty ≡ m
    by true h = sym (map.empty_of_len m (eqb-true (map.len m) 0 h))
    by false h = refl

pub some_filled : {K X : Type 0} {R : K → K → Ordering} (m : map.FinMap R X) → is_some (filled m) ≡ not (map.len m == 0)
some_filled m = by (map.len m == 0)
  where
    by : (b : Bool) → is_some (if b then None else Some m) ≡ not b
    by true = refl
    by false = refl

tied : (id q : List ℕ) → pointwise nat_eq id q ≡ eq_by_cmp (slice_cmp nat_cmp) q id
tied id q = texts_ties id q ∙ (eq_by_cmp_equiv nat_list_cmp_total).symm id q

module _ {Y X : Type 0} (says : Y → Option X) (none : Y) (nothing : says none ≡ None) where
  first_by : (y : Y) (r : Option Y) (b : Bool) → cond b (says y) (says (unwrap_or r none)) ≡ says (unwrap_or (cond b (Some y) r) none)
  first_by y r true = refl
  first_by y r false = refl

  -- what is said of an id
  pub get_kept : (es : List (List ℕ × Y)) (q : List ℕ) → map.get (kept says es) q ≡ says (owner_at none es q)
  get_kept [] q = map.get-empty (slice_cmp nat_cmp) q ∙ sym nothing
  get_kept (e ∷ es) q =
      get_written nat_list_cmp_total (kept says es) e.0 (says e.1) q
      ∙ ap (λ b. cond b (says e.1) (map.get (kept says es) q)) (sym (texts_ties q e.0))
      ∙ ap (cond (pointwise nat_eq q e.0) (says e.1)) (get_kept es q)
      ∙ first_by e.1 (found es q) (pointwise nat_eq q e.0)

  put_by : (r y : Y) (b : Bool) → says (cond b r y) ≡ cond b (says r) (says y)
  put_by r y true = refl
  put_by r y false = refl

  -- one id that is written
  pub kept_written : (es fs : List (List ℕ × Y)) (id : List ℕ) (r : Y) → ((q : List ℕ) → owner_at none fs q ≡ cond (pointwise nat_eq id q) r (owner_at none es q)) → kept says fs ≡ written (kept says es) id (says r)
  kept_written es fs id r h = map.same_map nat_list_cmp_total exact_bytes _ _ (λ q.
      get_kept fs q ∙ ap says (h q) ∙ put_by r (owner_at none es q) (pointwise nat_eq id q)
      ∙ ap (λ b. cond b (says r) (says (owner_at none es q))) (tied id q)
      ∙ sym (get_written nat_list_cmp_total (kept says es) id (says r) q ∙ ap (cond (eq_by_cmp (slice_cmp nat_cmp) q id) (says r)) (get_kept es q)))

-- the same is said of all
pub kept_same : {Y X : Type 0} (says says2 : Y → Option X) (none none2 : Y) → says none ≡ None → says2 none2 ≡ None → (es fs : List (List ℕ × Y)) → ((q : List ℕ) → says2 (owner_at none2 fs q) ≡ says (owner_at none es q)) → kept says2 fs ≡ kept says es
kept_same says says2 none none2 nothing nothing2 es fs h = map.same_map nat_list_cmp_total exact_bytes _ _ (λ q. get_kept says2 none2 nothing2 fs q ∙ h q ∙ sym (get_kept says none nothing es q))

-- ---- nothing is said of what isn't there

pub no_labels : (names : List (List ℕ)) → labels_said names no_vertex ≡ None
no_labels names = ap filled (empty_named {X = Unit {0}} names) ∙ nothing_filled (slice_cmp nat_cmp)

pub no_values : {X : Type 0} (names : List (List ℕ)) (own : X) → values_said names (bare own) ≡ None
no_values names own = ap filled (empty_named {X = Values} names) ∙ nothing_filled (slice_cmp nat_cmp)

-- ---- more names and ids behind the others

front_longer : {X : Type 0} (xs ys : List X) → IsFront xs ys → length xs ≤ length ys
front_longer xs ys front = subst (λ n. length xs ≤ n) (sym (ap length front.1 ∙ length-append xs front.0)) (longer (length xs) (length front.0))
  where
    longer : (a b : ℕ) → a ≤ a + b
    longer a b = omega arith

pub text_stays : (xs ys : List (List ℕ)) (i : ℕ) → IsFront xs ys → i < length xs → slice_get ys i ≡ slice_get xs i
text_stays xs ys i front h =
    ap (λ l. slice_get l i) front.1
    ∙ slice_get-get_or (xs ++ front.0) i [] (subst (λ n. i < n) (sym (length-append xs front.0)) (further (length front.0) h)) ∙ ap Some (get_or-append xs front.0 [] i h) ∙ sym (slice_get-get_or xs i [] h)
  where
    further : (b : ℕ) → i < length xs → i < length xs + b
    further b g = omega (arith, g)

ends_stay : (names more ids others : List (List ℕ)) → IsFront names more → IsFront ids others → (o : Option EndNumbers) → AreWithin (length names) (length ids) o → ends_of more others o ≡ ends_of names ids o
ends_stay names more ids others front front2 None within = refl
ends_stay names more ids others front front2 (Some ends) within =
    λ i. ends_at (text_stays names more ends.label front within.0 i) (text_stays ids others ends.from front2 within.1 i) (text_stays ids others ends.to front2 within.2 i)

within_more : (a b c d : ℕ) → a ≤ b → c ≤ d → (o : Option EndNumbers) → AreWithin a c o → AreWithin b d o
within_more a b c d le le2 None within = tt
within_more a b c d le le2 (Some ends) within = (omega (arith, within.0, le), omega (arith, within.1, le2), omega (arith, within.2, le2))

pub keys_length : {X : Type 0} (es : List (List ℕ × X)) → length (keys_of es) ≡ length es
keys_length es = length-map es (λ e. e.0)

module _ (names more : List (List ℕ)) (vs vs2 : List (List ℕ × Vertex)) (es es2 : List (List ℕ × Edge)) (front : IsFront names more) (same : AreSame no_vertex vs vs2) (same2 : AreSame no_edge es es2) (sound : IsSound names vs es) where
  ids_longer : length vs ≤ length vs2
  ids_longer = subst (λ n. n ≤ length vs2) (keys_length vs) (subst (λ n. length (keys_of vs) ≤ n) (keys_length vs2) (front_longer (keys_of vs) (keys_of vs2) same.front))

  -- the graph stays
  pub graph_grown : graph_of more vs2 es2 ≡ graph_of names vs es
  graph_grown =
      let labels = kept_same (labels_said names) (labels_said more) no_vertex no_vertex (no_labels names) (no_labels more) vs vs2
      (λ q. ap (labels_said more) (same.at q) ∙ ap filled (named_grown names more (owner_at no_vertex vs q).own front (sound.labels q))) in
      let edges = kept_same (ends_said names (keys_of vs)) (ends_said more (keys_of vs2)) no_edge no_edge refl refl es es2
      (λ q. ap (ends_said more (keys_of vs2)) (same2.at q) ∙ ends_stay names more (keys_of vs) (keys_of vs2) front same.front (owner_at no_edge es q).own (subst (λ n. AreWithin (length names) n (owner_at no_edge es q).own) (sym (keys_length vs)) (sound.ends q))) in
      let vertex_values = kept_same (values_said names) (values_said more) no_vertex no_vertex (no_values {X = ByNumber (Unit {0})} names set.empty) (no_values {X = ByNumber (Unit {0})} more set.empty) vs vs2
      (λ q. ap (values_said more) (same.at q) ∙ ap filled (named_grown names more (owner_at no_vertex vs q).values front (sound.vertex_values q))) in
      let edge_values = kept_same (values_said names) (values_said more) no_edge no_edge (no_values {X = Option EndNumbers} names None) (no_values {X = Option EndNumbers} more None) es es2
      (λ q. ap (values_said more) (same2.at q) ∙ ap filled (named_grown names more (owner_at no_edge es q).values front (sound.edge_values q))) in
      λ i. record { labels = labels i; edges = edges i; vertex_values = vertex_values i; edge_values = edge_values i }

  -- and all numbers are those of texts
  pub sound_grown : IsSound more vs2 es2
  sound_grown = record {
    labels = λ q. subst (λ o. IsBelow (length more) o.own) (sym (same.at q)) (below_more (length names) (length more) (owner_at no_vertex vs q).own (front_longer names more front) (sound.labels q));
    vertex_values = λ q. subst (λ o. IsBelow (length more) o.values) (sym (same.at q)) (below_more (length names) (length more) (owner_at no_vertex vs q).values (front_longer names more front) (sound.vertex_values q));
    ends = λ q. subst (λ o. AreWithin (length more) (length vs2) o.own) (sym (same2.at q)) (within_more (length names) (length more) (length vs) (length vs2) (front_longer names more front) ids_longer (owner_at no_edge es q).own (sound.ends q));
    edge_values = λ q. subst (λ o. IsBelow (length more) o.values) (sym (same2.at q)) (below_more (length names) (length more) (owner_at no_edge es q).values (front_longer names more front) (sound.edge_values q));
  }

-- ---- the values of one owner

pub remove_none : {X : Type 0} (m : ByText X) (k : List ℕ) → map.get m k ≡ None → map.remove m k ≡ m
remove_none m k none = map.same_map nat_list_cmp_total exact_bytes _ _ (λ q. map.get-remove nat_list_cmp_total m k q ∙ by q (eq_by_cmp (slice_cmp nat_cmp) q k) refl)
  where
    by : (q : List ℕ) (b : Bool) → eq_by_cmp (slice_cmp nat_cmp) q k ≡ b → cond b None (map.get m q) ≡ map.get m q
    by q true is = sym (ap (map.get m) (exact_bytes q k ((Equal-is (slice_cmp nat_cmp q k)).0 is)) ∙ none)
    by q false is = refl

none_removed : (v : Value) → set.remove (set.empty {R = value_cmp}) v ≡ set.empty
none_removed v = same_set value_cmp_total exact_values _ _ (λ q. contains-remove value_cmp_total set.empty v q ∙ ap (λ b. not (eq_by_cmp value_cmp q v) && b) (contains-empty value_cmp q) ∙ nothing (eq_by_cmp value_cmp q v) ∙ sym (contains-empty value_cmp q))
  where
    nothing : (b : Bool) → (not b && false) ≡ false
    nothing true = refl
    nothing false = refl

-- a value that isn't there is removed in vain
pub removed_none : (m : ByText Values) (k : List ℕ) (v : Value) → map.get m k ≡ None → m ≡ written m k (filled (set.remove (at_key m k) v))
removed_none m k v none =
    sym (remove_none m k none)
    ∙ ap (written m k) (sym (nothing_filled value_cmp) ∙ ap filled (sym (none_removed v) ∙ ap (λ (o : Option Values). set.remove (unwrap_or o set.empty) v) (sym none)))

module _ {X : Type 0} (names : List (List ℕ)) (own : X) (es fs : List (List ℕ × Owner X)) (id : List ℕ) where
  pub keys_said : keys_in (kept (values_said names) es) id ≡ named names (owner_at (bare own) es id).values
  keys_said = ap (λ o. unwrap_or o map.empty) (get_kept (values_said names) (bare own) (no_values names own) es id) ∙ refilled (named names (owner_at (bare own) es id).values)

  -- the values of an owner that was written
  pub values_written : (key : List ℕ) (values : Values) (r : Owner X) → ((q : List ℕ) → owner_at (bare own) fs q ≡ cond (pointwise nat_eq id q) r (owner_at (bare own) es q)) →
      named names r.values ≡ written (named names (owner_at (bare own) es id).values) key (filled values) → kept (values_said names) fs ≡ with_values_in (kept (values_said names) es) id key values
  values_written key values r at is =
      kept_written (values_said names) (bare own) (no_values names own) es fs id r at
      ∙ ap (λ m. written (kept (values_said names) es) id (filled m)) (is ∙ ap (λ m. written m key (filled values)) (sym keys_said) ∙ sym (with_values_is (keys_in (kept (values_said names) es) id) key values))
      ∙ sym (with_keys_is (kept (values_said names) es) id _)
