-- A change that fits keeps a graph valid.
use Rattle.std.specs.Prelude.{◌≡◌, ◌≢◌, ◌==◌, ℕ, ◌+◌, ◌-◌, ◌≤◌, Bool, true, false, not, ◌&&◌, cond, if◌then◌else◌, List, [], ◌∷◌, Some, None, is_some, is_none, IfSome, refl}
use Rattle.std.specs.declared.option.Option.{Option}
use Rattle.std.specs.Option.{unwrap_or}
use Rattle.std.proofs.Common.{sym, ap, subst, ◌∙◌, arith}
use Rattle.std.proofs.lemmas.Bool.{false≢true}
use Rattle.std.proofs.lemmas.Map.Lookups.{exact_bytes}
use Rattle.std.specs.Ordering.{nat_cmp, eq_by_cmp}
use Rattle.std.specs.Cmp.{Equal-is}
use Rattle.std.specs.Cmp.Lexicographic.{slice_cmp, nat_list_cmp_total}
use Rattle.std.specs.FinMap as map
use Rattle.bl_outside.specs.OrderedSet as set
use Rattle.bl_outside.proofs.Finite.{contains-empty, contains-remove}
use borrow.Author.Tests.{eqb-true, eq-eqb}
use Rattle.bl_value.specs.Order.{value_cmp}
use Rattle.bl_value.specs.declared.value.Value.{Value}
use Rattle.bl_value.specs.declared.column.Side.{Side}
use Rattle.bl_value.specs.declared.column.Side.TheVariants.{Vertex, Edge}
use Rattle.bl_value.specs.declared.change.Change.{Change}
use Rattle.bl_value.specs.declared.change.Change.TheVariants.{AddLabel, AddEdge, AddValue, RemoveValue}
use Rattle.bl_graph.specs.declared.verdict.Verdict.{Verdict}
use Rattle.bl_graph.specs.declared.verdict.Verdict.TheVariants.{Changes, Duplicate, Refused}
use Rattle.bl_graph.specs.Graph.{Graph, Values, ByText, Ends, Properties, empty, at_key, keys_in, labels_of, has_vertex, edge_of, has_owner, properties, values_at}
use Rattle.bl_graph.specs.Replay.{with_values, with_values_in, with_values_at, after_one, after, fits, fit, may_take}
use Rattle.bl_graph.specs.Admitted.{DoesFit, after_verdict}
use Rattle.bl_graph.specs.ValidGraph.{IsFull, IsValidGraph}
use Rattle.bl_graph.proofs.Maps.{none_at_key, set_with}
use Rattle.bl_graph.proofs.ValueOrder.{value_cmp_total}
use Rattle.bl_graph.proofs.Lenses.{read_back, read_apart, other_owner}
use Rattle.bl_graph.proofs.Fitting.{fits_first, fits_later}

not_none : (n : ℕ) → (n == 0) ≡ false → n ≢ 0
not_none n h = λ e. false≢true (sym h ∙ eq-eqb n 0 e)

pub same_key : (a b : List ℕ) → eq_by_cmp (slice_cmp nat_cmp) a b ≡ true → a ≡ b
same_key a b h = exact_bytes a b ((Equal-is (slice_cmp nat_cmp a b)).0 h)

module _ {X : Type 0} (P : X → Type 0) where
  either_some : (b : Bool) (x : X) (o : Option X) → P x → IfSome o P → IfSome (cond b (Some x) o) P
  either_some true x o h old = h
  either_some false x o h old = old

  either_none : (b : Bool) (o : Option X) → IfSome o P → IfSome (cond b None o) P
  either_none true o old = tt
  either_none false o old = old

  put_all_hold : (m : ByText X) (k : List ℕ) (x : X) (q : List ℕ) → P x → IfSome (map.get m q) P → IfSome (map.get (map.insert m k x) q) P
  put_all_hold m k x q h old = subst (λ o. IfSome o P) (sym (map.get-insert nat_list_cmp_total m k x q)) (either_some (eq_by_cmp (slice_cmp nat_cmp) q k) x (map.get m q) h old)

  stash_all_hold : (m : ByText X) (k : List ℕ) (x : X) (none : Bool) (q : List ℕ) → (none ≡ false → P x) → IfSome (map.get m q) P → IfSome (map.get (if none then map.remove m k else map.insert m k x) q) P
  stash_all_hold m k x true q h old = subst (λ o. IfSome o P) (sym (map.get-remove nat_list_cmp_total m k q)) (either_none (eq_by_cmp (slice_cmp nat_cmp) q k) (map.get m q) old)
  stash_all_hold m k x false q h old = put_all_hold m k x q (h refl) old

if_some_both : {X : Type 0} (P Q : X → Type 0) (o : Option X) → ((x : X) → P x → Q x) → IfSome o P → IfSome o Q
if_some_both P Q (Some x) f h = f x h
if_some_both P Q None f h = tt

-- ---- other values at one key

module _ (all : Properties) (id key : List ℕ) (s : Values) (Q : Values → Type 0) where
  key_case : (id2 key2 : List ℕ) (b : Bool) → eq_by_cmp (slice_cmp nat_cmp) key2 key ≡ b → id2 ≡ id → (key2 ≡ key → Q s) → Q (at_key (keys_in all id2) key2) → Q (at_key (keys_in (with_values_in all id key s) id2) key2)
  key_case id2 key2 true tie same here old =
      subst Q (sym (read_back all id key s) ∙ (λ i. at_key (keys_in (with_values_in all id key s) (sym same i)) (sym (same_key key2 key tie) i))) (here (same_key key2 key tie))
  key_case id2 key2 false tie same here old =
      subst Q (ap (λ x. at_key (keys_in all x) key2) same ∙ sym (read_apart all id key s key2 tie) ∙ ap (λ x. at_key (keys_in (with_values_in all id key s) x) key2) (sym same)) old

  read_case : (id2 key2 : List ℕ) (b : Bool) → eq_by_cmp (slice_cmp nat_cmp) id2 id ≡ b → (id2 ≡ id → key2 ≡ key → Q s) → Q (at_key (keys_in all id2) key2) → Q (at_key (keys_in (with_values_in all id key s) id2) key2)
  read_case id2 key2 true tie here old = key_case id2 key2 (eq_by_cmp (slice_cmp nat_cmp) key2 key) refl (same_key id2 id tie) (here (same_key id2 id tie)) old
  read_case id2 key2 false tie here old = subst Q (sym (other_owner all id key s id2 key2 tie)) old

pub none_full : (key : List ℕ) → IfSome (map.get (map.empty {X = Values} {R = slice_cmp nat_cmp}) key) (λ values. set.len values ≢ 0)
none_full key = subst (λ (o : Option Values). IfSome o (λ (values : Values). set.len values ≢ 0)) (sym (map.get-empty (slice_cmp nat_cmp) key)) tt

keys_full : (o : Option (ByText Values)) → IfSome o IsFull → (key : List ℕ) → IfSome (map.get (unwrap_or o map.empty) key) (λ values. set.len values ≢ 0)
keys_full (Some keys) h key = h.each key
keys_full None h key = none_full key

-- no empty set and no empty map comes in
full_stays : (all : Properties) (id key : List ℕ) (s : Values) → ((q : List ℕ) → IfSome (map.get all q) IsFull) → (q : List ℕ) → IfSome (map.get (with_values_in all id key s) q) IsFull
full_stays all id key s full q =
    stash_all_hold IsFull all id (with_values (keys_in all id) key s) (map.len (with_values (keys_in all id) key s) == 0) q
    (λ some. record {
      some = not_none (map.len (with_values (keys_in all id) key s)) some;
      each = λ key2. stash_all_hold (λ values. set.len values ≢ 0) (keys_in all id) key s (set.len s == 0) key2 (λ h. not_none (set.len s) h) (keys_full (map.get all id) (full id) key2);
    }) (full q)

pub value_case : (graph : Graph) (side : Side) (id key : List ℕ) (s : Values) (side2 : Side) (id2 key2 : List ℕ) (Q : Values → Type 0) → (side2 ≡ side → id2 ≡ id → key2 ≡ key → Q s) → Q (values_at graph side2 id2 key2) → Q (values_at (with_values_at graph side id key s) side2 id2 key2)
value_case graph Vertex id key s Vertex id2 key2 Q here old = read_case graph.vertex_values id key s Q id2 key2 (eq_by_cmp (slice_cmp nat_cmp) id2 id) refl (here refl) old
value_case graph Edge id key s Edge id2 key2 Q here old = read_case graph.edge_values id key s Q id2 key2 (eq_by_cmp (slice_cmp nat_cmp) id2 id) refl (here refl) old
value_case graph Vertex id key s Edge id2 key2 Q here old = old
value_case graph Edge id key s Vertex id2 key2 Q here old = old

owner_same : (graph : Graph) (side : Side) (id key : List ℕ) (s : Values) (side2 : Side) (id2 : List ℕ) → has_owner graph side2 id2 ≡ true → has_owner (with_values_at graph side id key s) side2 id2 ≡ true
owner_same graph Vertex id key s Vertex id2 h = h
owner_same graph Vertex id key s Edge id2 h = h
owner_same graph Edge id key s Vertex id2 h = h
owner_same graph Edge id key s Edge id2 h = h

module _ (graph : Graph) (id key : List ℕ) (s : Values) (valid : IsValidGraph graph) where
  owners_stay : (side : Side) → ((v : Value) → set.contains s v ≡ true → has_owner graph side id ≡ true) → (side2 : Side) (id2 key2 : List ℕ) (v : Value) → set.contains (values_at (with_values_at graph side id key s) side2 id2 key2) v ≡ true → has_owner (with_values_at graph side id key s) side2 id2 ≡ true
  owners_stay side owned side2 id2 key2 v h =
      owner_same graph side id key s side2 id2
      (value_case graph side id key s side2 id2 key2 (λ values. set.contains values v ≡ true → has_owner graph side2 id2 ≡ true)
      (λ p q r there. subst (λ x. has_owner graph x id2 ≡ true) (sym p) (subst (λ y. has_owner graph side y ≡ true) (sym q) (owned v there)))
      (valid.owners side2 id2 key2 v) h)

  one_stays : (side : Side) → (Edge ≡ side → set.len s ≤ 1) → (id2 key2 : List ℕ) → set.len (values_at (with_values_at graph side id key s) Edge id2 key2) ≤ 1
  one_stays side few id2 key2 = value_case graph side id key s Edge id2 key2 (λ values. set.len values ≤ 1) (λ p q r. few p) (valid.one id2 key2)

  valid_values : (side : Side) → ((v : Value) → set.contains s v ≡ true → has_owner graph side id ≡ true) → (Edge ≡ side → set.len s ≤ 1) → IsValidGraph (with_values_at graph side id key s)
  valid_values Vertex owned few = record {
    ends = valid.ends;
    owners = owners_stay Vertex owned;
    one = one_stays Vertex few;
    labelled = valid.labelled;
    full = λ side2 q. elim side2 as (λ x. IfSome (map.get (properties (with_values_at graph Vertex id key s) x) q) IsFull) [ Vertex ↦ full_stays graph.vertex_values id key s (valid.full Vertex) q | Edge ↦ valid.full Edge q ];
  }
  valid_values Edge owned few = record {
    ends = valid.ends;
    owners = owners_stay Edge owned;
    one = one_stays Edge few;
    labelled = valid.labelled;
    full = λ side2 q. elim side2 as (λ x. IfSome (map.get (properties (with_values_at graph Edge id key s) x) q) IsFull) [ Vertex ↦ valid.full Vertex q | Edge ↦ full_stays graph.edge_values id key s (valid.full Edge) q ];
  }

-- ---- the changes

some_stays : {X : Type 0} (b : Bool) (x : X) (o : Option X) → is_some o ≡ true → is_some (cond b (Some x) o) ≡ true
some_stays true x o h = refl
some_stays false x o h = h

there_stays : {X : Type 0} (m : ByText X) (k : List ℕ) (x : X) (q : List ℕ) → map.contains_key m q ≡ true → map.contains_key (map.insert m k x) q ≡ true
there_stays m k x q h = ap is_some (map.get-insert nat_list_cmp_total m k x q) ∙ some_stays (eq_by_cmp (slice_cmp nat_cmp) q k) x (map.get m q) h

one_more_at : (b : Bool) (n : ℕ) → n ≡ 0 → cond b n (n + 1) ≤ 1
one_more_at true n h = omega arith
one_more_at false n h = omega arith

one_less_at : (b : Bool) (n : ℕ) → n ≤ 1 → cond b (n - 1) n ≤ 1
one_less_at true n h = omega arith
one_less_at false n h = omega arith

few_with : (s : Values) (v : Value) → (set.len s == 0) ≡ true → set.len (set.insert s v) ≤ 1
few_with s v h = subst (λ n. n ≤ 1) (sym (map.len-insert value_cmp_total s v tt)) (one_more_at (set.contains s v) (set.len s) (eqb-true (set.len s) 0 h))

few_without : (s : Values) (v : Value) → set.len s ≤ 1 → set.len (set.remove s v) ≤ 1
few_without s v h = subst (λ n. n ≤ 1) (sym (map.len-remove value_cmp_total s v)) (one_less_at (set.contains s v) (set.len s) h)

abbrev pub is_vertex : Side → Bool
is_vertex Vertex = true
is_vertex Edge = false

module _ (graph : Graph) (valid : IsValidGraph graph) where
  module _ (id label : List ℕ) where
    abbrev labelled_graph : Graph
    labelled_graph = after_one graph (AddLabel id label)

    vertex_stays : (q : List ℕ) → has_vertex graph q ≡ true → has_vertex labelled_graph q ≡ true
    vertex_stays q h = there_stays graph.labels id (set.insert (labels_of graph id) label) q h

    owners_with_label : (side : Side) (q key : List ℕ) (v : Value) → set.contains (values_at labelled_graph side q key) v ≡ true → has_owner labelled_graph side q ≡ true
    owners_with_label Vertex q key v h = vertex_stays q (valid.owners Vertex q key v h)
    owners_with_label Edge q key v h = valid.owners Edge q key v h

    full_with_label : (side : Side) (q : List ℕ) → IfSome (map.get (properties labelled_graph side) q) IsFull
    full_with_label Vertex q = valid.full Vertex q
    full_with_label Edge q = valid.full Edge q

    valid_label : IsValidGraph labelled_graph
    valid_label = record {
      ends = λ q. if_some_both (λ ends. (has_vertex graph ends.from ≡ true) × (has_vertex graph ends.to ≡ true)) (λ ends. (has_vertex labelled_graph ends.from ≡ true) × (has_vertex labelled_graph ends.to ≡ true)) (edge_of graph q) (λ ends h. (vertex_stays ends.from h.0, vertex_stays ends.to h.1)) (valid.ends q);
      owners = owners_with_label;
      one = valid.one;
      labelled = λ q. put_all_hold (λ labels. set.len labels ≢ 0) graph.labels id (set.insert (labels_of graph id) label) q (not_none (set.len (set.insert (labels_of graph id) label)) (set_with nat_list_cmp_total (labels_of graph id) label)) (valid.labelled q);
      full = full_with_label;
    }

  module _ (id label from to : List ℕ) (fitting : fits graph (AddEdge id label from to) ≡ true) where
    abbrev edged_graph : Graph
    edged_graph = after_one graph (AddEdge id label from to)

    abbrev new_ends : Ends
    new_ends = record { label = label; from = from; to = to }

    owners_with_edge : (side : Side) (q key : List ℕ) (v : Value) → set.contains (values_at edged_graph side q key) v ≡ true → has_owner edged_graph side q ≡ true
    owners_with_edge Vertex q key v h = valid.owners Vertex q key v h
    owners_with_edge Edge q key v h = there_stays graph.edges id new_ends q (valid.owners Edge q key v h)

    full_with_edge : (side : Side) (q : List ℕ) → IfSome (map.get (properties edged_graph side) q) IsFull
    full_with_edge Vertex q = valid.full Vertex q
    full_with_edge Edge q = valid.full Edge q

    valid_edge : IsValidGraph edged_graph
    valid_edge = record {
      ends = λ q. put_all_hold (λ ends. (has_vertex graph ends.from ≡ true) × (has_vertex graph ends.to ≡ true)) graph.edges id new_ends q
          (fits_later (is_none (edge_of graph id)) (has_vertex graph from) (fits_first (is_none (edge_of graph id) && has_vertex graph from) (has_vertex graph to) fitting), fits_later (is_none (edge_of graph id) && has_vertex graph from) (has_vertex graph to) fitting) (valid.ends q);
      owners = owners_with_edge;
      one = valid.one;
      labelled = valid.labelled;
      full = full_with_edge;
    }

  valid_added : (side : Side) (id key : List ℕ) (v : Value) → fits graph (AddValue side id key v) ≡ true → (Edge ≡ side → set.len (set.insert (values_at graph side id key) v) ≤ 1) → IsValidGraph (after_one graph (AddValue side id key v))
  valid_added side id key v fitting few =
      valid_values graph id key (set.insert (values_at graph side id key) v) valid side
      (λ w there. fits_first (has_owner graph side id) (not (set.contains (values_at graph side id key) v)) (fits_first (has_owner graph side id && not (set.contains (values_at graph side id key) v)) (may_take side (values_at graph side id key)) fitting)) few

  valid_removed : (side : Side) (id key : List ℕ) (v : Value) → (Edge ≡ side → set.len (set.remove (values_at graph side id key) v) ≤ 1) → IsValidGraph (after_one graph (RemoveValue side id key v))
  valid_removed side id key v few =
      valid_values graph id key (set.remove (values_at graph side id key) v) valid side
      (λ w there. valid.owners side id key w (fits_later (not (eq_by_cmp value_cmp w v)) (set.contains (values_at graph side id key) w) (sym (contains-remove value_cmp_total (values_at graph side id key) v w) ∙ there))) few

  -- a change that fits keeps the graph valid
  pub valid_after : (change : Change) → fits graph change ≡ true → IsValidGraph (after_one graph change)
  valid_after (AddLabel id label) fitting = valid_label id label
  valid_after (AddEdge id label from to) fitting = valid_edge id label from to fitting
  valid_after (AddValue Vertex id key v) fitting = valid_added Vertex id key v fitting (λ p. absurd (false≢true (ap is_vertex p)))
  valid_after (AddValue Edge id key v) fitting =
      valid_added Edge id key v fitting (λ p. few_with (values_at graph Edge id key) v (fits_later (has_owner graph Edge id && not (set.contains (values_at graph Edge id key) v)) (may_take Edge (values_at graph Edge id key)) fitting))
  valid_after (RemoveValue Vertex id key v) fitting = valid_removed Vertex id key v (λ p. absurd (false≢true (ap is_vertex p)))
  valid_after (RemoveValue Edge id key v) fitting = valid_removed Edge id key v (λ p. few_without (values_at graph Edge id key) v (valid.one id key))

-- changes that fit, each in turn, keep the graph valid
pub valid_after_all : (graph : Graph) (changes : List Change) → IsValidGraph graph → fit graph changes ≡ true → IsValidGraph (after graph changes)
valid_after_all graph [] valid fitting = valid
valid_after_all graph (c ∷ cs) valid fitting =
    valid_after_all (after_one graph c) cs (valid_after graph valid c (fits_first (fits graph c) (fit (after_one graph c) cs) fitting)) (fits_later (fits graph c) (fit (after_one graph c) cs) fitting)

-- changes that fit, of a verdict
pub valid_after_verdict : (graph : Graph) (verdict : Verdict) → IsValidGraph graph → DoesFit graph verdict → IsValidGraph (after_verdict graph verdict)
valid_after_verdict graph (Changes changes) valid fitting = valid_after_all graph changes valid fitting
valid_after_verdict graph Duplicate valid fitting = valid
valid_after_verdict graph (Refused code column) valid fitting = valid

nothing_at : {X : Type 0} (P : X → Type 0) (id : List ℕ) → IfSome (map.get (map.empty {X = X} {R = slice_cmp nat_cmp}) id) P
nothing_at {X} P id = subst (λ (o : Option X). IfSome o P) (sym (map.get-empty (slice_cmp nat_cmp) id)) tt

empty_values : (id key : List ℕ) → at_key (keys_in map.empty id) key ≡ set.empty
empty_values id key =
    ap (λ (o : Option (ByText Values)). at_key (unwrap_or o map.empty) key) (map.get-empty (slice_cmp nat_cmp) id) ∙ none_at_key key

pub empty_at : (side : Side) (id key : List ℕ) → values_at empty side id key ≡ set.empty
empty_at Vertex id key = empty_values id key
empty_at Edge id key = empty_values id key

empty_full : (side : Side) (id : List ℕ) → IfSome (map.get (properties empty side) id) IsFull
empty_full Vertex id = nothing_at IsFull id
empty_full Edge id = nothing_at IsFull id

-- the graph without anything is valid
pub valid_empty : IsValidGraph empty
valid_empty = record {
  ends = λ id. nothing_at (λ ends. (has_vertex empty ends.from ≡ true) × (has_vertex empty ends.to ≡ true)) id;
  owners = λ side id key v h. absurd (false≢true (sym (ap (λ s. set.contains s v) (empty_at side id key) ∙ contains-empty value_cmp v) ∙ h));
  one = λ id key. subst (λ s. set.len s ≤ 1) (sym (empty_at Edge id key)) (subst (λ n. n ≤ 1) (sym (map.len-empty value_cmp (Unit {0}))) (omega arith));
  labelled = λ id. nothing_at (λ labels. set.len labels ≢ 0) id;
  full = empty_full;
}
