-- A row is taken in one way.
use Rattle.std.specs.Prelude.{◌≡◌, ◌≢◌, ℕ, Bool, true, false, List, Some, None, IfSome, is_some, refl}
use Rattle.std.specs.declared.option.Option.{Option}
use Rattle.std.specs.Option.{unwrap_or}
use Rattle.std.proofs.Common.{sym, ap, subst, ◌∙◌}
use Rattle.std.proofs.lemmas.Bool.{false≢true}
use Rattle.std.proofs.lemmas.Map.Lookups.{exact_bytes}
use Rattle.std.specs.Ordering.{nat_cmp, eq_by_cmp}
use Rattle.std.specs.Cmp.Lexicographic.{slice_cmp, nat_list_cmp_total}
use Rattle.std.specs.FinMap as map
use Rattle.bl_outside.specs.OrderedSet as set
use Rattle.bl_outside.proofs.Finite.{same_set}
use Rattle.bl_value.specs.Order.{value_cmp}
use Rattle.bl_value.specs.declared.value.Value.{Value}
use Rattle.bl_value.specs.declared.column.Side.{Side}
use Rattle.bl_value.specs.declared.column.Side.TheVariants.{Vertex, Edge}
use Rattle.bl_value.specs.declared.row.Property.{Property}
use Rattle.bl_value.specs.declared.row.Row.{Row}
use Rattle.bl_value.specs.declared.row.Row.TheVariants.{Vertex as vertex_row, Edge as edge_row, Bad}
use Rattle.bl_graph.specs.Graph.{Graph, Values, ByText, Texts, Properties, at_key, keys_in, values_at}
use Rattle.bl_graph.specs.ValidGraph.{IsFull, IsValidGraph}
use Rattle.bl_graph.specs.WithRow.{TakesProperties, TakesVertex, TakesEdge, TakesRow}
use Rattle.bl_graph.proofs.Maps.{itself}
use Rattle.bl_graph.proofs.ValueOrder.{value_cmp_total, exact_values}
use Rattle.bl_graph.proofs.Validity.{same_key, none_full, is_vertex}

-- ---- maps with the same in them

same_values : (s t : Values) → ((v : Value) → set.contains s v ≡ set.contains t v) → s ≡ t
same_values s t same = same_set value_cmp_total exact_values s t same

-- a set with nothing in it has no items
none_in : (s : Values) → ((v : Value) → set.contains s v ≡ set.contains (set.empty {R = value_cmp}) v) → set.len s ≡ 0
none_in s same = ap set.len (same_values s set.empty same) ∙ map.len-empty value_cmp (Unit {0})

abbrev pub HasSome : Values → Type 0
HasSome values = set.len values ≢ 0

pub same_at_key : (o p : Option Values) → IfSome o HasSome → IfSome p HasSome → ((v : Value) → set.contains (unwrap_or o set.empty) v ≡ set.contains (unwrap_or p set.empty) v) → o ≡ p
same_at_key (Some s) (Some t) some some2 same = ap Some (same_values s t same)
same_at_key (Some s) None some some2 same = absurd (some (none_in s same))
same_at_key None (Some t) some some2 same = absurd (some2 (none_in t (λ v. sym (same v))))
same_at_key None None some some2 same = refl

same_keys : (m n : ByText Values) → ((key : List ℕ) → IfSome (map.get m key) HasSome) → ((key : List ℕ) → IfSome (map.get n key) HasSome) → ((key : List ℕ) (v : Value) → set.contains (at_key m key) v ≡ set.contains (at_key n key) v) → m ≡ n
same_keys m n some some2 same = map.same_map nat_list_cmp_total exact_bytes m n (λ key. same_at_key (map.get m key) (map.get n key) (some key) (some2 key) (same key))

-- a full map isn't the empty one
not_empty : (m : ByText Values) → IsFull m → ((key : List ℕ) (v : Value) → set.contains (at_key m key) v ≡ set.contains (at_key (map.empty {X = Values} {R = slice_cmp nat_cmp}) key) v) → ⊥
not_empty m full same = full.some (ap map.len (same_keys m map.empty full.each none_full same) ∙ map.len-empty (slice_cmp nat_cmp) Values)

same_owner : (o p : Option (ByText Values)) → IfSome o IsFull → IfSome p IsFull → ((key : List ℕ) (v : Value) → set.contains (at_key (unwrap_or o map.empty) key) v ≡ set.contains (at_key (unwrap_or p map.empty) key) v) → o ≡ p
same_owner (Some m) (Some n) full full2 same = ap Some (same_keys m n full.each full2.each same)
same_owner (Some m) None full full2 same = absurd (not_empty m full same)
same_owner None (Some n) full full2 same = absurd (not_empty n full2 (λ key v. sym (same key v)))
same_owner None None full full2 same = refl

same_owners : (m n : Properties) → ((id : List ℕ) → IfSome (map.get m id) IsFull) → ((id : List ℕ) → IfSome (map.get n id) IsFull) → ((id key : List ℕ) (v : Value) → set.contains (at_key (keys_in m id) key) v ≡ set.contains (at_key (keys_in n id) key) v) → m ≡ n
same_owners m n full full2 same = map.same_map nat_list_cmp_total exact_bytes m n (λ id. same_owner (map.get m id) (map.get n id) (full id) (full2 id) (same id))

same_labels : (o p : Option Texts) → is_some o ≡ true → is_some p ≡ true → ((label : List ℕ) → set.contains (unwrap_or o set.empty) label ≡ set.contains (unwrap_or p set.empty) label) → o ≡ p
same_labels (Some s) (Some t) there there2 same = ap Some (same_set nat_list_cmp_total exact_bytes s t same)
same_labels None p there there2 same = absurd (false≢true there)
same_labels (Some s) None there there2 same = absurd (false≢true there2)

-- maps that have the same at one key and elsewhere
module _ {X : Type 0} (m n : ByText X) (id : List ℕ) (here : map.get m id ≡ map.get n id) (elsewhere : (other : List ℕ) → (other ≡ id → ⊥) → map.get m other ≡ map.get n other) where
  same_by : (q : List ℕ) (tie : Bool) → eq_by_cmp (slice_cmp nat_cmp) q id ≡ tie → map.get m q ≡ map.get n q
  same_by q true is = subst (λ k. map.get m k ≡ map.get n k) (sym (same_key q id is)) here
  same_by q false is = elsewhere q (λ e. false≢true (sym is ∙ ap (λ k. eq_by_cmp (slice_cmp nat_cmp) k id) e ∙ itself nat_list_cmp_total id))

  same_all : m ≡ n
  same_all = map.same_map nat_list_cmp_total exact_bytes m n (λ q. same_by q (eq_by_cmp (slice_cmp nat_cmp) q id) refl)

-- ---- the values

module _ (graph : Graph) (side : Side) (id : List ℕ) (all : List Property) (one other : Graph) (first : TakesProperties graph side id all one) (second : TakesProperties graph side id all other) where
  same_here : (q key : List ℕ) (v : Value) (tie : Bool) → eq_by_cmp (slice_cmp nat_cmp) q id ≡ tie → set.contains (values_at one side q key) v ≡ set.contains (values_at other side q key) v
  same_here q key v true is = subst (λ k. set.contains (values_at one side k key) v ≡ set.contains (values_at other side k key) v) (sym (same_key q id is)) (first.own key v ∙ sym (second.own key v))
  same_here q key v false is =
      let apart : q ≡ id → ⊥ = λ e. false≢true (sym is ∙ ap (λ k. eq_by_cmp (slice_cmp nat_cmp) k id) e ∙ itself nat_list_cmp_total id) in
      ap (λ s. set.contains s v) (first.others side q key (λ _ e. apart e) ∙ sym (second.others side q key (λ _ e. apart e)))

  same_there : (place : Side) → (place ≡ side → ⊥) → (q key : List ℕ) (v : Value) → set.contains (values_at one place q key) v ≡ set.contains (values_at other place q key) v
  same_there place differs q key v = ap (λ s. set.contains s v) (first.others place q key (λ e _. differs e) ∙ sym (second.others place q key (λ e _. differs e)))

-- ---- rows

module _ (graph one other : Graph) (valid : IsValidGraph one) (valid2 : IsValidGraph other) where
  one_vertex : (id : List ℕ) (labels : List (List ℕ)) (all : List Property) → TakesVertex graph id labels all one → TakesVertex graph id labels all other → one ≡ other
  one_vertex id labels all first second =
      let labels_same : one.labels ≡ other.labels =
      same_all one.labels other.labels id (same_labels (map.get one.labels id) (map.get other.labels id) first.there second.there (λ label. first.labelled label ∙ sym (second.labelled label)))
      (λ q differs. first.others q differs ∙ sym (second.others q differs)) in
      let edges_same : one.edges ≡ other.edges = first.edges ∙ sym second.edges in
      let vertices_same : one.vertex_values ≡ other.vertex_values =
      same_owners one.vertex_values other.vertex_values (valid.full Vertex) (valid2.full Vertex)
      (λ q key v. same_here graph Vertex id all one other first.values second.values q key v (eq_by_cmp (slice_cmp nat_cmp) q id) refl) in
      let others_same : one.edge_values ≡ other.edge_values =
      same_owners one.edge_values other.edge_values (valid.full Edge) (valid2.full Edge) (same_there graph Vertex id all one other first.values second.values Edge (λ e. false≢true (ap is_vertex e))) in
      λ i. record { labels = labels_same i; edges = edges_same i; vertex_values = vertices_same i; edge_values = others_same i }

  one_edge : (id label from to : List ℕ) (all : List Property) → TakesEdge graph id label from to all one → TakesEdge graph id label from to all other → one ≡ other
  one_edge id label from to all first second =
      let labels_same : one.labels ≡ other.labels = first.vertices ∙ sym second.vertices in
      let edges_same : one.edges ≡ other.edges = same_all one.edges other.edges id (first.there ∙ sym second.there) (λ q differs. first.others q differs ∙ sym (second.others q differs)) in
      let vertices_same : one.vertex_values ≡ other.vertex_values =
      same_owners one.vertex_values other.vertex_values (valid.full Vertex) (valid2.full Vertex) (same_there graph Edge id all one other first.values second.values Vertex (λ e. false≢true (sym (ap is_vertex e)))) in
      let others_same : one.edge_values ≡ other.edge_values =
      same_owners one.edge_values other.edge_values (valid.full Edge) (valid2.full Edge)
      (λ q key v. same_here graph Edge id all one other first.values second.values q key v (eq_by_cmp (slice_cmp nat_cmp) q id) refl) in
      λ i. record { labels = labels_same i; edges = edges_same i; vertex_values = vertices_same i; edge_values = others_same i }

pub one_way : (graph : Graph) (row : Row) (one other : Graph) → IsValidGraph one → IsValidGraph other → TakesRow graph row one → TakesRow graph row other → one ≡ other
one_way graph (vertex_row id labels all) one other valid valid2 first second = one_vertex graph one other valid valid2 id labels all first second
one_way graph (edge_row id label from to all) one other valid valid2 first second = one_edge graph one other valid valid2 id label from to all first second
one_way graph (Bad code column) one other valid valid2 first second = absurd first
