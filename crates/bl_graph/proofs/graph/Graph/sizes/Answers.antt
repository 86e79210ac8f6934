use Rattle.std.proofs.Common.{◌≡◌, sym, ap, subst, ◌∙◌, ◌==◌, ◌+◌, ◌-◌, ◌^◌, refl, not, is_some, length, min, ℕ, Bool, cond}
use Rattle.std.specs.FinMap as map
use Rattle.std.specs.Map.{keys_of, values_of}
use Rattle.std.specs.Option.{option_map, unwrap_or}
use Rattle.bl_outside.specs.OrderedSet as set
use Rattle.bl_graph.specs.Numbered.{values_count}
use Rattle.bl_graph.specs.Owners.{AreWithin, Edge, Vertex, ends_said, labels_said, no_edge, no_vertex, owner_at, values_said}
use Rattle.bl_graph.specs.Sizes.{count_in, values_count as counted}
use Rattle.bl_graph.proofs.Counted.{each_owner, ends_some, labels_some, len_kept, same_total, total_kept, values_total}
use Rattle.bl_graph.proofs.Kept.{keys_length}
use Rattle.bl_graph.proofs.Named.{below_empty}
use Rattle.bl_graph.proofs.graph.Graph.sizes.Goals as goal

abbrev one : Bool → ℕ
one b = cond b 1 0

pub returns-clause-vertices : goal.returns-clause-vertices
returns-clause-vertices c =
    let t = c.self.inside.tables in
    c.sizes.ensures.vertices
    ∙ same_total (λ owner. cond (not (set.len owner.own == 0)) 1 0) (λ owner. cond (is_some (labels_said t.names owner)) 1 0) (values_of t.vertices.entries)
    (each_owner (λ (owner : Vertex). ◌≡◌ {A = ℕ} (cond (not (set.len owner.own == 0)) 1 0) (cond (is_some (labels_said t.names owner)) 1 0)) no_vertex (ap one (labels_some t.names no_vertex c.len-names.ensures.differ (below_empty (length t.names))))
    t.vertices.entries c.sizes.ensures.ids (λ q. ap one (labels_some t.names (owner_at no_vertex t.vertices.entries q) c.len-names.ensures.differ (c.self.invariant.labels q))))
    ∙ sym (len_kept (labels_said t.names) t.vertices.entries c.sizes.ensures.ids) ∙ ap (λ g. map.len g.labels) c.self.view_is

pub returns-clause-edges : goal.returns-clause-edges
returns-clause-edges c =
    let t = c.self.inside.tables in
    c.sizes.ensures.edges
    ∙ same_total (λ owner. cond (is_some owner.own) 1 0) (λ owner. cond (is_some (ends_said t.names (keys_of t.vertices.entries) owner)) 1 0) (values_of t.edges.entries)
    (each_owner (λ (owner : Edge). ◌≡◌ {A = ℕ} (cond (is_some owner.own) 1 0) (cond (is_some (ends_said t.names (keys_of t.vertices.entries) owner)) 1 0)) no_edge refl
    t.edges.entries c.sizes.ensures.other_ids (λ q. ap one (ends_some t.names (keys_of t.vertices.entries) (owner_at no_edge t.edges.entries q).own (subst (λ n. AreWithin (length t.names) n (owner_at no_edge t.edges.entries q).own) (sym (keys_length t.vertices.entries)) (c.self.invariant.ends q)))))
    ∙ sym (len_kept (ends_said t.names (keys_of t.vertices.entries)) t.edges.entries c.sizes.ensures.other_ids) ∙ ap (λ g. map.len g.edges) c.self.view_is

pub returns-clause-values : goal.returns-clause-values
returns-clause-values c =
    let t = c.self.inside.tables in
    let vertices = same_total (λ owner. values_count owner.values) (λ owner. unwrap_or (option_map count_in (values_said t.names owner)) 0) (values_of t.vertices.entries)
    (each_owner (λ (owner : Vertex). values_count owner.values ≡ unwrap_or (option_map count_in (values_said t.names owner)) 0) no_vertex (values_total t.names no_vertex c.len-names.ensures.differ (below_empty (length t.names)))
    t.vertices.entries c.sizes.ensures.ids (λ q. values_total t.names (owner_at no_vertex t.vertices.entries q) c.len-names.ensures.differ (c.self.invariant.vertex_values q)))
    ∙ sym (total_kept (values_said t.names) count_in t.vertices.entries c.sizes.ensures.ids) in
    let edges = same_total (λ owner. values_count owner.values) (λ owner. unwrap_or (option_map count_in (values_said t.names owner)) 0) (values_of t.edges.entries)
    (each_owner (λ (owner : Edge). values_count owner.values ≡ unwrap_or (option_map count_in (values_said t.names owner)) 0) no_edge (values_total t.names no_edge c.len-names.ensures.differ (below_empty (length t.names)))
    t.edges.entries c.sizes.ensures.other_ids (λ q. values_total t.names (owner_at no_edge t.edges.entries q) c.len-names.ensures.differ (c.self.invariant.edge_values q)))
    ∙ sym (total_kept (values_said t.names) count_in t.edges.entries c.sizes.ensures.other_ids) in
    c.sizes.ensures.values ∙ (λ i. min (vertices i + edges i) (2 ^ 64 - 1)) ∙ ap (λ g. min (counted g) (2 ^ 64 - 1)) c.self.view_is
