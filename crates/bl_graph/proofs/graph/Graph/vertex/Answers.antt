use Rattle.std.proofs.Common.{sym, ap, ◌∙◌, not, is_some}
use Rattle.std.specs.Option.{unwrap_or}
use Rattle.bl_outside.specs.OrderedSet as set
use Rattle.bl_graph.specs.Graph.{has_vertex, keys_in, labels_of}
use Rattle.bl_graph.specs.Numbered.{ByNumber, named}
use Rattle.bl_graph.specs.Owners.{labels_said, no_vertex, owner_at}
use Rattle.bl_graph.proofs.Kept.{get_kept, keys_said, no_labels, refilled, some_filled}
use Rattle.bl_graph.proofs.Named.{named_empty}
use Rattle.bl_graph.proofs.graph.Graph.vertex.Goals as goal

pub returns-clause-known : goal.returns-clause-known
returns-clause-known c =
    let t = c.self.inside.tables in
    let own = (owner_at no_vertex t.vertices.entries c.args.id.now).own in
    c.vertex.ensures.known ∙ ap not (sym (named_empty t.names own c.len-names.ensures.differ (c.self.invariant.labels c.args.id.now)))
    ∙ sym (some_filled (named t.names own)) ∙ ap is_some (sym (get_kept (labels_said t.names) no_vertex (no_labels t.names) t.vertices.entries c.args.id.now))
    ∙ ap (λ g. has_vertex g c.args.id.now) c.self.view_is

pub returns-clause-labels : goal.returns-clause-labels
returns-clause-labels c =
    let t = c.self.inside.tables in
    c.vertex.ensures.labels ∙ sym (refilled (named t.names (owner_at no_vertex t.vertices.entries c.args.id.now).own))
    ∙ ap (λ o. unwrap_or o set.empty) (sym (get_kept (labels_said t.names) no_vertex (no_labels t.names) t.vertices.entries c.args.id.now)) ∙ ap (λ g. labels_of g c.args.id.now) c.self.view_is

pub returns-clause-values : goal.returns-clause-values
returns-clause-values c =
    let t = c.self.inside.tables in
    c.vertex.ensures.values ∙ sym (keys_said {X = ByNumber (Unit {0})} t.names set.empty t.vertices.entries t.vertices.entries c.args.id.now) ∙ ap (λ g. keys_in g.vertex_values c.args.id.now) c.self.view_is
