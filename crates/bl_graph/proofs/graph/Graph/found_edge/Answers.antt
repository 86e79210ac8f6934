use Rattle.std.proofs.Common.{sym, ap, ◌∙◌, refl, None}
use Rattle.std.specs.declared.option.Option.{Option}
use Rattle.std.specs.Map.{keys_of}
use Rattle.bl_graph.specs.declared.owner.Ends.{Ends as EndNumbers}
use Rattle.bl_graph.specs.Graph.{edge_of, keys_in}
use Rattle.bl_graph.specs.Owners.{ends_said, no_edge}
use Rattle.bl_graph.proofs.Kept.{get_kept, keys_said}
use Rattle.bl_graph.proofs.graph.Graph.found_edge.Goals as goal

pub returns-clause-ends : goal.returns-clause-ends
returns-clause-ends c =
    let t = c.self.inside.tables in
    c.edge.ensures.ends ∙ sym (get_kept (ends_said t.names (keys_of t.vertices.entries)) no_edge refl t.edges.entries c.args.id.now) ∙ ap (λ g. edge_of g c.args.id.now) c.self.view_is

pub returns-clause-values : goal.returns-clause-values
returns-clause-values c =
    let t = c.self.inside.tables in
    c.edge.ensures.values ∙ sym (keys_said {X = Option EndNumbers} t.names None t.edges.entries t.edges.entries c.args.id.now) ∙ ap (λ g. keys_in g.edge_values c.args.id.now) c.self.view_is
