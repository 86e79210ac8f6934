use Rattle.std.proofs.Common.{◌≡◌, sym, ap, subst, ◌∙◌}
use Rattle.bl_outside.specs.OrderedSet as set
use Rattle.bl_value.specs.declared.change.Change.TheVariants.{RemoveValue}
use Rattle.bl_value.specs.declared.column.Side.TheVariants.{Vertex}
use Rattle.bl_graph.specs.Numbered.{ByNumber}
use Rattle.bl_graph.specs.Replay.{after_one}
use Rattle.bl_graph.proofs.Steps.{value_taken, value_taken_sound, no_key, no_owner}
use Rattle.bl_graph.proofs.Whole.{graph_in}
use Rattle.bl_graph.proofs.graph.Graph.remove_vertex_value.Goals as goal

pub returns-in_default : goal.returns-in_default
returns-in_default c =
    subst (λ graph. graph ≡ after_one graph (RemoveValue Vertex c.args.id.now c.args.key.now c.args.value.now)) c.self.view_is
    (λ i. record { labels = (graph_in c.self.inside.tables).labels; edges = (graph_in c.self.inside.tables).edges; vertex_values = no_key {X = ByNumber (Unit {0})} c.self.inside.tables.names set.empty c.self.inside.tables.vertices.entries c.args.id.now c.args.key.now c.args.value.now (sym c.in_default.ensures) i; edge_values = (graph_in c.self.inside.tables).edge_values })

pub returns-in_default-find_place : goal.returns-in_default-find_place
returns-in_default-find_place c =
    subst (λ graph. graph ≡ after_one graph (RemoveValue Vertex c.args.id.now c.args.key.now c.args.value.now)) c.self.view_is
    (λ i. record { labels = (graph_in c.self.inside.tables).labels; edges = (graph_in c.self.inside.tables).edges; vertex_values = no_owner {X = ByNumber (Unit {0})} c.self.inside.tables.names set.empty c.self.inside.tables.vertices.entries c.args.id.now c.args.key.now c.args.value.now c.in_default-find_place.ensures.missing i; edge_values = (graph_in c.self.inside.tables).edge_values })

pub invariant_of-self : goal.invariant_of-self
invariant_of-self c =
    let t = c.self.inside.tables in
    value_taken_sound t.names t.vertices.entries t.edges.entries c.self.invariant c.remove_value.new.owners.entries c.args.id.now c.in-Some-find_place.place c.in-Some-find_place.ensures.there c.args.key.now c.in-Some.key c.args.value.now (sym c.in-Some.ensures) c.remove_value.ensures

pub returns : goal.returns
returns c =
    let t = c.self.inside.tables in
    value_taken t.names t.vertices.entries t.edges.entries c.self.invariant c.remove_value.new.owners.entries c.args.id.now c.in-Some-find_place.place c.in-Some-find_place.ensures.there c.args.key.now c.in-Some.key c.args.value.now (sym c.in-Some.ensures) c.remove_value.ensures
    ∙ ap (λ graph. after_one graph (RemoveValue Vertex c.args.id.now c.args.key.now c.args.value.now)) c.self.view_is
