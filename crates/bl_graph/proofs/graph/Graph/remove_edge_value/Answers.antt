use Rattle.std.proofs.Common.{◌≡◌, sym, ap, subst, ◌∙◌, None}
use Rattle.std.specs.declared.option.Option.{Option}
use Rattle.bl_value.specs.declared.change.Change.TheVariants.{RemoveValue}
use Rattle.bl_value.specs.declared.column.Side.TheVariants.{Edge}
use Rattle.bl_graph.specs.declared.owner.Ends.{Ends as EndNumbers}
use Rattle.bl_graph.specs.Replay.{after_one}
use Rattle.bl_graph.proofs.Steps.{edge_value_taken, edge_value_taken_sound, no_key, no_owner}
use Rattle.bl_graph.proofs.Whole.{graph_in}
use Rattle.bl_graph.proofs.graph.Graph.remove_edge_value.Goals as goal

pub returns-in_default : goal.returns-in_default
returns-in_default c =
    subst (λ graph. graph ≡ after_one graph (RemoveValue Edge c.args.id.now c.args.key.now c.args.value.now)) c.self.view_is
    (λ i. record { labels = (graph_in c.self.inside.tables).labels; edges = (graph_in c.self.inside.tables).edges; vertex_values = (graph_in c.self.inside.tables).vertex_values; edge_values = no_key {X = Option EndNumbers} c.self.inside.tables.names None c.self.inside.tables.edges.entries c.args.id.now c.args.key.now c.args.value.now (sym c.in_default.ensures) i })

pub returns-in_default-find_place : goal.returns-in_default-find_place
returns-in_default-find_place c =
    subst (λ graph. graph ≡ after_one graph (RemoveValue Edge c.args.id.now c.args.key.now c.args.value.now)) c.self.view_is
    (λ i. record { labels = (graph_in c.self.inside.tables).labels; edges = (graph_in c.self.inside.tables).edges; vertex_values = (graph_in c.self.inside.tables).vertex_values; edge_values = no_owner {X = Option EndNumbers} c.self.inside.tables.names None c.self.inside.tables.edges.entries c.args.id.now c.args.key.now c.args.value.now c.in_default-find_place.ensures.missing i })

pub invariant_of-self : goal.invariant_of-self
invariant_of-self c =
    let t = c.self.inside.tables in
    edge_value_taken_sound t.names t.vertices.entries t.edges.entries c.self.invariant c.remove_value.new.owners.entries c.args.id.now c.in-Some-find_place.place c.in-Some-find_place.ensures.there c.args.key.now c.in-Some.key c.args.value.now (sym c.in-Some.ensures) c.remove_value.ensures

pub returns : goal.returns
returns c =
    let t = c.self.inside.tables in
    edge_value_taken t.names t.vertices.entries t.edges.entries c.self.invariant c.remove_value.new.owners.entries c.args.id.now c.in-Some-find_place.place c.in-Some-find_place.ensures.there c.args.key.now c.in-Some.key c.args.value.now (sym c.in-Some.ensures) c.remove_value.ensures
    ∙ ap (λ graph. after_one graph (RemoveValue Edge c.args.id.now c.args.key.now c.args.value.now)) c.self.view_is
