use Rattle.std.proofs.Common.{ap, ◌∙◌}
use Rattle.std.proofs.lemmas.Result.{on_ok_weaker, on_err_weaker}
use Rattle.bl_value.specs.declared.change.Change.TheVariants.{AddValue}
use Rattle.bl_value.specs.declared.column.Side.TheVariants.{Edge}
use Rattle.bl_graph.specs.Replay.{after_one}
use Rattle.bl_graph.specs.Owners.{no_vertex, no_edge}
use Rattle.bl_graph.proofs.Kept.{graph_grown, sound_grown}
use Rattle.bl_graph.proofs.Places.{same_all, same_front, unchanged_set}
use Rattle.bl_graph.proofs.Steps.{edge_value_added, edge_value_sound}
use Rattle.bl_graph.proofs.Whole.{either_way, always_err, grown_view, grown_sound}
use Rattle.bl_graph.proofs.graph.Graph.add_edge_value.Goals as goal

pub returns-in_err-place-clause-err : goal.returns-in_err-place-clause-err
returns-in_err-place-clause-err c = always_err c.from_residual.result (grown_view c.self.inside.tables c.edge_named.new.self c.edge_named.ensures.grown c.self.invariant ∙ c.self.view_is)

pub invariant_of-self-2 : goal.invariant_of-self-2
invariant_of-self-2 c =
    let old = c.edge_named.new.self in
    let sound = grown_sound c.self.inside.tables old c.edge_named.ensures.grown c.self.invariant in
    either_way c.insert_value.result
    (λ set. edge_value_sound old.names old.vertices.entries old.edges.entries sound c.insert_value.new.owners.entries c.args.id.now c.in_ok-place.place c.in_ok-place.ensures.place c.args.key.now c.in_ok-place.key c.args.value.now c.in_ok-place.ensures.number set)
    (λ set. sound_grown old.names old.names old.vertices.entries old.vertices.entries old.edges.entries c.insert_value.new.owners.entries (same_front old.names) (same_all no_vertex old.vertices.entries) (unchanged_set no_edge old.edges.entries c.insert_value.new.owners.entries c.args.id.now c.in_ok-place.place c.in_ok-place.ensures.place set) sound)
    c.insert_value.ensures.ok c.insert_value.ensures.err

pub returns-clause-ok : goal.returns-clause-ok
returns-clause-ok c =
    let old = c.edge_named.new.self in
    let sound = grown_sound c.self.inside.tables old c.edge_named.ensures.grown c.self.invariant in
    on_ok_weaker c.insert_value.result (λ set.
    edge_value_added old.names old.vertices.entries old.edges.entries sound c.insert_value.new.owners.entries c.args.id.now c.in_ok-place.place c.in_ok-place.ensures.place c.args.key.now c.in_ok-place.key c.args.value.now c.in_ok-place.ensures.number set
    ∙ ap (λ graph. after_one graph (AddValue Edge c.args.id.now c.args.key.now c.args.value.now)) (grown_view c.self.inside.tables old c.edge_named.ensures.grown c.self.invariant ∙ c.self.view_is)) c.insert_value.ensures.ok

pub returns-clause-err : goal.returns-clause-err
returns-clause-err c =
    let old = c.edge_named.new.self in
    let sound = grown_sound c.self.inside.tables old c.edge_named.ensures.grown c.self.invariant in
    on_err_weaker c.insert_value.result (λ set.
    graph_grown old.names old.names old.vertices.entries old.vertices.entries old.edges.entries c.insert_value.new.owners.entries (same_front old.names) (same_all no_vertex old.vertices.entries) (unchanged_set no_edge old.edges.entries c.insert_value.new.owners.entries c.args.id.now c.in_ok-place.place c.in_ok-place.ensures.place set) sound
    ∙ grown_view c.self.inside.tables old c.edge_named.ensures.grown c.self.invariant ∙ c.self.view_is) c.insert_value.ensures.err
