use Rattle.std.proofs.Common.{ap, ◌∙◌}
use Rattle.bl_value.specs.declared.change.Change.TheVariants.{AddEdge}
use Rattle.bl_graph.specs.Replay.{after_one}
use Rattle.bl_graph.specs.Owners.{no_vertex}
use Rattle.bl_graph.proofs.Kept.{graph_grown, sound_grown}
use Rattle.bl_graph.proofs.Places.{same_all, same_front}
use Rattle.bl_graph.proofs.Steps.{edge_added, edge_sound}
use Rattle.bl_graph.proofs.Whole.{always_err, grown_view, grown_sound}
use Rattle.bl_graph.proofs.graph.Graph.add_edge.Goals as goal

pub returns-in_err-ends-clause-err : goal.returns-in_err-ends-clause-err
returns-in_err-ends-clause-err c = always_err c.from_residual.result (grown_view c.self.inside.tables c.ends_of.new.self c.ends_of.ensures.grown c.self.invariant ∙ c.self.view_is)

pub returns-in_err-place-clause-err : goal.returns-in_err-place-clause-err
returns-in_err-place-clause-err c =
    let old = c.ends_of.new.self in
    always_err c.from_residual-in_err-place.result
    (graph_grown old.names old.names old.vertices.entries old.vertices.entries old.edges.entries c.place_of.new.owners.entries (same_front old.names) (same_all no_vertex old.vertices.entries) c.place_of.ensures.same (grown_sound c.self.inside.tables old c.ends_of.ensures.grown c.self.invariant)
    ∙ grown_view c.self.inside.tables old c.ends_of.ensures.grown c.self.invariant ∙ c.self.view_is)

pub invariant_of-self-2 : goal.invariant_of-self-2
invariant_of-self-2 c =
    let old = c.ends_of.new.self in
    let sound = sound_grown old.names old.names old.vertices.entries old.vertices.entries old.edges.entries c.place_of.new.owners.entries (same_front old.names) (same_all no_vertex old.vertices.entries) c.place_of.ensures.same (grown_sound c.self.inside.tables old c.ends_of.ensures.grown c.self.invariant) in
    edge_sound old.names old.vertices.entries c.place_of.new.owners.entries sound c.set_ends.new.edges.entries c.args.id.now c.in_ok-place.place c.in_ok-place.ensures.place c.args.label.now c.args.from.now c.args.to.now c.in_ok-ends.ends c.in_ok-ends.ensures.label c.in_ok-ends.ensures.from c.in_ok-ends.ensures.to c.set_ends.ensures

pub returns-clause-ok : goal.returns-clause-ok
returns-clause-ok c =
    let old = c.ends_of.new.self in
    let before = grown_sound c.self.inside.tables old c.ends_of.ensures.grown c.self.invariant in
    let sound = sound_grown old.names old.names old.vertices.entries old.vertices.entries old.edges.entries c.place_of.new.owners.entries (same_front old.names) (same_all no_vertex old.vertices.entries) c.place_of.ensures.same before in
    edge_added old.names old.vertices.entries c.place_of.new.owners.entries sound c.set_ends.new.edges.entries c.args.id.now c.in_ok-place.place c.in_ok-place.ensures.place c.args.label.now c.args.from.now c.args.to.now c.in_ok-ends.ends c.in_ok-ends.ensures.label c.in_ok-ends.ensures.from c.in_ok-ends.ensures.to c.set_ends.ensures
    ∙ ap (λ graph. after_one graph (AddEdge c.args.id.now c.args.label.now c.args.from.now c.args.to.now))
    (graph_grown old.names old.names old.vertices.entries old.vertices.entries old.edges.entries c.place_of.new.owners.entries (same_front old.names) (same_all no_vertex old.vertices.entries) c.place_of.ensures.same before
    ∙ grown_view c.self.inside.tables old c.ends_of.ensures.grown c.self.invariant ∙ c.self.view_is)
