use Rattle.std.proofs.Common.{ap, ◌∙◌}
use Rattle.std.proofs.lemmas.Result.{on_ok_weaker, on_err_weaker}
use Rattle.bl_value.specs.declared.change.Change.TheVariants.{AddLabel}
use Rattle.bl_graph.specs.Replay.{after_one}
use Rattle.bl_graph.specs.Owners.{no_vertex, no_edge}
use Rattle.bl_graph.proofs.Kept.{graph_grown, sound_grown}
use Rattle.bl_graph.proofs.Places.{same_all, same_front, unchanged_set}
use Rattle.bl_graph.proofs.Steps.{label_added, label_sound}
use Rattle.bl_graph.proofs.Whole.{either_way, always_err, grown_view, grown_sound}
use Rattle.bl_graph.proofs.graph.Graph.add_label.Goals as goal

pub returns-in_err-place-clause-err : goal.returns-in_err-place-clause-err
returns-in_err-place-clause-err c = always_err c.from_residual.result (grown_view c.self.inside.tables c.vertex_named.new.self c.vertex_named.ensures.grown c.self.invariant ∙ c.self.view_is)

pub invariant_of-self-2 : goal.invariant_of-self-2
invariant_of-self-2 c =
    let old = c.vertex_named.new.self in
    let sound = grown_sound c.self.inside.tables old c.vertex_named.ensures.grown c.self.invariant in
    either_way c.insert_label.result
    (λ set. label_sound old.names old.vertices.entries old.edges.entries sound c.insert_label.new.vertices.entries c.args.id.now c.in_ok-place.place c.in_ok-place.ensures.place c.args.label.now c.in_ok-place.label c.in_ok-place.ensures.number set)
    (λ set. sound_grown old.names old.names old.vertices.entries c.insert_label.new.vertices.entries old.edges.entries old.edges.entries (same_front old.names) (unchanged_set no_vertex old.vertices.entries c.insert_label.new.vertices.entries c.args.id.now c.in_ok-place.place c.in_ok-place.ensures.place set) (same_all no_edge old.edges.entries) sound)
    c.insert_label.ensures.ok c.insert_label.ensures.err

pub returns-clause-ok : goal.returns-clause-ok
returns-clause-ok c =
    let old = c.vertex_named.new.self in
    let sound = grown_sound c.self.inside.tables old c.vertex_named.ensures.grown c.self.invariant in
    on_ok_weaker c.insert_label.result (λ set.
    label_added old.names old.vertices.entries old.edges.entries sound c.insert_label.new.vertices.entries c.args.id.now c.in_ok-place.place c.in_ok-place.ensures.place c.args.label.now c.in_ok-place.label c.in_ok-place.ensures.number set
    ∙ ap (λ graph. after_one graph (AddLabel c.args.id.now c.args.label.now)) (grown_view c.self.inside.tables old c.vertex_named.ensures.grown c.self.invariant ∙ c.self.view_is)) c.insert_label.ensures.ok

pub returns-clause-err : goal.returns-clause-err
returns-clause-err c =
    let old = c.vertex_named.new.self in
    let sound = grown_sound c.self.inside.tables old c.vertex_named.ensures.grown c.self.invariant in
    on_err_weaker c.insert_label.result (λ set.
    graph_grown old.names old.names old.vertices.entries c.insert_label.new.vertices.entries old.edges.entries old.edges.entries (same_front old.names) (unchanged_set no_vertex old.vertices.entries c.insert_label.new.vertices.entries c.args.id.now c.in_ok-place.place c.in_ok-place.ensures.place set) (same_all no_edge old.edges.entries) sound
    ∙ grown_view c.self.inside.tables old c.vertex_named.ensures.grown c.self.invariant ∙ c.self.view_is) c.insert_label.ensures.err
