use Rattle.std.proofs.Common.{ap, ◌∙◌, slice_get}
use Rattle.std.proofs.lemmas.Option.{slice_get_within}
use Rattle.std.proofs.lemmas.Result.{IfOk-weaker}
use Rattle.std.specs.Map.{keys_of}
use Rattle.bl_graph.proofs.Kept.{text_stays}
use Rattle.bl_graph.proofs.Steps.{id_at, text_at}
use Rattle.bl_graph.proofs.tables.Tables.ends_of.Goals as goal

pub returns-clause-label : goal.returns-clause-label
returns-clause-label c =
    IfOk-weaker c.ends.result _ _ (λ ends is. ap (λ e. slice_get c.vertex_named.new.self.names e.label) is ∙ text_at c.vertex_named.new.self.names c.args.label.now c.in_ok-from.label c.in_ok-from.ensures.number) c.ends.ensures

pub returns-clause-from : goal.returns-clause-from
returns-clause-from c =
    let at = id_at c.vertex_named.new.self.vertices.entries c.args.from.now c.in_ok-from.from c.in_ok-from.ensures.place in
    IfOk-weaker c.ends.result _ _ (λ ends is. ap (λ e. slice_get (keys_of c.place_of.new.owners.entries) e.from) is
    ∙ text_stays (keys_of c.vertex_named.new.self.vertices.entries) (keys_of c.place_of.new.owners.entries) c.in_ok-from.from c.place_of.ensures.same.front (slice_get_within (keys_of c.vertex_named.new.self.vertices.entries) c.in_ok-from.from c.args.from.now at) ∙ at) c.ends.ensures

pub returns-clause-to : goal.returns-clause-to
returns-clause-to c =
    IfOk-weaker c.ends.result _ _ (λ ends is. ap (λ e. slice_get (keys_of c.place_of.new.owners.entries) e.to) is ∙ id_at c.place_of.new.owners.entries c.args.to.now c.in_ok-to.to c.in_ok-to.ensures.place) c.ends.ensures
