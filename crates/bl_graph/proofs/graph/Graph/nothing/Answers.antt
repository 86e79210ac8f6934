use Rattle.std.proofs.Common.{sym, subst, []}
use Rattle.bl_graph.specs.Owners.{IsSound}
use Rattle.bl_graph.proofs.Whole.{sound_nothing}
use Rattle.bl_graph.proofs.graph.Graph.nothing.Goals as goal

pub invariant_of-result : goal.invariant_of-result
invariant_of-result c =
    subst (λ names. IsSound names c.new.result.vertices.entries c.new.result.edges.entries) (sym c.new.ensures.names)
    (subst (λ vertices. IsSound [] vertices c.new.result.edges.entries) (sym c.new.ensures.vertices) (subst (λ edges. IsSound [] [] edges) (sym c.new.ensures.edges) sound_nothing))
