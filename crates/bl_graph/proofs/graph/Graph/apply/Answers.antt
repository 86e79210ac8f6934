use Rattle.std.proofs.Common.{subst, sym}
use Rattle.std.proofs.lemmas.Result.{on_ok_weaker}
use Rattle.bl_graph.specs.ValidGraph.{IsValidGraph}
use Rattle.bl_graph.proofs.Validity.{valid_after}
use Rattle.bl_graph.proofs.graph.Graph.apply.Goals as goal

pub returns-clause-valid : goal.returns-clause-valid
returns-clause-valid c =
    on_ok_weaker c.make.result (λ e fits valid. subst IsValidGraph (sym e) (valid_after c.args.self.now valid c.args.change.now fits)) c.make.ensures.ok
