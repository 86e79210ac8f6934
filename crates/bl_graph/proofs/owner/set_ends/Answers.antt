use Rattle.std.proofs.Common.{refl}
use Rattle.bl_graph.specs.Owners.{with_ends}
use Rattle.bl_graph.proofs.Places.{set_at, set_missing}
use Rattle.bl_graph.proofs.owner.set_ends.Goals as goal

pub returns-in-Some : goal.returns-in-Some
returns-in-Some c = set_at c.args.edges.now c.args.place (with_ends c.in-Some.edge.now c.args.ends) c.in-Some.ensures.unique (λ owner. with_ends owner c.args.ends) c.in-Some.edge.now c.in-Some.ensures.value refl

pub returns-in_default : goal.returns-in_default
returns-in_default c = set_missing c.args.edges.now.entries c.args.place _ c.in_default.ensures.value
