use Rattle.bl_graph.specs.Owners.{without_value}
use Rattle.bl_graph.proofs.Places.{set_at, set_missing}
use Rattle.bl_graph.proofs.owner.remove_value.Goals as goal

pub returns-in-Some : goal.returns-in-Some
returns-in-Some g c =
    set_at c.args.owners.now c.args.place (record c.in-Some.owner.now { values = c.remove.new.self }) c.in-Some.ensures.unique (λ owner. without_value owner c.args.key c.args.value.now) c.in-Some.owner.now c.in-Some.ensures.value (λ i. record c.in-Some.owner.now { values = c.remove.ensures i })

pub returns-in_default : goal.returns-in_default
returns-in_default g c = set_missing c.args.owners.now.entries c.args.place _ c.in_default.ensures.value
