use Rattle.std.proofs.Common.{refl}
use Rattle.std.specs.Map.Iter.{deref_pair}
use Rattle.std.proofs.lemmas.Map.Iter.{rest_more}
use Rattle.bl_graph.proofs.Copies.{owner_copied}
use Rattle.bl_graph.proofs.owner.copy_owners.Goals as goal

pub loop-id-preserved : goal.loop-id-preserved
loop-id-preserved g c =
    owner_copied c.loop-id.copy c.insert_copy.new.copy.entries c.loop-id.id-iterator c.next.new.self c.args.owners.now.entries c.in-Some.id.now c.in-Some.id.now c.in-Some.owner.now c.in-Some.owner.now
    (rest_more deref_pair _ _ _ (c.in-Some.id, c.in-Some.owner) c.in-Some.is c.next.ensures.steps) refl refl c.in_ok-insert_copy.ensures c.iter-id-items.ensures.unique c.loop-id.invariant
