use Rattle.std.proofs.Common.{ap, ◌∙◌, refl}
use Rattle.std.specs.Cmp.{nat_cmp_total}
use Rattle.std.specs.FinMap as map
use Rattle.std.specs.Map.Iter.{deref_pair}
use Rattle.std.proofs.lemmas.Map.Iter.{rest_more}
use Rattle.std.specs.FinMap.{nat_cmp-IsAntisymmetric}
use Rattle.bl_outside.proofs.Finite.{put_all, put_all_is}
use Rattle.bl_graph.proofs.ByNumber.{copied_more}
use Rattle.bl_graph.specs.Numbered.{by_number}
use Rattle.bl_graph.proofs.copied.copy_map.Goals as goal

pub loop-key-init : goal.loop-key-init
loop-key-init g c =
    ap (λ es. put_all nat_cmp_total c.into_iter-key-iterator.result (by_number es)) c.new-copy.ensures.empty
    ∙ ap (λ l. put_all nat_cmp_total l map.empty) c.into_iter-key-iterator.ensures.into_iter_gives.0
    ∙ put_all_is nat_cmp_total nat_cmp-IsAntisymmetric c.args.map.now.entries c.into_iter-key-iterator.ensures.into_iter_gives.5

pub loop-key-preserved-in_ok-insert : goal.loop-key-preserved-in_ok-insert
loop-key-preserved-in_ok-insert g c =
    copied_more c.loop-key.copy.entries c.insert.new.self.entries c.loop-key.key-iterator c.next.new.self c.in-Some.key.now c.in-Some.key.now c.in-Some.value.now c.in_ok-copied.field-0 (by_number c.args.map.now.entries)
    (rest_more deref_pair _ _ _ (c.in-Some.key, c.in-Some.value) c.in-Some.is c.next.ensures.steps) c.in_ok-insert.ensures.updates.0 refl c.in_ok-copied.ensures c.loop-key.invariant

pub loop-key-preserved : goal.loop-key-preserved
loop-key-preserved g c =
    copied_more c.loop-key.copy.entries c.insert.new.self.entries c.loop-key.key-iterator c.next.new.self c.in-Some.key.now c.in-Some.key.now c.in-Some.value.now c.in_ok-copied.field-0 (by_number c.args.map.now.entries)
    (rest_more deref_pair _ _ _ (c.in-Some.key, c.in-Some.value) c.in-Some.is c.next.ensures.steps) c.in_ok-insert.ensures.updates.0 refl c.in_ok-copied.ensures c.loop-key.invariant
