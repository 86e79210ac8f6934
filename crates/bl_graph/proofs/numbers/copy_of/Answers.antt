use Rattle.std.proofs.Common.{sym, ap, ◌∙◌}
use Rattle.std.specs.Cmp.{nat_cmp_total}
use Rattle.std.specs.FinMap.{nat_cmp-IsAntisymmetric}
use Rattle.std.specs.Map.Iter.{deref}
use Rattle.std.proofs.lemmas.Map.Iter.{rest_more}
use Rattle.bl_outside.specs.OrderedSet as set
use Rattle.bl_outside.proofs.Finite.{add_all, add_all_is}
use Rattle.bl_graph.specs.Held.{numbers_in}
use Rattle.bl_graph.proofs.ByNumber.{given_number}
use Rattle.bl_graph.proofs.numbers.copy_of.Goals as goal

pub loop-number-init : goal.loop-number-init
loop-number-init c =
    ap (λ ks. add_all nat_cmp_total c.into_iter-number-iterator.result (numbers_in ks)) c.new-copy.ensures.empty
    ∙ ap (λ l. add_all nat_cmp_total l set.empty) (c.into_iter-number-iterator.ensures.into_iter_gives ∙ c.iter-number-items.ensures.rest)
    ∙ add_all_is nat_cmp_total nat_cmp-IsAntisymmetric c.args.numbers.now.keys

pub loop-number-preserved : goal.loop-number-preserved
loop-number-preserved c =
    ap (add_all nat_cmp_total c.next.new.self) (given_number c.loop-number.copy.keys c.insert.new.self.keys c.in-Some.number.now c.in_ok-insert.ensures.updates.0)
    ∙ ap (λ l. add_all nat_cmp_total l (numbers_in c.loop-number.copy.keys)) (sym (rest_more deref _ _ _ c.in-Some.number c.in-Some.is c.next.ensures.steps))
    ∙ c.loop-number.invariant
