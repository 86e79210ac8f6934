use Rattle.std.proofs.Common.{sym, ap, ◌∙◌, take, get_or}
use Rattle.std.proofs.lemmas.List.{take_more}
use Rattle.bl_outside.specs.OrderedSet as set
use Rattle.bl_graph.specs.Held.{numbers_in}
use Rattle.bl_graph.proofs.ByNumber.{pushed, given_number}
use Rattle.bl_graph.proofs.numbers.ordered.Goals as goal

pub loop-number-init : goal.loop-number-init
loop-number-init c = ap numbers_in c.new-all.ensures.empty

pub loop-number-preserved : goal.loop-number-preserved
loop-number-preserved c =
    let number = get_or c.args.numbers.now c.loop-number.number-index 0 in
    given_number c.loop-number.all.keys c.insert.new.self.keys number c.in_ok-insert.ensures.updates.0
    ∙ ap (λ s. set.insert s number) c.loop-number.invariant
    ∙ sym (pushed (take c.loop-number.number-index c.args.numbers.now) number)
    ∙ sym (ap numbers_in (take_more c.args.numbers.now c.loop-number.number-index 0 c.loop-number-test.true))
