use Rattle.std.proofs.Common.{sym, ap, ◌∙◌}
use Rattle.bl_outside.specs.OrderedSet as set
use Rattle.bl_graph.specs.Numbered.{at_number}
use Rattle.bl_graph.proofs.Nested.{given_again}
use Rattle.bl_graph.proofs.numbered_values.NumberedValues.insert.Goals as goal

pub returns-then-has-clause-ok : goal.returns-then-has-clause-ok
returns-then-has-clause-ok c = sym (given_again c.args.self.now c.args.key c.args.value.now (sym c.if-has.ensures))

pub invariant_of-self : goal.invariant_of-self
invariant_of-self c = c.insert_new.ensures.once c.self.invariant (ap (λ m. set.contains (at_number m c.args.key) c.args.value.now) c.self.view_is ∙ sym c.if-has.ensures)
