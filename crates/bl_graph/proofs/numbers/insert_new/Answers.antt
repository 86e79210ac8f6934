use Rattle.std.proofs.Common.{sym, ap, ◌∙◌}
use Rattle.bl_outside.specs.OrderedSet as set
use Rattle.bl_graph.specs.Held.{numbers_in, numbers_of}
use Rattle.bl_graph.proofs.ByNumber.{pushed, given_number}
use Rattle.bl_graph.proofs.numbers.insert_new.Goals as goal

pub returns-in_ok-push-in-Few-clause-ok : goal.returns-in_ok-push-in-Few-clause-ok
returns-in_ok-push-in-Few-clause-ok c =
    ap numbers_in c.in_ok-push-in-Few.ensures.ok ∙ pushed c.in-Few.few.items c.args.number ∙ ap (λ held. set.insert (numbers_in (numbers_of held)) c.args.number) (sym c.in-Few.is)

pub returns-in_ok-insert-in-Few-clause-ok : goal.returns-in_ok-insert-in-Few-clause-ok
returns-in_ok-insert-in-Few-clause-ok c =
    given_number c.in_ok-many-in-Few.many.keys c.insert.new.self.keys c.args.number c.in_ok-insert-in-Few.ensures.updates.0
    ∙ ap (λ s. set.insert s c.args.number) (c.in_ok-many-in-Few.ensures ∙ ap numbers_in c.as_slice.ensures)
    ∙ ap (λ held. set.insert (numbers_in (numbers_of held)) c.args.number) (sym c.in-Few.is)

pub returns-in_ok-insert-in-Many-clause-ok : goal.returns-in_ok-insert-in-Many-clause-ok
returns-in_ok-insert-in-Many-clause-ok c =
    given_number c.in-Many.many.keys c.insert-in-Many.new.self.keys c.args.number c.in_ok-insert-in-Many.ensures.updates.0
    ∙ ap (λ held. set.insert (numbers_in (numbers_of held)) c.args.number) (sym c.in-Many.is)
