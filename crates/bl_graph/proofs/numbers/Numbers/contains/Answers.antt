use Rattle.std.proofs.Common.{sym, ap, ◌∙◌, nat_eq}
use Rattle.std.specs.List.{list_any}
use Rattle.bl_outside.specs.OrderedSet as set
use Rattle.bl_graph.specs.Held.{numbers_in, numbers_of}
use Rattle.bl_graph.proofs.ByNumber.{among, has_number}
use Rattle.bl_graph.proofs.numbers.Numbers.contains.Goals as goal

pub returns-in-Few : goal.returns-in-Few
returns-in-Few c =
    c.is_among.ensures ∙ ap (list_any (λ other. nat_eq other c.args.number)) c.as_slice.ensures ∙ among c.in-Few.few.items c.args.number
    ∙ ap (λ held. set.contains (numbers_in (numbers_of held)) c.args.number) (sym c.in-Few.is) ∙ ap (λ s. set.contains s c.args.number) c.self.view_is

pub returns-in-Many : goal.returns-in-Many
returns-in-Many c =
    c.contains.ensures ∙ sym (has_number c.in-Many.many.keys c.args.number)
    ∙ ap (λ held. set.contains (numbers_in (numbers_of held)) c.args.number) (sym c.in-Many.is) ∙ ap (λ s. set.contains s c.args.number) c.self.view_is
