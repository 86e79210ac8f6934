use Rattle.std.proofs.Common.{sym, ap, ◌∙◌, ◌==◌}
use Rattle.std.specs.Cmp.{nat_cmp_total}
use Rattle.bl_outside.specs.OrderedSet as set
use Rattle.bl_graph.specs.Held.{numbers_in, numbers_of}
use Rattle.bl_graph.proofs.Maps.{len_none}
use Rattle.bl_graph.proofs.numbers.Numbers.is_empty.Goals as goal

pub returns-in-Few : goal.returns-in-Few
returns-in-Few c =
    c.is_empty.ensures ∙ len_none nat_cmp_total c.in-Few.few.items
    ∙ ap (λ held. set.len (numbers_in (numbers_of held)) == 0) (sym c.in-Few.is) ∙ ap (λ s. set.len s == 0) c.self.view_is

pub returns-in-Many : goal.returns-in-Many
returns-in-Many c =
    ap (λ n. n == 0) c.len.ensures.len ∙ len_none nat_cmp_total c.in-Many.many.keys
    ∙ ap (λ held. set.len (numbers_in (numbers_of held)) == 0) (sym c.in-Many.is) ∙ ap (λ s. set.len s == 0) c.self.view_is
