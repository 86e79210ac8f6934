use Rattle.std.proofs.Common.{refl, ap, sym, subst, ◌∙◌, ◌==◌}
use Rattle.std.specs.Option.{IsSome}
use Rattle.bl_outside.specs.OrderedSet as set
use Rattle.bl_graph.proofs.ByNumber.{read_some, read_none, write_some, unwritten}
use Rattle.bl_graph.specs.Numbered.{by_number}
use Rattle.bl_graph.proofs.Maps.{none_left}
use Rattle.bl_graph.proofs.keyed_values.remove_at.Goals as goal

pub returns-in-Some-clause-empty : goal.returns-in-Some-clause-empty
returns-in-Some-clause-empty c =
    c.is_empty.ensures ∙ ap (λ s. set.len s == 0) c.remove.ensures
    ∙ read_some c.args.keys.now.entries (by_number c.args.keys.now.entries) refl c.args.key set.empty c.in-Some.values.now (λ s. set.len (set.remove s c.args.value.now) == 0) c.in-Some.ensures.value

pub returns-in-Some-clause-left : goal.returns-in-Some-clause-left
returns-in-Some-clause-left c = λ _.
    write_some c.args.keys.now.entries (by_number c.args.keys.now.entries) refl c.args.key (c.get_mut.follows.lender c.remove.new.self).entries set.empty c.in-Some.values.now c.remove.new.self (λ s. set.remove s c.args.value.now) c.in-Some.ensures.value
    ((c.get_mut.follows.holds c.remove.new.self).3 (subst IsSome c.in-Some.ensures.value refl)).0 c.remove.ensures

pub returns-in-Some-clause-others : goal.returns-in-Some-clause-others
returns-in-Some-clause-others c =
    unwritten c.args.keys.now.entries (c.get_mut.follows.lender c.remove.new.self).entries c.args.key c.remove.new.self
    ((c.get_mut.follows.holds c.remove.new.self).3 (subst IsSome c.in-Some.ensures.value refl)).0

pub returns-in-None-clause-empty : goal.returns-in-None-clause-empty
returns-in-None-clause-empty c =
    sym (none_left c.args.value.now)
    ∙ read_none c.args.keys.now.entries (by_number c.args.keys.now.entries) refl c.args.key set.empty (λ s. set.len (set.remove s c.args.value.now) == 0) c.in-None.ensures.value
