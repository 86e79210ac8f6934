use Rattle.std.proofs.Common.{refl, ap, subst, ◌∙◌}
use Rattle.std.specs.Option.{IsSome}
use Rattle.std.proofs.lemmas.Result.{on_ok_weaker, on_err_weaker}
use Rattle.bl_outside.specs.OrderedSet as set
use Rattle.bl_graph.proofs.ByNumber.{write_some, write_none, write_same}
use Rattle.bl_graph.proofs.keyed_values.KeyedValues.insert.Goals as goal

pub returns-in-Some-clause-ok : goal.returns-in-Some-clause-ok
returns-in-Some-clause-ok c = on_ok_weaker c.insert.result (λ e.
    write_some c.self.inside.keys.entries c.args.self.now c.self.view_is c.args.key (c.get_mut.follows.lender c.insert.new.self).entries set.empty c.in-Some.values.now c.insert.new.self (λ s. set.insert s c.args.value.now) c.in-Some.ensures.value
    ((c.get_mut.follows.holds c.insert.new.self).3 (subst IsSome c.in-Some.ensures.value refl)).0 (e ∙ ap (set.insert c.in-Some.values.now) c.in_ok-copy.ensures)) c.insert.ensures.ok

pub returns-in-Some-clause-err : goal.returns-in-Some-clause-err
returns-in-Some-clause-err c = on_err_weaker c.insert.result (λ e.
    write_same c.self.inside.keys.entries c.args.self.now c.self.view_is c.args.key (c.get_mut.follows.lender c.insert.new.self).entries c.in-Some.values.now c.insert.new.self c.in-Some.ensures.value
    ((c.get_mut.follows.holds c.insert.new.self).3 (subst IsSome c.in-Some.ensures.value refl)).0 e) c.insert.ensures.err

pub returns-in_ok-insert-in-None-clause-ok : goal.returns-in_ok-insert-in-None-clause-ok
returns-in_ok-insert-in-None-clause-ok c =
    write_none c.self.inside.keys.entries c.args.self.now c.self.view_is c.args.key (c.get_mut.follows.lender-at-none).entries c.insert-in-None.new.self.entries c.args.key set.empty c.in_ok-values-in-None.values (λ s. set.insert s c.args.value.now) c.in-None.ensures.value
    (ap (λ b. b.entries) c.get_mut.follows.holds-at-none) refl c.in_ok-insert-in-None.ensures.updates.0 (c.in_ok-values-in-None.ensures ∙ ap (set.insert set.empty) c.in_ok-copy.ensures)
