use Rattle.std.proofs.lemmas.Result.{on_ok_weaker, on_err_weaker}
use Rattle.bl_graph.specs.Owners.{with_value}
use Rattle.bl_graph.proofs.Places.{set_at, set_missing}
use Rattle.bl_graph.proofs.owner.insert_value.Goals as goal

pub returns-in-Some-clause-ok : goal.returns-in-Some-clause-ok
returns-in-Some-clause-ok g c = on_ok_weaker c.insert.result (λ e.
    set_at c.args.owners.now c.args.place (record c.in-Some.owner.now { values = c.insert.new.self }) c.in-Some.ensures.unique (λ owner. with_value owner c.args.key c.args.value.now) c.in-Some.owner.now c.in-Some.ensures.value (λ i. record c.in-Some.owner.now { values = e i })) c.insert.ensures.ok

pub returns-in-Some-clause-err : goal.returns-in-Some-clause-err
returns-in-Some-clause-err g c = on_err_weaker c.insert.result (λ e.
    set_at c.args.owners.now c.args.place (record c.in-Some.owner.now { values = c.insert.new.self }) c.in-Some.ensures.unique (λ owner. owner) c.in-Some.owner.now c.in-Some.ensures.value (λ i. record c.in-Some.owner.now { values = e i })) c.insert.ensures.err

pub returns-in-None-clause-ok : goal.returns-in-None-clause-ok
returns-in-None-clause-ok g c = set_missing c.args.owners.now.entries c.args.place _ c.in-None.ensures.value
