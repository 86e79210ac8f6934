use Rattle.std.proofs.lemmas.Result.{on_ok_weaker, on_err_weaker}
use Rattle.bl_graph.specs.Owners.{with_label}
use Rattle.bl_graph.proofs.Places.{set_at, set_missing}
use Rattle.bl_graph.proofs.owner.insert_label.Goals as goal

pub returns-in-Some-clause-ok : goal.returns-in-Some-clause-ok
returns-in-Some-clause-ok c = on_ok_weaker c.insert.result (λ e.
    set_at c.args.vertices.now c.args.place (record c.in-Some.vertex.now { own = c.insert.new.self }) c.in-Some.ensures.unique (λ owner. with_label owner c.args.label) c.in-Some.vertex.now c.in-Some.ensures.value (λ i. record c.in-Some.vertex.now { own = e i })) c.insert.ensures.ok

pub returns-in-Some-clause-err : goal.returns-in-Some-clause-err
returns-in-Some-clause-err c = on_err_weaker c.insert.result (λ e.
    set_at c.args.vertices.now c.args.place (record c.in-Some.vertex.now { own = c.insert.new.self }) c.in-Some.ensures.unique (λ owner. owner) c.in-Some.vertex.now c.in-Some.ensures.value (λ i. record c.in-Some.vertex.now { own = e i })) c.insert.ensures.err

pub returns-in-None-clause-ok : goal.returns-in-None-clause-ok
returns-in-None-clause-ok c = set_missing c.args.vertices.now.entries c.args.place _ c.in-None.ensures.value
