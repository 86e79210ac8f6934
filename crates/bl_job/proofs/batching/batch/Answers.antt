use Rattle.std.proofs.Common.{◌≡◌, true, sym, subst}
use Rattle.std.proofs.lemmas.Result.{IfOk-weaker}
use Rattle.std.specs.List.{All}
use Rattle.bl_value.specs.Valid.{IsChange}
use Rattle.bl_graph.specs.Replay.{after, fit}
use Rattle.bl_graph.specs.ValidChanges.{HasValidValues}
use Rattle.bl_job.specs.Batches.{Taken, batch, so_far}
use Rattle.bl_job.specs.Batched.{AreProperRows, AreValidRows, CountsRows, NumbersLogs}
use Rattle.bl_job.proofs.Fitting.{fit_batch, valid_batch}
use Rattle.bl_job.proofs.Sound.{IsSound, counts_batch, sound_batch}
use Rattle.bl_job.proofs.ValidChanges.{valid_changes, valid_values}
use Rattle.bl_job.proofs.batching.batch.Goals as goal

pub returns-clause-replays : goal.returns-clause-replays
returns-clause-replays c =
    IfOk-weaker c.take_rows.result (λ made. so_far c.take_rows.new.graph made ≡ batch c.args.request.now c.args.graph.now c.args.rows.now) (λ made. after c.args.graph.now made.changes ≡ c.take_rows.new.graph)
    (λ made is. (subst (IsSound c.args.graph.now c.args.request.now.fail_on_error) (sym is) (sound_batch c.args.request.now c.args.graph.now c.args.rows.now)).replays) c.take_rows.ensures.batch

pub returns-clause-counts : goal.returns-clause-counts
returns-clause-counts c =
    IfOk-weaker c.take_rows.result (λ made. so_far c.take_rows.new.graph made ≡ batch c.args.request.now c.args.graph.now c.args.rows.now) (CountsRows c.args.rows.now)
    (λ made is. subst (λ (taken : Taken). CountsRows c.args.rows.now taken.result) (sym is) (counts_batch c.args.request.now c.args.graph.now c.args.rows.now)) c.take_rows.ensures.batch

pub returns-clause-logs : goal.returns-clause-logs
returns-clause-logs c =
    IfOk-weaker c.take_rows.result (λ made. so_far c.take_rows.new.graph made ≡ batch c.args.request.now c.args.graph.now c.args.rows.now) (NumbersLogs c.args.request.now.fail_on_error)
    (λ made is. subst (λ (taken : Taken). NumbersLogs c.args.request.now.fail_on_error taken.result) (sym is) (sound_batch c.args.request.now c.args.graph.now c.args.rows.now).logs) c.take_rows.ensures.batch

pub returns-clause-fit : goal.returns-clause-fit
returns-clause-fit c =
    IfOk-weaker c.take_rows.result (λ made. so_far c.take_rows.new.graph made ≡ batch c.args.request.now c.args.graph.now c.args.rows.now) (λ made. AreProperRows c.args.rows.now → fit c.args.graph.now made.changes ≡ true)
    (λ made is proper. subst (λ (taken : Taken). fit c.args.graph.now taken.result.changes ≡ true) (sym is) (fit_batch c.args.request.now c.args.graph.now c.args.rows.now proper).fits) c.take_rows.ensures.batch

pub returns-clause-valid : goal.returns-clause-valid
returns-clause-valid c = valid_batch c.args.request.now c.args.graph.now c.take_rows.new.graph c.args.rows.now c.take_rows.result c.take_rows.ensures.batch c.take_rows.ensures.front

pub returns-clause-valid_changes : goal.returns-clause-valid_changes
returns-clause-valid_changes c =
    IfOk-weaker c.take_rows.result (λ made. so_far c.take_rows.new.graph made ≡ batch c.args.request.now c.args.graph.now c.args.rows.now) (λ made. AreValidRows c.args.rows.now → HasValidValues c.args.graph.now → All IsChange made.changes)
    (λ made is rows values. subst (λ (taken : Taken). All IsChange taken.result.changes) (sym is) (valid_changes c.args.request.now c.args.graph.now c.args.rows.now rows values).changes) c.take_rows.ensures.batch

pub returns-clause-values : goal.returns-clause-values
returns-clause-values c = valid_values c.args.request.now c.args.graph.now c.take_rows.new.graph c.args.rows.now c.take_rows.result c.take_rows.ensures.batch c.take_rows.ensures.front
