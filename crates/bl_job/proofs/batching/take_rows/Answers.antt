use Rattle.std.proofs.Common.{◌≡◌, ◌+◌, ◌∙◌, drop, None, ap, sym, subst}
use Rattle.bl_graph.specs.Replay.{IsAfterFront}
use Rattle.bl_job.specs.Batches.{Taken, batch, so_far, take_rows, with_row}
use Rattle.bl_job.proofs.Fronts.{on_err}
use Rattle.bl_job.proofs.Sound.{IsSound, counts_row, sound_row}
use Rattle.bl_job.proofs.TakenRows.{front_of_rows, no_stop, take_next, take_none}
use Rattle.bl_job.proofs.batching.take_rows.Goals as goal

pub returns-in_err-take_row-clause-front : goal.returns-in_err-take_row-clause-front
returns-in_err-take_row-clause-front c =
    let request = c.args.request.now in
    let old : Taken = so_far c.loop-row.graph c.loop-row.made in
    let rows = c.as_slice-row-items.result.now in
    let row = c.row-item.result in
    let all = batch request c.args.graph.now c.args.rows.now in
    let before : take_rows request old (drop c.loop-row.row-index rows) ≡ all = c.loop-row.invariant.left ∙ ap (batch request c.args.graph.now) c.as_slice-row-items.ensures in
    let now : take_rows request (with_row request old row.row) (drop (c.loop-row.row-index + 1) rows) ≡ all =
    take_next request old all rows c.loop-row.row-index row c.loop-row.invariant.going c.loop-row-test.true c.row-item.is before in
    on_err c.from_residual.result (IsAfterFront c.args.graph.now all.result.changes c.take_row.new.graph)
    (front_of_rows request c.args.graph.now c.take_row.new.graph old all row.row (drop (c.loop-row.row-index + 1) rows) c.loop-row.invariant.sound.replays now c.in_err-take_row.ensures.front)

pub returns-then-is_some-clause-batch : goal.returns-then-is_some-clause-batch
returns-then-is_some-clause-batch c =
    let request = c.args.request.now in
    let old : Taken = so_far c.loop-row.graph c.loop-row.made in
    let rows = c.as_slice-row-items.result.now in
    let row = c.row-item.result in
    let all = batch request c.args.graph.now c.args.rows.now in
    let before : take_rows request old (drop c.loop-row.row-index rows) ≡ all = c.loop-row.invariant.left ∙ ap (batch request c.args.graph.now) c.as_slice-row-items.ensures in
    let now : take_rows request (with_row request old row.row) (drop (c.loop-row.row-index + 1) rows) ≡ all =
    take_next request old all rows c.loop-row.row-index row c.loop-row.invariant.going c.loop-row-test.true c.row-item.is before in
    sym (take_none request (so_far c.take_row.new.graph c.take_row.new.made) (drop (c.loop-row.row-index + 1) rows) (sym c.is_some.ensures ∙ c.if-is_some.true))
    ∙ ap (λ (taken : Taken). take_rows request taken (drop (c.loop-row.row-index + 1) rows)) c.in_ok-take_row.ensures.row ∙ now

pub loop-row-preserved : goal.loop-row-preserved
loop-row-preserved c =
    let request = c.args.request.now in
    let old : Taken = so_far c.loop-row.graph c.loop-row.made in
    let rows = c.as_slice-row-items.result.now in
    let row = c.row-item.result in
    let all = batch request c.args.graph.now rows in
    let is : so_far c.take_row.new.graph c.take_row.new.made ≡ with_row request old row.row = c.in_ok-take_row.ensures.row in
    let going : c.take_row.new.made.stop ≡ None = no_stop c.take_row.new.made.stop (sym c.is_some.ensures ∙ c.if-is_some.false) in record {
      left =
          ap (λ (taken : Taken). take_rows request taken (drop (c.loop-row.row-index + 1) rows)) is
          ∙ take_next request old all rows c.loop-row.row-index row c.loop-row.invariant.going c.loop-row-test.true c.row-item.is c.loop-row.invariant.left;
      going = going;
      rows =
          ap (λ (taken : Taken). taken.result.rows) is ∙ counts_row request old row.row (sym (ap (λ (taken : Taken). taken.result.stop) is) ∙ going)
          ∙ ap (λ rows. rows + 1) c.loop-row.invariant.rows;
      sound = subst (IsSound c.args.graph.now request.fail_on_error) (sym is) (sound_row c.args.graph.now request old row.row c.loop-row.invariant.going c.loop-row.invariant.sound);
    }
