use Rattle.std.proofs.Common.{◌≡◌, ◌+◌, ◌-◌, ℕ, get_or, length, arith, ap, subst, ◌∙◌}
use Rattle.bl_files.specs.declared.feed.Feed.{Feed}
use Rattle.bl_queue.proofs.LastLogs.{IsBehind, behind_at, behind_more, kept_logs}
use Rattle.bl_queue.proofs.OldestLogs.{left_logs}
use Rattle.bl_queue.proofs.taking_rows.keep_last_logs.Goals as goal

pub loop-place-preserved : goal.loop-place-preserved
loop-place-preserved c =
    let place : ℕ = c.loop-place.place - 1 in
    let up : c.loop-place.place ≡ place + 1 = omega arith in
    let d = c.index-feeds-place.result in
    let room = c.loop-place.room in
    let was : IsBehind c.args.feeds.now c.loop-place.feeds (place + 1) room = subst (λ n. IsBehind c.args.feeds.now c.loop-place.feeds n room) up c.loop-place.invariant in
    let at : get_or c.loop-place.feeds place d ≡ get_or c.args.feeds.now place d = behind_at c.args.feeds.now c.loop-place.feeds place room d was in
    behind_more c.args.feeds.now c.loop-place.feeds place room c.keep_last-room.result d c.keep_last-room.new.feed was
    (c.keep_last-room.ensures.kept ∙ ap (kept_logs room) at)
    (c.keep_last-room.ensures.left ∙ ap (λ (f : Feed). room - length f.logs) at)

pub overflow_sub-result : goal.overflow_sub-result
overflow_sub-result c = omega (arith, c.loop-place.invariant.left)

pub returns-clause-logs : goal.returns-clause-logs
returns-clause-logs c =
    let ended : c.loop-place.place ≡ 0 = omega arith in
    let behind : IsBehind c.args.feeds.now c.loop-place.feeds 0 c.loop-place.room = subst (λ n. IsBehind c.args.feeds.now c.loop-place.feeds n c.loop-place.room) ended c.loop-place.invariant in
    left_logs c.args.feeds.now c.loop-place.feeds _ (omega (arith, behind.left)) behind.done
