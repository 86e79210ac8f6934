use Rattle.std.specs.Prelude.{min, drop}
use Rattle.std.proofs.Common.{ap, ◌∙◌}
use Rattle.bl_queue.proofs.OldestLogs.{drop_least}
use Rattle.bl_queue.proofs.taking_rows.drop_logs.Goals as goal

pub returns-clause-feed : goal.returns-clause-feed
returns-clause-feed c =
    ap (λ l. record c.args.feed.now { logs = l })
    (c.drop_front.ensures ∙ ap (λ k. drop k c.args.feed.now.logs) (c.min.ensures ∙ ap (min c.args.number) c.len-all.ensures) ∙ drop_least c.args.number c.args.feed.now.logs)
