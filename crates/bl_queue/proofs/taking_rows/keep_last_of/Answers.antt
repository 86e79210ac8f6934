use Rattle.std.proofs.Common.{arith}
use Rattle.bl_queue.proofs.OldestLogs.{few_stay, left_logs, many_go}
use Rattle.bl_queue.proofs.taking_rows.keep_last_of.Goals as goal

pub returns-then-number-le-MOST_LOGS-clause-last : goal.returns-then-number-le-MOST_LOGS-clause-last
returns-then-number-le-MOST_LOGS-clause-last c = few_stay c.args.feeds.now c.args.number c.requires (omega arith)

pub returns-then-number-le-MOST_LOGS-clause-logs : goal.returns-then-number-le-MOST_LOGS-clause-logs
returns-then-number-le-MOST_LOGS-clause-logs c = record { few = omega arith; are = c.requires }

pub returns-clause-last : goal.returns-clause-last
returns-clause-last c = many_go c.args.feeds.now c.drop_first_logs.new.feeds c.args.number c.requires c.drop_first_logs.ensures

pub returns-clause-logs : goal.returns-clause-logs
returns-clause-logs c = left_logs c.args.feeds.now c.drop_first_logs.new.feeds _ (omega (arith, c.requires)) (many_go c.args.feeds.now c.drop_first_logs.new.feeds c.args.number c.requires c.drop_first_logs.ensures)
