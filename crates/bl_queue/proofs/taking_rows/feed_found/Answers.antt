use Rattle.std.proofs.Common.{refl, sym}
use Rattle.bl_queue.specs.Rows.{fed_job}
use Rattle.bl_queue.proofs.Placed.{changed_none}
use Rattle.bl_queue.proofs.taking_rows.feed_found.Goals as goal

pub returns-in-None-clause-ok : goal.returns-in-None-clause-ok
returns-in-None-clause-ok c = sym (changed_none c.args.number (fed_job c.args.moment c.args.place c.args.taken.rows c.args.taken.digest c.args.taken.duplicates c.args.logs.now) c.args.jobs.now (c.in-None.ensures.none refl))
