use Rattle.bl_world.proofs.RisingLogs.{rise_more}
use Rattle.bl_world.proofs.fitting.numbers_rise.Goals as goal

pub loop-i-preserved : goal.loop-i-preserved
loop-i-preserved c = rise_more c.args.logs.now c.loop-i.i _ c.loop-i.auto.i c.loop-i-test.true c.if-logs-i.false c.loop-i.invariant
