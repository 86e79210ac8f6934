use Rattle.bl_world.proofs.FittingFiles.{end_iff}
use Rattle.bl_world.proofs.fitting.fits_end.Goals as goal

pub returns-in-Some : goal.returns-in-Some
returns-in-Some c = end_iff c.args.jobs.now c.args.job c.args.feed c.in-Some.it.now c.in-Some.of.now c.args.end c.may_stop.result c.in-Some.ensures.is c.may_stop.ensures
