use Rattle.bl_world.proofs.FittingFiles.{rows_iff}
use Rattle.bl_world.proofs.fitting.fits_rows.Goals as goal

pub returns-in-Some : goal.returns-in-Some
returns-in-Some c = rows_iff c.args.jobs.now c.args.job c.args.feed c.args.from c.args.rows c.args.duplicates c.args.logs.now c.in-Some.it.now c.in-Some.of.now c.fits_file.result c.in-Some.ensures.is c.fits_file.ensures
