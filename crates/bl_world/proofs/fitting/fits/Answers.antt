use Rattle.std.proofs.Common.{subst, sym}
use Rattle.std.specs.Prelude.{◌↔◌, IfOk, IsTrue}
use Rattle.bl_entry.specs.declared.entry.Entry.{Entry}
use Rattle.bl_world.specs.Following.{FitsJobs}
use Rattle.bl_world.proofs.fitting.fits.Goals as goal

pub returns-in-Start : goal.returns-in-Start
returns-in-Start c = subst (λ (e : Entry). IfOk c.fits_start.result (λ fits. IsTrue fits ↔ FitsJobs c.args.jobs.now e)) (sym c.in-Start.is) c.fits_start.ensures
