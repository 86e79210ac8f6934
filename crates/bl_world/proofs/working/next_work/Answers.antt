use Rattle.std.specs.Option.{option_copied}
use Rattle.std.proofs.Common.{ap, sym, ◌∙◌}
use Rattle.bl_world.proofs.FittingFiles.{front_few}
use Rattle.bl_world.proofs.working.next_work.Goals as goal

pub file_work-requires : goal.file_work-requires
file_work-requires c = front_few c.args.jobs.now.jobs c.in-Some.job.now c.requires (sym c.front_job.ensures ∙ ap option_copied c.in-Some.is)
