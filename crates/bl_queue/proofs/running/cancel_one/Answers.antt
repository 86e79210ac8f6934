use Rattle.std.proofs.Common.{ap, sym, ◌∙◌, set}
use Rattle.bl_queue.specs.Runs.{cancelled_job}
use Rattle.bl_queue.proofs.Placed.{changed_at, changed_none}
use Rattle.bl_queue.proofs.running.cancel_one.Goals as goal

pub returns-in-Some : goal.returns-in-Some
returns-in-Some c =
    ap (λ job. set c.args.jobs.now c.in-Some.place job) c.cancel_job.ensures
    ∙ sym (changed_at c.args.number (cancelled_job c.args.moment) c.args.jobs.now c.requires c.in-Some.place c.index-jobs-place.result (sym c.in-Some.ensures))

pub returns-in_default : goal.returns-in_default
returns-in_default c = sym (changed_none c.args.number (cancelled_job c.args.moment) c.args.jobs.now (sym c.in_default.ensures))
