use Rattle.std.proofs.Common.{ap, sym, ◌∙◌, set}
use Rattle.bl_queue.specs.Runs.{running_job}
use Rattle.bl_queue.proofs.Placed.{changed_at, changed_none}
use Rattle.bl_queue.proofs.starting.run_one.Goals as goal

pub returns-in-Some : goal.returns-in-Some
returns-in-Some c =
    ap (λ job. set c.args.jobs.now c.in-Some.place job) c.run_job.ensures
    ∙ sym (changed_at c.args.number (running_job c.args.moment c.args.run c.args.previous c.args.feeds) c.args.jobs.now c.requires c.in-Some.place c.index-jobs-place.result (sym c.in-Some.ensures))

pub returns-in_default : goal.returns-in_default
returns-in_default c = sym (changed_none c.args.number (running_job c.args.moment c.args.run c.args.previous c.args.feeds) c.args.jobs.now (sym c.in_default.ensures))
