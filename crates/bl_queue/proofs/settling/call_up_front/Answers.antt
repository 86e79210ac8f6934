use Rattle.std.proofs.Common.{sym, ap, ◌∙◌, set}
use Rattle.bl_queue.proofs.Fronts.{called_up_at, none_at, with_front_none}
use Rattle.bl_queue.specs.Jobs.{is_unended}
use Rattle.bl_queue.proofs.settling.call_up_front.Goals as goal

pub returns-in-Some : goal.returns-in-Some
returns-in-Some c =
    ap (λ job. set c.args.jobs.now c.in-Some.place job) c.call_up.ensures
    ∙ sym (called_up_at c.args.jobs.now c.in-Some.place c.index-jobs-place.result (sym c.in-Some.ensures))

pub returns-in_default : goal.returns-in_default
returns-in_default c = sym (with_front_none c.args.jobs.now (none_at is_unended c.args.jobs.now (sym c.in_default.ensures)))
