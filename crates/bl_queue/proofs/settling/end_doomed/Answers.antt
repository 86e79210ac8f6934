use Rattle.std.proofs.Common.{arith, sym}
use Rattle.bl_queue.specs.Doomed.{IsFate}
use Rattle.bl_queue.proofs.DoomedJobs.{all_zip, passed_more, passed_none}
use Rattle.bl_queue.proofs.settling.end_doomed.Goals as goal

pub loop-place-init : goal.loop-place-init
loop-place-init c = passed_none c.args.moment c.args.jobs.now

pub loop-place-preserved : goal.loop-place-preserved
loop-place-preserved c = passed_more c.args.moment c.args.jobs.now c.requires c.loop-place.jobs c.pass.new.jobs c.loop-place.place c.loop-place.invariant (omega arith) c.pass.ensures

pub returns : goal.returns
returns c = all_zip (IsFate c.args.moment c.args.jobs.now) c.args.jobs.now c.loop-place.jobs (sym c.loop-place.invariant.same) (λ k d below. c.loop-place.invariant.done k d (omega arith))
