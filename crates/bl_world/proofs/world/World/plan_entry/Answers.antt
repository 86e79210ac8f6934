use Rattle.std.proofs.Common.{arith, refl, subst}
use Rattle.bl_queue.specs.Jobs.{AreJobs}
use Rattle.bl_world.specs.Makings.{IsRecordedAs}
use Rattle.bl_world.specs.Worlds.{World}
use Rattle.bl_world.proofs.MadeEntries.{IsPlanned, plan_fits, planned_is, planned_names}
use Rattle.bl_world.proofs.world.World.plan_entry.Goals as goal

pub recorded-requires : goal.recorded-requires
recorded-requires c =
    let are : AreJobs c.args.self.now.kept = subst (λ (w : World). AreJobs w.kept) c.self.view_is c.kept-kept.ensures.are in
    planned_names c.args.self.now.kept c.args.job c.args.plan (planned_is c.args.self.now.kept are c.args.job c.args.plan c.requires.plan)

pub returns-clause-begun : goal.returns-clause-begun
returns-clause-begun c =
    let are : AreJobs c.args.self.now.kept = subst (λ (w : World). AreJobs w.kept) c.self.view_is c.kept-kept.ensures.are in
    let planned : IsPlanned c.args.self.now.kept c.args.job c.args.plan = planned_is c.args.self.now.kept are c.args.job c.args.plan c.requires.plan in
    let recorded : IsRecordedAs c.args.self.now.kept.jobs c.args.job c.args.plan c.in_ok-plan.plan =
    subst (λ (w : World). IsRecordedAs w.kept.jobs c.args.job c.args.plan c.in_ok-plan.plan) c.self.view_is c.in_ok-plan.ensures.recorded in
    (record { later = omega (arith, c.next_moment-moment.ensures); fits = plan_fits c.args.self.now.kept c.args.job c.args.plan c.in_ok-plan.plan planned recorded }, refl)
