use Rattle.std.specs.Option.{option_copied}
use Rattle.std.proofs.Common.{◌≡◌, ap, arith, refl, subst, sym, Some, ◌∙◌}
use Rattle.bl_queue.specs.Jobs.{AreJobs, job_with_id}
use Rattle.bl_queue.specs.Runs.{MayCancel}
use Rattle.bl_world.specs.Worlds.{World}
use Rattle.bl_world.proofs.MadeEntries.{may_cancel}
use Rattle.bl_world.proofs.world.World.cancel_entry.Goals as goal

pub returns-clause-begun : goal.returns-clause-begun
returns-clause-begun c =
    let are : AreJobs c.args.self.now.kept = subst (λ (w : World). AreJobs w.kept) c.self.view_is c.kept-kept.ensures.are in
    let found : job_with_id c.args.id c.args.self.now.kept.jobs ≡ Some c.in-Some.it.now =
    subst (λ (w : World). job_with_id c.args.id w.kept.jobs ≡ Some c.in-Some.it.now) c.self.view_is (sym c.job_by_id.ensures ∙ ap option_copied c.in-Some.is) in
    (record { later = omega (arith, c.next_moment-moment.ensures); fits = subst (MayCancel c.args.self.now.kept.jobs) (sym c.number_of.ensures) (may_cancel c.args.self.now.kept are c.args.id c.in-Some.it.now found c.requires) }, refl)
