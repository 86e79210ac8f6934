use Rattle.std.specs.Prelude.{Bool, cond, map, filter}
use Rattle.std.proofs.Common.{◌≡◌, ◌+◌, ◌++◌, [], ◌∷◌, List, ℕ, ap, arith, suc, sym, take, ◌∙◌}
use Rattle.bl_queue.specs.declared.job.Job.{Job}
use Rattle.bl_queue.specs.Jobs.{waits}
use Rattle.bl_world.proofs.ListedIds.{ids_more}
use Rattle.bl_world.proofs.listing.waiting_ids.Goals as goal

pub loop-job-preserved : goal.loop-job-preserved
loop-job-preserved c =
    let such : Job → Bool = waits in
    let i : ℕ = c.loop-job.job-index in
    let more : i + 1 ≡ suc i = omega arith in
    c.in_ok-push_waiting.ensures
    ∙ ap (λ (l : List ℕ). l ++ cond (such c.job-item.result) (c.job-item.result.id ∷ []) []) c.loop-job.invariant
    ∙ ap (λ (j : Job). map (λ (job : Job). job.id) (filter such (take i c.args.jobs.now)) ++ cond (such j) (j.id ∷ []) []) c.job-item.is
    ∙ sym (ids_more such c.args.jobs.now i c.job-item.result c.loop-job-test.true)
    ∙ ap (λ n. map (λ (job : Job). job.id) (filter such (take n c.args.jobs.now))) (sym more)
