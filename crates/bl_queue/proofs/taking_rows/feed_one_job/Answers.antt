use Rattle.std.proofs.Common.{◌≡◌, get_or-set_same, length-set, ap, arith, subst, sym, ◌∙◌, set}
use Rattle.bl_queue.specs.declared.job.Job.{Job}
use Rattle.bl_queue.specs.Rows.{fed_job}
use Rattle.bl_queue.specs.Taking.{HaveLogs}
use Rattle.bl_queue.proofs.Placed.{at_place, some_at, some_get}
use Rattle.bl_queue.proofs.taking_rows.feed_one_job.Goals as goal

pub returns-clause-ok : goal.returns-clause-ok
returns-clause-ok c =
    let d = c.index-jobs-standing.result in
    let there = some_get c.args.standing.place c.args.jobs.now d _ c.requires.standing in
    ap (λ job. set c.args.jobs.now c.args.standing.place job) c.in_ok-kept.ensures.ok
    ∙ sym (at_place c.args.number (fed_job c.args.moment c.args.place c.args.taken.rows c.args.taken.digest c.args.taken.duplicates c.args.logs.now) c.args.jobs.now c.requires.rising c.args.standing.place d there.0 there.1.0)

pub returns-clause-taking : goal.returns-clause-taking
returns-clause-taking c =
    let d = c.index-jobs-standing.result in
    let place = c.args.standing.place in
    let new = c.feed_job.new.job in
    let there = some_get place c.args.jobs.now d _ c.requires.standing in
    some_at place (set c.args.jobs.now place new) d (λ job. (job.number ≡ c.args.number) × HaveLogs job.feeds c.in_ok-kept.kept) (omega (arith, length-set c.args.jobs.now place new, there.0))
    (subst (λ (job : Job). (job.number ≡ c.args.number) × HaveLogs job.feeds c.in_ok-kept.kept) (sym (get_or-set_same c.args.jobs.now place new d there.0))
    (ap (λ (job : Job). job.number) c.in_ok-kept.ensures.ok ∙ there.1.0, c.in_ok-kept.ensures.logs))
