use Rattle.std.proofs.Common.{◌==◌, ap, sym, ◌∙◌, set, get_or}
use Rattle.bl_queue.specs.declared.job.Job.{Job}
use Rattle.std.proofs.lemmas.Bool.{eqb-true}
use Rattle.std.proofs.lemmas.List.Quantifiers.{position-Some}
use Rattle.bl_queue.specs.Runs.{job_after_feed}
use Rattle.bl_queue.proofs.Placed.{changed_at, changed_none}
use Rattle.bl_queue.proofs.running.end_one_feed.Goals as goal

pub returns-in-Some : goal.returns-in-Some
returns-in-Some c =
    ap (λ job. set c.args.jobs.now c.in-Some.found job) c.end_feed_of.ensures
    ∙ sym (changed_at c.args.number (job_after_feed c.args.moment c.args.place c.args.end) c.args.jobs.now c.requires.rising c.in-Some.found c.index-jobs-found.result (sym c.in-Some.ensures))

pub returns-in_default : goal.returns-in_default
returns-in_default c = sym (changed_none c.args.number (job_after_feed c.args.moment c.args.place c.args.end) c.args.jobs.now (sym c.in_default.ensures))

pub end_feed_of-requires : goal.end_feed_of-requires
end_feed_of-requires c =
    let at = position-Some (λ (job : Job). job.number == c.args.number) c.args.jobs.now c.in-Some.found c.index-jobs-found.result (sym c.in-Some.ensures) in
    c.requires.place c.in-Some.found c.index-jobs-found.result at.0 (eqb-true (get_or c.args.jobs.now c.in-Some.found c.index-jobs-found.result).number c.args.number at.1)
