use Rattle.std.proofs.Common.{◌≡◌, ◌+◌, None, [], ◌∷◌, ◌++◌, sym, ap, subst, ◌∙◌, arith, length, List}
use Rattle.std.proofs.lemmas.List.{length_push}
use Rattle.bl_queue.specs.declared.job.Job.{Job}
use Rattle.bl_queue.specs.Jobs.{AreJobs, Kept, number_in}
use Rattle.bl_queue.specs.Checks.{refusal}
use Rattle.bl_queue.specs.Changes.{IsTrimmed, new_job}
use Rattle.bl_queue.specs.Pass.{AreOrdered}
use Rattle.bl_queue.proofs.FatedJobs.{ordered}
use Rattle.bl_queue.proofs.SettledJobs.{are_settled, settled_length}
use Rattle.bl_queue.proofs.SubmittedJobs.{pushed_calm, pushed_steady}
use Rattle.bl_queue.proofs.TrimmedJobs.{trimmed_are}
use Rattle.bl_queue.proofs.jobs.Jobs.submit.Goals as goal

pub with_settled-requires : goal.with_settled-requires
with_settled-requires c =
    let kept : Kept = record { last = c.self.inside.last; jobs = c.self.inside.jobs } in
    let passes = subst (λ (k : Kept). refusal k c.args.request ≡ None) (sym c.self.view_is) c.requires.taken_on in
    let number = subst (λ (k : Kept). number_in c.args.id ≡ k.last + 1) (sym c.self.view_is) c.requires.id in
    let is = c.replace-jobs.ensures.value ∙ c.in_ok-push.ensures.ok ∙ ap (λ job. kept.jobs ++ job ∷ []) c.new_job.ensures in
    subst AreOrdered (sym is) (ordered (kept.last + 1) _ (pushed_steady c.args.moment c.args.id c.args.request kept c.self.invariant.are passes number))

pub invariant_of-self-2 : goal.invariant_of-self-2
invariant_of-self-2 c =
    let kept : Kept = record { last = c.self.inside.last; jobs = c.self.inside.jobs } in
    let passes = subst (λ (k : Kept). refusal k c.args.request ≡ None) (sym c.self.view_is) c.requires.taken_on in
    let number = subst (λ (k : Kept). number_in c.args.id ≡ k.last + 1) (sym c.self.view_is) c.requires.id in
    let is = c.replace-jobs.ensures.value ∙ c.in_ok-push.ensures.ok ∙ ap (λ job. kept.jobs ++ job ∷ []) c.new_job.ensures in
    let before : List Job = kept.jobs ++ new_job c.args.moment (kept.last + 1) c.args.id c.args.request ∷ [] in
    let all : IsTrimmed c.args.moment before c.with_settled.result = subst (λ l. IsTrimmed c.args.moment l c.with_settled.result) is c.with_settled.ensures in
    let settled = are_settled c.args.moment (kept.last + 1) before all.0 (pushed_steady c.args.moment c.args.id c.args.request kept c.self.invariant.are passes number) (pushed_calm c.args.moment c.args.id c.args.request kept c.self.invariant.are passes number) all.1 in
    let longer : length before ≡ length kept.jobs + 1 = length_push kept.jobs _ in
    record {
      are = subst (λ l. AreJobs (record { last = kept.last + 1; jobs = l })) (sym all.2)
          (trimmed_are (kept.last + 1) all.0 settled (omega (arith, settled_length c.args.moment before all.0 all.1, longer, c.self.invariant.are.few)));
      known = tt;
    }
