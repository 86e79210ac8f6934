-- An entry of another load.
use Rattle.std.specs.Prelude.{◌≡◌, ◌≢◌, ℕ, ◌+◌, ◌-◌, ◌≤◌, List, [], refl, Contains}
use Rattle.std.proofs.Common.{sym, ap, ◌∙◌, arith, inl, inr}
use Rattle.bl_value.specs.declared.log_code.LogCode.TheVariants.{ListFault, NoPreviousLoad, SourceNotFound, TooManyFiles}
use Rattle.bl_files.specs.declared.plan_result.PlanResult.{PlanResult}
use Rattle.bl_files.specs.declared.plan_result.PlanResult.TheVariants as plan
use Rattle.bl_queue.specs.declared.job.Job.{Job}
use Rattle.bl_queue.specs.declared.job_status.JobStatus.TheVariants.{InProgress}
use Rattle.bl_queue.specs.Statuses.{is_to_start}
use Rattle.bl_queue.specs.Jobs.{Kept}
use Rattle.bl_queue.specs.Changes.{IsChanged}
use Rattle.bl_queue.specs.Runs.{IsStarted, begun, cancelled_job, closed, feeds_after, goes_on_from, job_after_feed, number_of, refused_job, run_after, running_job, started_job}
use Rattle.bl_queue.specs.Rows.{fed_job}
use Rattle.bl_entry.specs.declared.entry.Entry.{Entry}
use Rattle.bl_entry.specs.declared.entry.Entry.TheVariants.{Submit, Cancel, Start, Batch, FeedEnd as End}
use Rattle.bl_world.specs.Worlds.{FitsStart, IsNext, World, changes_of}
use Rattle.bl_chain.specs.Chains.{Chain, IsOther}
use Rattle.bl_chain.specs.Tables.{Table}
use Rattle.bl_chain.proofs.FedFiles.{closed_all}
use Rattle.bl_chain.proofs.Holdings.{Holds, JobHolds, SureStep, quiet, same_holds, starts_other, taken_changed}
use Rattle.bl_chain.proofs.KeptJobs.{ComesChanged, changed_from, changed_last, submitted_from, submitted_last}

pub closed_number : (job : Job) → (closed job).number ≡ job.number
closed_number job = closed_all (λ x. x.number ≡ job.number) job (λ h. refl) (λ h. refl)

-- another job is changed
pub other_changed : (tables : List Table) (before : World) (moment number job : ℕ) (change : Job → Job) (new : Kept) (chain : Chain) → Holds tables before job chain → ((x : Job) → (change x).number ≡ x.number) → number ≢ job
    → IsChanged moment number change before.kept new → (it : Job) → Contains new.jobs it → it.number ≡ job → JobHolds tables chain it
other_changed tables before moment number job change new chain h keeps other changed it there same =
    let old : ComesChanged number change before.kept.jobs it = changed_from moment number change before.kept new changed it there in
    elim old.2 [
      | inl is ↦ absurd (other (sym is.0 ∙ sym (keeps old.0) ∙ sym is.1.number ∙ same))
      | inr is ↦ same_holds tables chain old.0 it is.1 (h.each old.0 old.1 (sym is.1.number ∙ same))
    ]

module _ (tables : List Table) (before world : World) (job : ℕ) (chain : Chain) (h : Holds tables before job chain) where
  by_change : (entry : Entry) → IsNext before entry world → (moment number : ℕ) (change : Job → Job) → ((x : Job) → (change x).number ≡ x.number) → number ≢ job → IsChanged moment number change before.kept world.kept → changes_of entry ≡ [] → Holds tables world job chain
  by_change entry next moment number change keeps other changed none =
      let last : world.kept.last ≡ before.kept.last = changed_last moment number change before.kept world.kept changed in
      quiet tables before world entry job chain h next none (omega arith) (λ it there same. other_changed tables before moment number job change world.kept chain h keeps other changed it there same)

  by_start : (moment number : ℕ) (planned : PlanResult) → IsNext before (Start moment number planned) world → number ≢ job → IsStarted moment number planned before.kept world.kept → Holds tables world job chain
  by_start moment number (plan.Feeds found) next other started =
      by_change (Start moment number (plan.Feeds found)) next moment number (running_job moment (run_after (goes_on_from before.kept.jobs number)) (number_of (goes_on_from before.kept.jobs number)) started.0)
      (λ x. closed_number (record (started_job moment (run_after (goes_on_from before.kept.jobs number)) (number_of (goes_on_from before.kept.jobs number)) x) { status = InProgress; feeds = begun x.request.fail_on_error started.0 })) other started.2 refl
  by_start moment number plan.NoPrevious next other started =
      by_change (Start moment number plan.NoPrevious) next moment number (refused_job moment (run_after (goes_on_from before.kept.jobs number)) (number_of (goes_on_from before.kept.jobs number)) NoPreviousLoad) (λ x. refl) other started refl
  by_start moment number plan.SourceNotFound next other started =
      by_change (Start moment number plan.SourceNotFound) next moment number (refused_job moment (run_after (goes_on_from before.kept.jobs number)) (number_of (goes_on_from before.kept.jobs number)) SourceNotFound) (λ x. refl) other started refl
  by_start moment number plan.ListFault next other started =
      by_change (Start moment number plan.ListFault) next moment number (refused_job moment (run_after (goes_on_from before.kept.jobs number)) (number_of (goes_on_from before.kept.jobs number)) ListFault) (λ x. refl) other started refl
  by_start moment number (plan.TooManyFiles n) next other started =
      by_change (Start moment number (plan.TooManyFiles n)) next moment number (refused_job moment (run_after (goes_on_from before.kept.jobs number)) (number_of (goes_on_from before.kept.jobs number)) TooManyFiles) (λ x. refl) other started refl

  pub other_entry : (entry : Entry) (after : Chain) → SureStep before entry world → IsOther before job chain entry after → Holds tables world job chain
  other_entry (Submit moment number id request) after step is =
      let last : world.kept.last ≡ before.kept.last + 1 = submitted_last moment id request before.kept world.kept step.next.kept in
      quiet tables before world (Submit moment number id request) job chain h step.next refl (omega arith) (λ it there same.
      elim (submitted_from moment id request before.kept world.kept step.next.kept it there) [
        | inl old ↦ same_holds tables chain old.0 it old.2 (h.each old.0 old.1 (sym old.2.number ∙ same))
        | inr fresh ↦ absurd (let known : job ≤ before.kept.last = h.known in omega arith)
      ])
  other_entry (Cancel moment number) after step is = by_change (Cancel moment number) step.next moment number (cancelled_job moment) (λ x. refl) is.0 step.next.kept refl
  other_entry (Start moment number planned) after step is =
      let fits : FitsStart before.kept number planned = step.follows.fits in
      by_start moment number planned step.next (starts_other tables before job number chain h fits.it fits.front fits.number_is (ap is_to_start fits.rests)) step.next.kept
  other_entry (Batch moment number place from rows digest duplicates logs changes) after step is =
      by_change (Batch moment number place from rows digest duplicates logs changes) step.next moment number (fed_job moment (place - 1) rows digest duplicates logs) (λ x. refl) is.0 (taken_changed before world moment number place from rows digest duplicates logs changes step) is.1
  other_entry (End moment number place how) after step is =
      by_change (End moment number place how) step.next moment number (job_after_feed moment (place - 1) how)
      (λ x. closed_number (record x { latest = moment; feeds = feeds_after x.request.fail_on_error (place - 1) how x.feeds })) is.0 step.next.kept refl
