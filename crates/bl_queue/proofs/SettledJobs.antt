-- A list of jobs that has settled.
use Rattle.std.specs.Prelude.{◌≡◌, ◌≤◌, ℕ, true, false, List, length, All, IfSome}
use Rattle.std.proofs.Common.{sym, ap, subst, ◌∙◌}
use Rattle.bl_queue.specs.declared.job.Job.{Job}
use Rattle.bl_queue.specs.Statuses.{is_in_progress}
use Rattle.bl_queue.specs.Limits.{most_kept}
use Rattle.bl_queue.specs.Jobs.{AreJobs, IsUnfailed, front_job, is_unended, waits}
use Rattle.bl_queue.specs.Doomed.{IsFate, IsSettled}
use Rattle.bl_queue.proofs.DoomedJobs.{zip_same}
use Rattle.bl_queue.proofs.FatedJobs.{AreSteady, ended_steady, ended_unfailed}
use Rattle.bl_queue.proofs.CalledJobs.{front_length, front_steady, front_unfailed, front_waits_not}

-- all that the list is, but for the number of jobs that are kept
pub record AreSettled (last : ℕ) (jobs : List Job) : Type 0 where
  pub steady : AreSteady last jobs
  pub unfailed : All (λ job. is_unended job ≡ true → IsUnfailed jobs job) jobs
  pub front : IfSome (front_job jobs) (λ job. waits job ≡ false)

pub are_settled : (moment last : ℕ) (before after : List Job) → AreSteady last before → All (λ job. is_in_progress job.status ≡ true → IsUnfailed before job) before → IsSettled moment before after → AreSettled last after
are_settled moment last before after steady calm settled =
    let ended : List Job = settled.0 in
    let left : AreSteady last ended = ended_steady moment last before steady calm ended settled.1 in
    subst (λ l. AreSettled last l) (sym settled.2) (record {
      steady = front_steady last ended left;
      unfailed = front_unfailed last ended left (ended_unfailed moment last before steady calm ended settled.1);
      front = front_waits_not ended;
    })

pub settled_length : (moment : ℕ) (before after : List Job) → IsSettled moment before after → length after ≡ length before
settled_length moment before after settled = ap length settled.2 ∙ front_length settled.0 ∙ sym (zip_same (IsFate moment before) before settled.0 settled.1)

pub are_jobs : (last : ℕ) (jobs : List Job) → AreSettled last jobs → length jobs ≤ most_kept → AreJobs (record { last = last; jobs = jobs })
are_jobs last jobs are few = record {
  rising = are.steady.rising;
  numbered = are.steady.numbered;
  few = few;
  front = are.front;
  behind = are.steady.behind;
  queued = are.steady.queued;
  earlier = are.steady.earlier;
  unfailed = are.unfailed;
  running = are.steady.running;
  fresh = are.steady.fresh;
  feeds = are.steady.feeds;
  each = are.steady.each;
}
