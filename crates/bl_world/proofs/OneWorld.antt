-- A list of entries leads to one world.
use Rattle.std.specs.Prelude.{◌≡◌, ℕ, ◌+◌, ◌-◌, List, [], ◌∷◌, ◌++◌}
use Rattle.std.proofs.Common.{sym, ap, subst, ◌∙◌}
use Rattle.bl_value.specs.declared.log_code.LogCode.TheVariants.{ListFault, NoPreviousLoad, SourceNotFound, TooManyFiles}
use Rattle.bl_files.specs.declared.feed.Feed.{Feed}
use Rattle.bl_files.specs.declared.found.Found.{Found}
use Rattle.bl_files.specs.declared.load_request.LoadRequest.{LoadRequest}
use Rattle.bl_files.specs.declared.plan_result.PlanResult.{PlanResult}
use Rattle.bl_files.specs.declared.plan_result.PlanResult.TheVariants as plan
use Rattle.bl_files.specs.Carried.{AreCarried}
use Rattle.bl_files.proofs.FeedOrder.{same_members}
use Rattle.bl_queue.specs.declared.job.Job.{Job}
use Rattle.bl_queue.specs.Jobs.{Kept}
use Rattle.bl_queue.specs.Changes.{IsChanged, IsSubmitted, IsTrimmed, new_job, trimmed, with_job}
use Rattle.bl_queue.specs.Runs.{IsStarted, cancelled_job, feeds_of, goes_on_from, job_after_feed, number_of, refused_job, run_after, running_job}
use Rattle.bl_queue.proofs.SettledLaws.{one_settled}
use Rattle.bl_entry.specs.declared.entry.Entry.{Entry}
use Rattle.bl_entry.specs.declared.entry.Entry.TheVariants.{Submit, Cancel, Start, Batch, FeedEnd as End}
use Rattle.bl_world.specs.Worlds.{IsKeptAfter, IsNext, OneWorld, World}

one_changed : (moment number : ℕ) (change : Job → Job) (old a b : Kept) → IsChanged moment number change old a → IsChanged moment number change old b → a ≡ b
one_changed moment number change old a b one two =
    one.2 ∙ ap (λ l. record old { jobs = l }) (one_settled moment (with_job number change old.jobs) one.0 two.0 one.1 two.1) ∙ sym two.2

one_submitted : (moment id : ℕ) (request : LoadRequest) (old a b : Kept) → IsSubmitted moment id request old a → IsSubmitted moment id request old b → a ≡ b
one_submitted moment id request old a b one two =
    let all : List Job = old.jobs ++ new_job moment (old.last + 1) id request ∷ [] in
    let x : IsTrimmed moment all one.0 = one.1 in
    let y : IsTrimmed moment all two.0 = two.1 in
    one.2 ∙ ap (λ l. record { last = old.last + 1; jobs = l }) (x.2 ∙ ap trimmed (one_settled moment all x.0 y.0 x.1 y.1) ∙ sym y.2) ∙ sym two.2

pub one_carried : (previous : List Feed) (found : List Found) (a b : List Feed) → AreCarried previous found a → AreCarried previous found b → a ≡ b
one_carried previous found a b is other = same_members a b is.ordered other.ordered (λ feed h. (other.each feed).1 ((is.each feed).0 h)) (λ feed h. (is.each feed).1 ((other.each feed).0 h))

one_started : (moment number : ℕ) (planned : PlanResult) (old a b : Kept) → IsStarted moment number planned old a → IsStarted moment number planned old b → a ≡ b
one_started moment number (plan.Feeds found) old a b one two =
    let run : ℕ = run_after (goes_on_from old.jobs number) in
    let previous : ℕ = number_of (goes_on_from old.jobs number) in
    let same : one.0 ≡ two.0 = one_carried (feeds_of (goes_on_from old.jobs number)) found one.0 two.0 one.1 two.1 in
    one_changed moment number (running_job moment run previous two.0) old a b (subst (λ l. IsChanged moment number (running_job moment run previous l) old a) same one.2) two.2
one_started moment number plan.NoPrevious old a b one two = one_changed moment number (refused_job moment (run_after (goes_on_from old.jobs number)) (number_of (goes_on_from old.jobs number)) NoPreviousLoad) old a b one two
one_started moment number plan.SourceNotFound old a b one two = one_changed moment number (refused_job moment (run_after (goes_on_from old.jobs number)) (number_of (goes_on_from old.jobs number)) SourceNotFound) old a b one two
one_started moment number plan.ListFault old a b one two = one_changed moment number (refused_job moment (run_after (goes_on_from old.jobs number)) (number_of (goes_on_from old.jobs number)) ListFault) old a b one two
one_started moment number (plan.TooManyFiles n) old a b one two = one_changed moment number (refused_job moment (run_after (goes_on_from old.jobs number)) (number_of (goes_on_from old.jobs number)) TooManyFiles) old a b one two

one_kept : (entry : Entry) (old a b : Kept) → IsKeptAfter entry old a → IsKeptAfter entry old b → a ≡ b
one_kept (Submit moment number id request) old a b one two = one_submitted moment id request old a b one two
one_kept (Cancel moment number) old a b one two = one_changed moment number (cancelled_job moment) old a b one two
one_kept (Start moment number planned) old a b one two = one_started moment number planned old a b one two
one_kept (Batch moment number place from rows digest duplicates logs changes) old a b one two = one ∙ sym two
one_kept (End moment number place how) old a b one two = one_changed moment number (job_after_feed moment (place - 1) how) old a b one two

one_next : (before : World) (entry : Entry) (a b : World) → IsNext before entry a → IsNext before entry b → a ≡ b
one_next before entry a b one two = λ i. record {
  entries = (one.entries ∙ sym two.entries) i;
  moment = (one.moment ∙ sym two.moment) i;
  kept = one_kept entry before.kept a.kept b.kept one.kept two.kept i;
  graph = (one.graph ∙ sym two.graph) i;
  commits = (one.commits ∙ sym two.commits) i;
}

pub one_world : OneWorld
one_world [] a b one two = one ∙ sym two
one_world (entry ∷ older) a b one two =
    let same : one.0 ≡ two.0 = one_world older one.0 two.0 one.1 two.1 in
    one_next two.0 entry a b (subst (λ w. IsNext w entry a) same one.2.next) two.2.next
