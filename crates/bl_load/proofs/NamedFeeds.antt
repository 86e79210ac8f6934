-- The names of the files of a world are texts.
use Rattle.std.specs.Prelude.{◌≡◌, ℕ, zero, suc, ◌+◌, ◌-◌, ◌&&◌, Bool, true, false, cond, List, [], ◌∷◌, ◌++◌, refl, None, Some, All, Contains}
use Rattle.std.specs.declared.option.Option.{Option}
use Rattle.std.specs.List.{list_any}
use Rattle.std.specs.Str.{IsUtf8}
use Rattle.std.proofs.Common.{sym, ap, subst, ◌∙◌, inl, inr, get_or}
use Rattle.std.proofs.lemmas.List.{get_or_default}
use Rattle.std.proofs.lemmas.List.Elements.{All-cons, All-contains, All-head, All-map, All-nil, All-tail, Contains-push_cases}
use Rattle.bl_outside.specs.declared.digest.Digest.{Digest}
use Rattle.bl_value.specs.declared.log_code.LogCode.{LogCode}
use Rattle.bl_value.specs.declared.log_code.LogCode.TheVariants.{ListFault, NoPreviousLoad, SourceNotFound, TooManyFiles}
use Rattle.bl_files.proofs.Members.{no_member}
use Rattle.bl_files.specs.Carried.{AreCarried, IsCarriedFeed, feed_names}
use Rattle.bl_files.specs.Statuses.{is_failed, is_open}
use Rattle.bl_files.specs.declared.feed.Feed.{Feed}
use Rattle.bl_files.specs.declared.feed_end.FeedEnd.{FeedEnd}
use Rattle.bl_files.specs.declared.feed_status.FeedStatus.{FeedStatus}
use Rattle.bl_files.specs.declared.feed_status.FeedStatus.TheVariants.{CancelledByUser, CancelledDueToErrors}
use Rattle.bl_files.specs.declared.found.Found.{Found}
use Rattle.bl_files.specs.declared.load_request.LoadRequest.{LoadRequest}
use Rattle.bl_files.specs.declared.log.Log.{Log}
use Rattle.bl_files.specs.declared.plan_result.PlanResult.{PlanResult}
use Rattle.bl_files.specs.declared.plan_result.PlanResult.TheVariants as plan
use Rattle.bl_queue.specs.declared.job.Job.{Job}
use Rattle.bl_queue.specs.declared.job_status.JobStatus.TheVariants.{InProgress}
use Rattle.bl_queue.specs.Changes.{IsChanged, IsSubmitted, IsTrimmed, new_job}
use Rattle.bl_queue.specs.Jobs.{AreJobs, Kept, has_open}
use Rattle.bl_queue.specs.Rows.{fed_feed, fed_job, last_logs}
use Rattle.bl_queue.specs.Runs.{IsRefused, IsStarted, begun, cancelled_job, closed, ended_feed, feeds_after, feeds_of, goes_on_from, job_after_feed, number_of, refused_job, run_after, running_job, started_job, stops, whole_status, with_feed, with_open_ended}
use Rattle.bl_queue.proofs.ChangedJobs.{front_in}
use Rattle.bl_entry.specs.Valid.{IsEntry, IsFound, IsPlan}
use Rattle.bl_entry.specs.declared.entry.Entry.{Entry}
use Rattle.bl_entry.specs.declared.entry.Entry.TheVariants.{Submit, Cancel, Start, Batch, FeedEnd as End}
use Rattle.bl_world.specs.Worlds.{AreNext, Fits, IsFirstOpen, IsKeptAfter, IsWorldOf, World}
use Rattle.bl_world.proofs.SureWorlds.{fed_changed, have_jobs}
use Rattle.bl_chain.proofs.KeptJobs.{ComesChanged, ComesFrom, changed_from, settled_from, trimmed_in}
use Rattle.bl_chain.proofs.StartedLoads.{older_in}

abbrev AreTexts : List Feed → Type 0
AreTexts feeds = All IsUtf8 (feed_names feeds)

-- the files of these jobs have texts as names
abbrev pub AreNamed : List Job → Type 0
AreNamed jobs = (it : Job) → Contains jobs it → AreTexts it.feeds

each_text : (feeds : List Feed) → AreTexts feeds → All (λ (f : Feed). IsUtf8 f.name) feeds
each_text [] all = All-nil (λ (f : Feed). IsUtf8 f.name)
each_text (f ∷ feeds) all = All-cons (λ (x : Feed). IsUtf8 x.name) f feeds (All-head IsUtf8 f.name (feed_names feeds) all) (each_text feeds (All-tail IsUtf8 f.name (feed_names feeds) all))

-- ---- changes that keep the names

abbrev KeepsNames : (Job → Job) → Type 0
KeepsNames change = (job : Job) → feed_names (change job).feeds ≡ feed_names job.feeds

open_names : (status : FeedStatus) (feeds : List Feed) → feed_names (with_open_ended status feeds) ≡ feed_names feeds
open_names status [] = refl
open_names status (feed ∷ feeds) = λ i. by (is_open feed.status) i ∷ open_names status feeds i where
  by : (b : Bool) → (cond b (record feed { status = status }) feed).name ≡ feed.name
  by true = refl
  by false = refl

one_names : (place : ℕ) (change : Feed → Feed) → ((feed : Feed) → (change feed).name ≡ feed.name) → (feeds : List Feed) → feed_names (with_feed place change feeds) ≡ feed_names feeds
one_names zero change same [] = refl
one_names (suc place) change same [] = refl
one_names zero change same (feed ∷ feeds) = ap (λ name. name ∷ feed_names feeds) (same feed)
one_names (suc place) change same (feed ∷ feeds) = ap (λ names. feed.name ∷ names) (one_names place change same feeds)

last_names : (feeds : List Feed) → feed_names (last_logs feeds) ≡ feed_names feeds
last_names [] = refl
last_names (feed ∷ feeds) = ap (λ names. feed.name ∷ names) (last_names feeds)

closed_names : (job : Job) → feed_names (closed job).feeds ≡ feed_names job.feeds
closed_names job = by (has_open job) where
  by : (b : Bool) → feed_names (cond b job (record job { status = whole_status job.feeds })).feeds ≡ feed_names job.feeds
  by true = refl
  by false = refl

cancelled_names : (moment : ℕ) → KeepsNames (cancelled_job moment)
cancelled_names moment job = open_names CancelledByUser job.feeds

fed_names : (moment place rows : ℕ) (digest : Digest) (duplicates : ℕ) (logs : List Log) → KeepsNames (fed_job moment place rows digest duplicates logs)
fed_names moment place rows digest duplicates logs job =
    last_names (with_feed place (fed_feed rows digest duplicates logs) job.feeds) ∙ one_names place (fed_feed rows digest duplicates logs) (λ feed. refl) job.feeds

ended_names : (moment place : ℕ) (how : FeedEnd) → KeepsNames (job_after_feed moment place how)
ended_names moment place how job = closed_names (record job { latest = moment; feeds = feeds_after job.request.fail_on_error place how job.feeds }) ∙ by (stops job.request.fail_on_error how) where
  one : feed_names (with_feed place (ended_feed how) job.feeds) ≡ feed_names job.feeds
  one = one_names place (ended_feed how) (λ feed. refl) job.feeds

  by : (b : Bool) → feed_names (cond b (with_open_ended CancelledDueToErrors (with_feed place (ended_feed how) job.feeds)) (with_feed place (ended_feed how) job.feeds)) ≡ feed_names job.feeds
  by true = open_names CancelledDueToErrors (with_feed place (ended_feed how) job.feeds) ∙ one
  by false = one

begun_names : (fail : Bool) (feeds : List Feed) → feed_names (begun fail feeds) ≡ feed_names feeds
begun_names fail feeds = by (fail && list_any (λ (feed : Feed). is_failed feed.status) feeds) where
  by : (b : Bool) → feed_names (cond b (with_open_ended CancelledDueToErrors feeds) feeds) ≡ feed_names feeds
  by true = open_names CancelledDueToErrors feeds
  by false = refl

running_names : (moment run previous : ℕ) (feeds : List Feed) (job : Job) → feed_names (running_job moment run previous feeds job).feeds ≡ feed_names feeds
running_names moment run previous feeds job = closed_names (record (started_job moment run previous job) { status = InProgress; feeds = begun job.request.fail_on_error feeds }) ∙ begun_names job.request.fail_on_error feeds

-- ---- one job is changed

named_after : (moment number : ℕ) (change : Job → Job) (old new : Kept) → IsChanged moment number change old new → ((job : Job) → Contains old.jobs job → AreTexts (change job).feeds) → AreNamed old.jobs → AreNamed new.jobs
named_after moment number change old new changed named all it h = by (changed_from moment number change old new changed it h) where
  by : ComesChanged number change old.jobs it → AreTexts it.feeds
  by comes = elim comes.2 [
    | inl is ↦ subst AreTexts (sym is.1.feeds) (named comes.0 comes.1)
    | inr is ↦ subst AreTexts (sym is.1.feeds) (all comes.0 comes.1)
  ]

named_still : (moment number : ℕ) (change : Job → Job) (old new : Kept) → KeepsNames change → IsChanged moment number change old new → AreNamed old.jobs → AreNamed new.jobs
named_still moment number change old new keeps changed all = named_after moment number change old new changed (λ job h. subst (λ names. All IsUtf8 names) (sym (keeps job)) (all job h)) all

-- ---- a job is added

named_more : (moment id : ℕ) (request : LoadRequest) (old new : Kept) → IsSubmitted moment id request old new → AreNamed old.jobs → AreNamed new.jobs
named_more moment id request old new submitted all it h =
    let before : List Job = old.jobs ++ new_job moment (old.last + 1) id request ∷ [] in
    let cut : IsTrimmed moment before submitted.0 = submitted.1 in
    let left : Contains submitted.0 it = subst (λ (k : Kept). Contains k.jobs it) submitted.2 h in
    let one : ComesFrom before it = settled_from moment before cut.0 cut.1 it (trimmed_in cut.0 it (subst (λ l. Contains l it) cut.2 left)) in
    elim (Contains-push_cases old.jobs (new_job moment (old.last + 1) id request) one.0 one.1) [
      | inl there ↦ subst AreTexts (sym one.2.feeds) (all one.0 there)
      | inr fresh ↦ subst AreTexts (sym (one.2.feeds ∙ ap (λ (x : Job). x.feeds) (sym fresh))) (All-nil IsUtf8)
    ]

-- ---- a job is started

previous_named : (jobs : List Job) (number : ℕ) → AreNamed jobs → AreTexts (feeds_of (goes_on_from jobs number))
previous_named jobs number all = by (goes_on_from jobs number) refl where
  by : (o : Option Job) → goes_on_from jobs number ≡ o → AreTexts (feeds_of o)
  by None is = All-nil IsUtf8
  by (Some older) is = all older (older_in jobs number older is)

carried_text : (previous : List Feed) (found : List Found) (feed : Feed) → AreTexts previous → All IsFound found → IsCarriedFeed previous found feed → IsUtf8 feed.name
carried_text previous found feed all valid (inl of) = subst (λ (f : Feed). IsUtf8 f.name) (sym of.3) (All-contains (λ (f : Feed). IsUtf8 f.name) previous of.0 (each_text previous all) of.1)
carried_text previous found feed all valid (inr of) = subst (λ (f : Feed). IsUtf8 f.name) (sym of.3) (All-contains IsFound found of.0 valid of.1).0.utf8

carried_named : (previous : List Feed) (found : List Found) (feeds : List Feed) → AreTexts previous → All IsFound found → AreCarried previous found feeds → AreTexts feeds
carried_named previous found feeds all valid carried =
    All-map IsUtf8 (λ (f : Feed). f.name) feeds (λ k d below.
    let feed : Feed = get_or feeds k d in
    carried_text previous found feed all valid ((carried.each feed).0 (k, below, get_or_default feeds k feed d below)))

refused : (moment number : ℕ) (code : LogCode) (old new : Kept) → IsRefused moment number code old new → AreNamed old.jobs → AreNamed new.jobs
refused moment number code old new changed all =
    named_still moment number (refused_job moment (run_after (goes_on_from old.jobs number)) (number_of (goes_on_from old.jobs number)) code) old new (λ job. refl) changed all

named_started : (moment number : ℕ) (planned : PlanResult) (old new : Kept) → IsPlan planned → IsStarted moment number planned old new → AreNamed old.jobs → AreNamed new.jobs
named_started moment number (plan.Feeds found) old new valid started all =
    let run : ℕ = run_after (goes_on_from old.jobs number) in
    let previous : ℕ = number_of (goes_on_from old.jobs number) in
    let named : AreTexts started.0 = carried_named (feeds_of (goes_on_from old.jobs number)) found started.0 (previous_named old.jobs number all) valid.1 started.1 in
    named_after moment number (running_job moment run previous started.0) old new started.2 (λ job h. subst (λ names. All IsUtf8 names) (sym (running_names moment run previous started.0 job)) named) all
named_started moment number plan.NoPrevious old new valid started all = refused moment number NoPreviousLoad old new started all
named_started moment number plan.SourceNotFound old new valid started all = refused moment number SourceNotFound old new started all
named_started moment number plan.ListFault old new valid started all = refused moment number ListFault old new started all
named_started moment number (plan.TooManyFiles n) old new valid started all = refused moment number TooManyFiles old new started all

-- ---- a world

named_step : (before : World) (entry : Entry) (new : Kept) → AreJobs before.kept → IsEntry entry → Fits before entry → IsKeptAfter entry before.kept new → AreNamed before.kept.jobs → AreNamed new.jobs
named_step before (Submit moment number id request) new are valid fits after all = named_more moment id request before.kept new after all
named_step before (Cancel moment number) new are valid fits after all = named_still moment number (cancelled_job moment) before.kept new (cancelled_names moment) after all
named_step before (Start moment number planned) new are valid fits after all = named_started moment number planned before.kept new valid.1.1 after all
named_step before (Batch moment number place from rows digest duplicates logs changes) new are valid fits after all =
    named_still moment number (fed_job moment (place - 1) rows digest duplicates logs) before.kept new (fed_names moment (place - 1) rows digest duplicates logs)
    (fed_changed before moment number place from rows digest duplicates logs changes new are fits after) all
named_step before (End moment number place how) new are valid fits after all = named_still moment number (job_after_feed moment (place - 1) how) before.kept new (ended_names moment (place - 1) how) after all

pub worlds_named : (entries : List Entry) (world : World) → All IsEntry entries → IsWorldOf entries world → AreNamed world.kept.jobs
worlds_named [] world valid is = λ it h. no_member it (subst (λ (w : World). Contains w.kept.jobs it) is h)
worlds_named (entry ∷ older) world valid is =
    named_step is.0 entry world.kept (have_jobs older is.0 is.1) (All-head IsEntry entry older valid) is.2.follows.fits is.2.next.kept
    (worlds_named older is.0 (All-tail IsEntry entry older valid) is.1)

first_text : (feeds : List Feed) (place : ℕ) (of : Feed) → AreTexts feeds → IsFirstOpen feeds place of → IsUtf8 of.name
first_text [] place of all first = absurd first
first_text (f ∷ feeds) zero of all first = subst (λ (x : Feed). IsUtf8 x.name) first.1 (All-head IsUtf8 f.name (feed_names feeds) all)
first_text (f ∷ feeds) (suc place) of all first = first_text feeds place of (All-tail IsUtf8 f.name (feed_names feeds) all) first.1

-- the name of the file that goes on is a text
pub next_named : (entries : List Entry) (world : World) → All IsEntry entries → IsWorldOf entries world → (number place : ℕ) (it : Job) (of : Feed) → AreNext world.kept.jobs number place it of → IsUtf8 of.name
next_named entries world valid is number place it of next = first_text it.feeds (place - 1) of (worlds_named entries world valid is it (front_in world.kept.jobs it next.0).0) next.3
