-- What a start makes of a job.
use Rattle.std.specs.Prelude.{◌≡◌, ◌-◌, ◌<◌, ◌≤◌, ℕ, nat_lt, ◌&&◌, Bool, true, false, cond, List, [], ◌∷◌, length, reverse, find, option_and_then, refl, All, Contains, IfSome, Some, None}
use Rattle.std.specs.declared.option.Option.{Option}
use Rattle.std.proofs.Common.{sym, ap, subst, ◌∙◌, arith, get_or, inl, inr, lit<, lit≤}
use Rattle.std.proofs.lemmas.Bool.{true≢false, and_parts, cond_both, ltb-true}
use Rattle.std.specs.List.{list_any}
use Rattle.std.proofs.lemmas.List.{get_or_default, get_or-reverse, length-reverse}
use Rattle.std.proofs.lemmas.List.Elements.{All-contains, All-head, All-nil, All-tail}
use Rattle.bl_value.specs.declared.log_code.LogCode.{LogCode}
use Rattle.bl_files.specs.declared.feed.Feed.{Feed}
use Rattle.bl_files.specs.declared.found.Found.{Found}
use Rattle.bl_files.specs.declared.mode.Mode.{Mode}
use Rattle.bl_files.specs.declared.mode.Mode.TheVariants.{New, Resume, Auto}
use Rattle.bl_files.specs.Carried.{AreCarried, AreFeeds, IsCarriedFeed}
use Rattle.bl_files.specs.Codes.{has_file_code}
use Rattle.bl_files.specs.Plans.{HaveFileCodes}
use Rattle.bl_queue.specs.declared.job.Job.{Job}
use Rattle.bl_queue.specs.declared.job_status.JobStatus.TheVariants.{NotStarted, InProgress}
use Rattle.bl_files.specs.declared.feed_status.FeedStatus.TheVariants.{CancelledDueToErrors}
use Rattle.bl_files.specs.Statuses.{is_failed}
use Rattle.bl_queue.specs.Statuses.{is_in_progress}
use Rattle.bl_queue.specs.Jobs.{AreJobs, IsFeed, IsNumbered, Kept, front_job, has_open, job_of}
use Rattle.bl_queue.specs.Previous.{may_go_before, previous_job}
use Rattle.bl_queue.specs.Runs.{begun, by_mode, feeds_of, goes_on_from, refused_job, run_after, running_job, started_job, with_open_ended}
use Rattle.bl_queue.proofs.ChangedJobs.{IsChange, found_in, front_in}
use Rattle.bl_queue.proofs.SubmittedJobs.{no_feeds}
use Rattle.bl_queue.proofs.EndedFeeds.{open_goes, still_counts, still_feeds}
use Rattle.bl_queue.proofs.RunChanges.{close_change}

-- ---- the load that it goes on from

find_holds : (p : Job → Bool) (P : Job → Type 0) (xs : List Job) → All P xs → IfSome (find p xs) (λ x. P x × (p x ≡ true))
find_holds p P [] all = tt
find_holds p P (x ∷ xs) all = by (p x) refl (find_holds p P xs (All-tail P x xs all)) where
  by : (b : Bool) → p x ≡ b → IfSome (find p xs) (λ y. P y × (p y ≡ true)) → IfSome (cond b (Some x) (find p xs)) (λ y. P y × (p y ≡ true))
  by true is rest = (All-head P x xs all, is)
  by false is rest = rest

all_reverse : (P : Job → Type 0) (xs : List Job) → All P xs → All P (reverse xs)
all_reverse P xs all k d below =
    let within : k < length xs = omega (arith, length-reverse xs) in
    subst P (sym (get_or-reverse xs k d within)) (all (length xs - 1 - k) d (omega arith))

mode_holds : (mode : Mode) (o : Option Job) (P : Job → Type 0) → IfSome o P → IfSome (by_mode mode o) P
mode_holds New o P h = tt
mode_holds Resume o P h = h
mode_holds Auto o P h = h

pub some_weaker : (o : Option Job) (P Q : Job → Type 0) → ((x : Job) → P x → Q x) → IfSome o P → IfSome o Q
some_weaker None P Q step h = tt
some_weaker (Some x) P Q step h = step x h

-- what a load that is gone on from is
pub record IsOlder (number : ℕ) (older : Job) : Type 0 where
  pub run : older.run < number
  pub feeds : AreFeeds older.feeds
  pub each : All IsFeed older.feeds

module _ (keeps : Kept) (are : AreJobs keeps) where
  abbrev Known : Job → Type 0
  Known job = IsNumbered keeps.last job × AreFeeds job.feeds × All IsFeed job.feeds

  known : All Known keeps.jobs
  known k d below = (are.numbered k d below, are.feeds k d below, are.each k d below)

  pub older : (number : ℕ) → IfSome (goes_on_from keeps.jobs number) (λ it. IsOlder number it)
  older number = by (job_of number keeps.jobs) refl where
    by : (o : Option Job) → job_of number keeps.jobs ≡ o → IfSome (option_and_then (λ job. by_mode job.request.mode (previous_job keeps.jobs job)) o) (λ it. IsOlder number it)
    by None is = tt
    by (Some job) is =
        let same : job.number ≡ number = (found_in number keeps.jobs job is).1 in
        mode_holds job.request.mode (previous_job keeps.jobs job) (λ it. IsOlder number it)
        (some_weaker (previous_job keeps.jobs job) (λ it. Known it × (may_go_before job it ≡ true)) (λ it. IsOlder number it)
        (λ it h. let less : it.number < job.number = ltb-true it.number job.number (and_parts (nat_lt it.number job.number) _ h.1).0 in record { run = omega (arith, h.0.0.run); feeds = h.0.1; each = h.0.2 })
        (find_holds (may_go_before job) Known (reverse keeps.jobs) (all_reverse Known keeps.jobs known)))

pub run_fits : (number : ℕ) (o : Option Job) → IfSome o (λ it. IsOlder number it) → 1 ≤ number → run_after o ≤ number
run_fits number None h least = least
run_fits number (Some it) h least = omega (arith, h.run)

pub feeds_fit : (number : ℕ) (o : Option Job) → IfSome o (λ it. IsOlder number it) → AreFeeds (feeds_of o) × All IsFeed (feeds_of o)
feeds_fit number None h = (no_feeds, All-nil IsFeed)
feeds_fit number (Some it) h = (h.feeds, h.each)

-- ---- the files that go on

carried_counts : (previous : List Feed) (found : List Found) (feed : Feed) → All IsFeed previous → HaveFileCodes found → IsCarriedFeed previous found feed → IsFeed feed
carried_counts previous found feed all codes (inl of) =
    let old : IsFeed of.0 = All-contains IsFeed previous of.0 all of.1 in
    subst IsFeed (sym of.3) (record { kind = old.kind; taken = old.taken; records = old.records; duplicates = old.duplicates; parsing = old.parsing; datatype = old.datatype; insert = old.insert })
carried_counts previous found feed all codes (inr of) =
    subst IsFeed (sym of.3) (record { kind = All-contains (λ (file : Found). has_file_code file.kind ≡ true) found of.0 codes of.1; taken = lit< tt; records = lit≤ tt; duplicates = lit≤ tt; parsing = lit≤ tt; datatype = lit≤ tt; insert = lit≤ tt })

pub all_counts : (previous : List Feed) (found : List Found) (feeds : List Feed) → All IsFeed previous → HaveFileCodes found → AreCarried previous found feeds → All IsFeed feeds
all_counts previous found feeds all codes are k d below =
    let feed : Feed = get_or feeds k d in
    carried_counts previous found feed all codes ((are.each feed).0 (k, below, get_or_default feeds k feed d below))

-- ---- a file that has failed at once

abbrev stops_at_once : Bool → List Feed → Bool
stops_at_once fail_on_error feeds = fail_on_error && list_any (λ (feed : Feed). is_failed feed.status) feeds

begun_feeds : (fail_on_error : Bool) (feeds : List Feed) → AreFeeds feeds → AreFeeds (begun fail_on_error feeds)
begun_feeds fail_on_error feeds are =
    cond_both (stops_at_once fail_on_error feeds) (with_open_ended CancelledDueToErrors feeds) feeds AreFeeds
    (λ stops. still_feeds feeds (with_open_ended CancelledDueToErrors feeds) (open_goes CancelledDueToErrors feeds) are) (λ goes. are)

begun_counts : (fail_on_error : Bool) (feeds : List Feed) → All IsFeed feeds → All IsFeed (begun fail_on_error feeds)
begun_counts fail_on_error feeds all =
    cond_both (stops_at_once fail_on_error feeds) (with_open_ended CancelledDueToErrors feeds) feeds (λ l. All IsFeed l)
    (λ stops. still_counts feeds (with_open_ended CancelledDueToErrors feeds) (open_goes CancelledDueToErrors feeds) all) (λ goes. all)

-- ---- the changes

module _ (moment : ℕ) (keeps : Kept) (are : AreJobs keeps) (old : Job) (front : front_job keeps.jobs ≡ Some old) where
  there : Contains keeps.jobs old
  there = (front_in keeps.jobs old front).0

  pub run_before : (number : ℕ) → old.number ≡ number → run_after (goes_on_from keeps.jobs number) ≤ old.number
  run_before number same =
      let numbered : IsNumbered keeps.last old = All-contains (λ job. IsNumbered keeps.last job) keeps.jobs old are.numbered there in
      omega (arith, same, run_fits number (goes_on_from keeps.jobs number) (older keeps are number) (omega (arith, numbered.least, same)))

  pub run_change : (run previous : ℕ) (feeds : List Feed) → run ≤ old.number → AreFeeds feeds → All IsFeed feeds → IsChange keeps.jobs old (running_job moment run previous feeds old)
  run_change run previous feeds few fit counts =
      close_change moment keeps are old (record (started_job moment run previous old) { status = InProgress; feeds = begun old.request.fail_on_error feeds }) front refl refl refl few refl (begun_feeds old.request.fail_on_error feeds fit) (begun_counts old.request.fail_on_error feeds counts)

  pub refuse_change : (run previous : ℕ) (code : LogCode) → run ≤ old.number → old.status ≡ NotStarted → IsChange keeps.jobs old (refused_job moment run previous code old)
  refuse_change run previous code few rests = record {
    number = refl;
    id = refl;
    request = refl;
    run = few;
    begun = refl;
    running = All-contains (λ job. has_open job ≡ is_in_progress job.status) keeps.jobs old are.running there ∙ ap is_in_progress rests;
    feeds = All-contains (λ job. AreFeeds job.feeds) keeps.jobs old are.feeds there;
    each = All-contains (λ job. All IsFeed job.feeds) keeps.jobs old are.each there;
    first = λ unended. absurd (true≢false (sym unended));
  }
