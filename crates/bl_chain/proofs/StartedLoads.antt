-- A load starts.
use Rattle.std.specs.Prelude.{◌≡◌, ℕ, ◌-◌, ◌<◌, ◌≤◌, Bool, true, false, ◌&&◌, cond, List, [], ◌∷◌, length, take, reverse, find, refl, All, Contains, Some, None, option_and_then}
use Rattle.std.specs.declared.option.Option.{Option}
use Rattle.std.specs.List.{AllZip, list_any, flat_map}
use Rattle.std.proofs.Common.{sym, ap, subst, ◌∙◌, arith}
use Rattle.std.proofs.lemmas.Bool.{true≢false, cond_both}
use Rattle.std.proofs.lemmas.List.{drop_all, get_or-reverse, length-reverse}
use Rattle.std.proofs.lemmas.List.Elements.{All-contains, All-contains_itself, All-head, All-tail}
use Rattle.bl_files.specs.declared.feed.Feed.{Feed}
use Rattle.bl_files.specs.declared.feed_status.FeedStatus.TheVariants as feed
use Rattle.bl_files.specs.declared.found.Found.{Found}
use Rattle.bl_files.specs.declared.load_request.LoadRequest.{LoadRequest}
use Rattle.bl_files.specs.declared.mode.Mode.{Mode}
use Rattle.bl_files.specs.declared.mode.Mode.TheVariants.{New, Resume, Auto}
use Rattle.bl_files.specs.declared.plan_result.PlanResult.TheVariants as plan
use Rattle.bl_files.specs.Carried.{AreCarried, AreFeeds, EndsRefused, is_kept, kept, new_feed}
use Rattle.bl_files.proofs.Members.{first_member, later_member}
use Rattle.bl_queue.specs.declared.job.Job.{Job}
use Rattle.bl_queue.specs.declared.job_status.JobStatus.TheVariants.{InProgress}
use Rattle.bl_queue.specs.Jobs.{IsNumbered, front_job, job_of}
use Rattle.bl_queue.specs.Previous.{may_go_before, previous_job}
use Rattle.bl_queue.specs.Runs.{IsRunning, begun, by_mode, feeds_of, goes_on_from, number_of, run_after, running_job, started_job, with_open_ended}
use Rattle.bl_queue.proofs.ChangedJobs.{front_in, some_is}
use Rattle.bl_entry.specs.declared.entry.Entry.{Entry}
use Rattle.bl_entry.specs.declared.entry.Entry.TheVariants.{Start}
use Rattle.bl_files.specs.Statuses.{is_failed, is_open}
use Rattle.bl_world.specs.Worlds.{FitsStart, World}
use Rattle.bl_world.specs.declared.job_commit.JobCommit.{JobCommit}
use Rattle.bl_chain.specs.Chains.{Begins, Chain, Continues, HaveSameOptions, changes_behind, loaded_by}
use Rattle.bl_chain.specs.Loads.{Line, Loaded, begun_with, lines, with_line, with_lines, with_verdict}
use Rattle.bl_chain.specs.Tables.{AreTables, Table, any_unread, is_unread}
use Rattle.bl_chain.specs.Turns.{IsPlanOf}
use Rattle.bl_chain.proofs.CarriedFiles.{all_carried, carry_all, carry_bare, carry_fed, carry_run, carry_takens, first_carried, plain, plain_counted, plain_fed, plain_run, plain_shared}
use Rattle.bl_chain.proofs.EndedFiles.{carry_front, carry_none, done_either, front_done, none_either, plain_front, plain_none}
use Rattle.bl_chain.proofs.FedFiles.{bare_open, closed_all, fed_open, none_open, re_fed, takens_open, whole_rests, whole_started}
use Rattle.bl_chain.proofs.FedLoads.{AreFed, AreRun, Front, IsFed, NoneDone}
use Rattle.bl_chain.proofs.Holdings.{Holds, JobHolds, SureStep, no_commit}
use Rattle.bl_chain.proofs.KeptJobs.{changed_last}
use Rattle.bl_chain.proofs.OwnEntries.{own_changed}
use Rattle.bl_chain.proofs.QuietRows.{HaveFailed, new_failed, none_failed, same_stop, unread_unkept}
use Rattle.bl_graph.specs.Admission.{admit}

-- ---- the load of which it goes on is kept

find_in : (p : Job → Bool) (P : Job → Type 0) (xs : List Job) (x : Job) → find p xs ≡ Some x → ((y : Job) → Contains xs y → P y) → P x
find_in p P [] x h all = absurd (cc)
find_in p P (y ∷ xs) x h all = by (p y) h (λ h. find_in p P xs x h (λ z there. all z (later_member y xs z there))) where
  by : (b : Bool) → cond b (Some y) (find p xs) ≡ Some x → (find p xs ≡ Some x → P x) → P x
  by true h rest = subst P (some_is y x h) (all y (first_member y xs))
  by false h rest = rest h

reversed_in : (xs : List Job) (x : Job) → Contains (reverse xs) x → Contains xs x
reversed_in xs x h = All-contains (Contains xs) (reverse xs) x each h where
  each : All (Contains xs) (reverse xs)
  each k d below =
      let within : k < length xs = omega (arith, length-reverse xs) in
      subst (Contains xs) (sym (get_or-reverse xs k d within)) (All-contains_itself xs (length xs - 1 - k) d (omega arith))

pub older_in : (jobs : List Job) (number : ℕ) (older : Job) → goes_on_from jobs number ≡ Some older → Contains jobs older
older_in jobs number older h = by (job_of number jobs) h where
  mode_in : (mode : Mode) (previous : Option Job) → by_mode mode previous ≡ Some older → previous ≡ Some older
  mode_in New previous h = absurd (cc)
  mode_in Resume previous h = h
  mode_in Auto previous h = h

  by : (o : Option Job) → option_and_then (λ job. by_mode job.request.mode (previous_job jobs job)) o ≡ Some older → Contains jobs older
  by None h = absurd (cc)
  by (Some job) h = find_in (may_go_before job) (Contains jobs) (reverse jobs) older (mode_in job.request.mode (previous_job jobs job) h) (λ y there. reversed_in jobs y there)

-- ---- what starts

begun_fed : (tables : List Table) (loaded : Loaded) (k : ℕ) (feeds : List Feed) (b : Bool) → AreFed tables loaded k feeds → AreFed tables loaded k (cond b (with_open_ended feed.CancelledDueToErrors feeds) feeds)
begun_fed tables loaded k feeds b fed =
    cond_both b (with_open_ended feed.CancelledDueToErrors feeds) feeds (λ l. AreFed tables loaded k l)
    (λ h. re_fed tables loaded k feeds (with_open_ended feed.CancelledDueToErrors feeds) fed (bare_open feed.CancelledDueToErrors refl refl feeds) (takens_open feed.CancelledDueToErrors refl refl feeds) (fed_open feed.CancelledDueToErrors refl refl tables feeds fed.each))
    (λ h. fed)

begun_run : (tables : List Table) (feeds : List Feed) (b : Bool) → AreRun tables feeds → list_any (λ (f : Feed). is_open f.status) (cond b (with_open_ended feed.CancelledDueToErrors feeds) feeds) ≡ true → AreRun tables (cond b (with_open_ended feed.CancelledDueToErrors feeds) feeds)
begun_run tables feeds true run left = absurd (true≢false (sym left ∙ none_open feed.CancelledDueToErrors refl refl feeds))
begun_run tables feeds false run left = run

begun_front : (tables : List Table) (feeds : List Feed) (b : Bool) → Front tables feeds → list_any (λ (f : Feed). is_open f.status) (cond b (with_open_ended feed.CancelledDueToErrors feeds) feeds) ≡ true → Front tables (cond b (with_open_ended feed.CancelledDueToErrors feeds) feeds)
begun_front tables feeds true front left = absurd (true≢false (sym left ∙ none_open feed.CancelledDueToErrors refl refl feeds))
begun_front tables feeds false front left = front

pub begun_calm : (fail : Bool) (feeds : List Feed) → fail ≡ true
    → list_any (λ (f : Feed). is_open f.status) (cond (fail && list_any (λ (f : Feed). is_failed f.status) feeds) (with_open_ended feed.CancelledDueToErrors feeds) feeds) ≡ true → list_any (λ (f : Feed). is_failed f.status) feeds ≡ false
begun_calm fail feeds fails left =
    by (list_any (λ (f : Feed). is_failed f.status) feeds) refl (ap (λ b. list_any (λ (f : Feed). is_open f.status) (cond (b && list_any (λ (f : Feed). is_failed f.status) feeds) (with_open_ended feed.CancelledDueToErrors feeds) feeds)) (sym fails) ∙ left) where
      by : (any : Bool) → list_any (λ (f : Feed). is_failed f.status) feeds ≡ any → list_any (λ (f : Feed). is_open f.status) (cond (list_any (λ (f : Feed). is_failed f.status) feeds) (with_open_ended feed.CancelledDueToErrors feeds) feeds) ≡ true → list_any (λ (f : Feed). is_failed f.status) feeds ≡ false
      by true is h = absurd (true≢false (sym (ap (λ b. list_any (λ (f : Feed). is_open f.status) (cond b (with_open_ended feed.CancelledDueToErrors feeds) feeds)) (sym is) ∙ h) ∙ none_open feed.CancelledDueToErrors refl refl feeds))
      by false is h = is

pub plain_failed : (tables : List Table) → HaveFailed tables (plain tables)
plain_failed [] = tt
plain_failed (s ∷ tables) = ((λ unread. new_failed s.found.kind unread), plain_failed tables)

pub carry_failed : (tables : List Table) (feeds : List Feed) → AllZip IsFed tables feeds → All (λ (f : Feed). EndsRefused f.kind f) feeds → HaveFailed tables (carry_all tables feeds)
carry_failed [] [] zip refused = tt
carry_failed [] (f ∷ feeds) zip refused = absurd zip
carry_failed (s ∷ tables) [] zip refused = absurd zip
carry_failed (s ∷ tables) (f ∷ feeds) zip refused = (
  (λ unread. cond_both (is_kept f) (kept f) (new_feed s.found) (λ x. is_failed x.status ≡ true)
      (λ h. absurd (true≢false (sym h ∙ unread_unkept f.kind f (ap is_unread zip.0.kind ∙ unread) (All-head (λ (x : Feed). EndsRefused x.kind x) f feeds refused))))
      (λ h. new_failed s.found.kind unread)),
  carry_failed tables feeds zip.1 (All-tail (λ (x : Feed). EndsRefused x.kind x) f feeds refused),
)

-- what the files of a load are at its start
pub record Ready (tables : List Table) (chain : Chain) (feeds : List Feed) : Type 0 where
  pub fed : AreFed tables (loaded_by tables chain) chain.rows feeds
  pub run : AreRun tables feeds
  pub failed : HaveFailed tables feeds
  pub front : Front tables feeds
  pub shut : chain.request.fail_on_error ≡ true → any_unread tables ≡ true → NoneDone tables feeds

run_some : (previous : Option Job) → 1 ≤ run_after previous
run_some None = omega arith
run_some (Some older) = omega arith

running_holds : (tables : List Table) (chain : Chain) (moment run previous : ℕ) (feeds : List Feed) (it : Job) → 1 ≤ run → it.request ≡ chain.request → Ready tables chain feeds
    → JobHolds tables chain (running_job moment run previous feeds it)
running_holds tables chain moment run previous feeds it some request ready =
    let stop : Bool = it.request.fail_on_error && list_any (λ (f : Feed). is_failed f.status) feeds in
    let new : Job = record (started_job moment run previous it) { status = InProgress; feeds = begun it.request.fail_on_error feeds } in
    let now : AreFed tables (loaded_by tables chain) chain.rows new.feeds = begun_fed tables (loaded_by tables chain) chain.rows feeds stop ready.fed in
    closed_all (λ x. JobHolds tables chain x) new
    (λ left. record { request = request; fed = now; run = λ r. begun_run tables feeds stop ready.run left; started = refl; ran = some; calm = λ r fails. none_failed tables feeds ready.failed (begun_calm it.request.fail_on_error feeds (ap (λ (q : LoadRequest). q.fail_on_error) request ∙ fails) left); front = λ r. begun_front tables feeds stop ready.front left; done = done_either stop tables feeds (front_done tables feeds ready.front); shut = λ fails unread. none_either stop tables feeds (ready.shut fails unread) })
    (λ none. record { request = request; fed = now; run = λ r. absurd (true≢false (sym r ∙ whole_rests new.feeds)); started = whole_started new.feeds; ran = some; calm = λ r. absurd (true≢false (sym r ∙ whole_rests new.feeds)); front = λ r. absurd (true≢false (sym r ∙ whole_rests new.feeds)); done = done_either stop tables feeds (front_done tables feeds ready.front); shut = λ fails unread. none_either stop tables feeds (ready.shut fails unread) })

pub running_number : (moment run previous : ℕ) (feeds : List Feed) (it : Job) → (running_job moment run previous feeds it).number ≡ it.number
running_number moment run previous feeds it = closed_all (λ x. x.number ≡ it.number) (record (started_job moment run previous it) { status = InProgress; feeds = begun it.request.fail_on_error feeds }) (λ h. refl) (λ h. refl)

-- ---- the options alone count

same_lines : (a b : LoadRequest) → a.update_single ≡ b.update_single → (loaded : Loaded) (all : List Line) → with_lines a loaded all ≡ with_lines b loaded all
same_lines a b same loaded [] = refl
same_lines a b same loaded (line ∷ all) =
    let one : with_line a loaded line ≡ with_line b loaded line = λ i. with_verdict loaded line (admit loaded.graph (same i) line.row.row) in
    ap (λ l. with_lines a l all) one ∙ same_lines a b same (with_line b loaded line) all

none_behind : (commits : List JobCommit) → changes_behind (length commits) commits ≡ []
none_behind commits = ap (λ l. flat_map (λ (c : JobCommit). c.changes) l) (drop_all (length commits) commits (omega arith))

-- ---- the start

module _ (tables : List Table) (sound : AreTables tables) (before world : World) (job moment : ℕ) (found : List Found) (step : SureStep before (Start moment job (plan.Feeds found)) world) (it : Job) (front : front_job before.kept.jobs ≡ Some it) where
  pub front_number : it.number ≡ job
  front_number =
      let fits : FitsStart before.kept job (plan.Feeds found) = step.follows.fits in
      ap (λ (x : Job). x.number) (some_is it fits.it (sym front ∙ fits.front)) ∙ fits.number_is

  pub front_there : Contains before.kept.jobs it
  front_there = (front_in before.kept.jobs it front).0

  pub known : job ≤ world.kept.last
  known =
      let started : IsRunning moment job found before.kept world.kept = step.next.kept in
      let last : world.kept.last ≡ before.kept.last = changed_last moment job (running_job moment (run_after (goes_on_from before.kept.jobs job)) (number_of (goes_on_from before.kept.jobs job)) started.0) before.kept world.kept started.2 in
      let most : it.number ≤ before.kept.last = (All-contains (λ (x : Job). IsNumbered before.kept.last x) before.kept.jobs it step.are.numbered front_there).most in
      let same : it.number ≡ job = front_number in
      omega arith

  each : (earlier chain : Chain) → ((feeds : List Feed) → AreCarried (feeds_of (goes_on_from before.kept.jobs job)) found feeds → JobHolds tables chain (running_job moment (run_after (goes_on_from before.kept.jobs job)) (number_of (goes_on_from before.kept.jobs job)) feeds it))
      → (new : Job) → Contains world.kept.jobs new → new.number ≡ job → JobHolds tables chain new
  each earlier chain held new kept same =
      let started : IsRunning moment job found before.kept world.kept = step.next.kept in
      own_changed tables before moment job job (running_job moment (run_after (goes_on_from before.kept.jobs job)) (number_of (goes_on_from before.kept.jobs job)) started.0) world.kept earlier chain it step.are front_there front_number refl
      (held started.0 started.1) started.2 new kept same (running_number moment (run_after (goes_on_from before.kept.jobs job)) (number_of (goes_on_from before.kept.jobs job)) started.0 it)

  -- the run and the previous load of the job
  abbrev pub ran : ℕ
  ran = run_after (goes_on_from before.kept.jobs job)

  abbrev pub gone_on : ℕ
  gone_on = number_of (goes_on_from before.kept.jobs job)

  abbrev pub first_chain : Chain
  first_chain = record { request = it.request; graph = before.graph; commits = length before.commits; rows = 0 }

  pub first_ready : goes_on_from before.kept.jobs job ≡ None → IsPlanOf tables [] found → (feeds : List Feed) → AreCarried (feeds_of (goes_on_from before.kept.jobs job)) found feeds → Ready tables first_chain feeds
  first_ready none planned feeds carried =
      let plain_ones : feeds ≡ plain tables = first_carried tables sound found feeds planned (subst (λ o. AreCarried (feeds_of o) found feeds) none carried) in
      subst (λ l. Ready tables first_chain l) (sym plain_ones) (record {
        fed = record { within = omega arith; counted = plain_counted tables; shared = plain_shared tables; each = plain_fed tables };
        run = plain_run tables tables sound (λ s h. h);
        failed = plain_failed tables;
        front = plain_front tables sound.ordered;
        shut = λ fails unread. plain_none tables;
      })

  start_first : (chain : Chain) → goes_on_from before.kept.jobs job ≡ None → IsPlanOf tables [] found → chain ≡ first_chain → Holds tables world job chain
  start_first chain none planned is =
      let same = no_commit before world (Start moment job (plan.Feeds found)) step.next refl in
      subst (λ s. Holds tables world job s) (sym is) (record {
        graph = same.0;
        changes = ap (λ l. changes_behind (length before.commits) l) same.1 ∙ none_behind before.commits;
        behind = subst (λ l. length before.commits ≤ length l) (sym same.1) (omega arith);
        known = known;
        defined = record { none = λ fails. refl; zero = λ fails unread. refl };
        each = each first_chain first_chain (λ feeds carried. running_holds tables first_chain moment ran gone_on feeds it (run_some (goes_on_from before.kept.jobs job)) refl (first_ready none planned feeds carried));
      })

  pub next_ready : (previous : ℕ) (earlier : Chain) (older : Job) → Holds tables before previous earlier → goes_on_from before.kept.jobs job ≡ Some older → older.number ≡ previous → HaveSameOptions earlier.request it.request → IsPlanOf tables older.feeds found
      → (feeds : List Feed) → AreCarried (feeds_of (goes_on_from before.kept.jobs job)) found feeds → Ready tables (record earlier { request = it.request }) feeds
  next_ready previous earlier older h from number_is options planned feeds carried =
      let next : Chain = record earlier { request = it.request } in
      let old_there : Contains before.kept.jobs older = older_in before.kept.jobs job older from in
      let held : JobHolds tables earlier older = h.each older old_there number_is in
      let loads : loaded_by tables earlier ≡ loaded_by tables next = same_lines earlier.request it.request options.1 (begun_with earlier.graph tables) (take earlier.rows (lines tables)) in
      let apart : AreFeeds older.feeds = All-contains (λ (x : Job). AreFeeds x.feeds) before.kept.jobs older step.are.feeds old_there in
      let carried_fed : AreFed tables (loaded_by tables earlier) earlier.rows (carry_all tables older.feeds) =
      re_fed tables (loaded_by tables earlier) earlier.rows older.feeds (carry_all tables older.feeds) held.fed (carry_bare tables older.feeds held.fed.each) (carry_takens tables older.feeds held.fed.each) (carry_fed tables older.feeds held.fed.each) in
      let ones : feeds ≡ carry_all tables older.feeds = all_carried tables sound older.feeds held.fed.each apart.names found planned feeds (subst (λ o. AreCarried (feeds_of o) found feeds) from carried) in
      subst (λ l. Ready tables next l) (sym ones) (record {
        fed = subst (λ l. AreFed tables l earlier.rows (carry_all tables older.feeds)) loads carried_fed;
        run = carry_run tables tables older.feeds sound (λ s h2. h2) held.fed.each;
        failed = carry_failed tables older.feeds held.fed.each apart.refused;
        front = carry_front tables older.feeds sound.ordered held.fed.each apart.refused held.done;
        shut = λ fails unread. carry_none tables older.feeds (held.shut (options.0 ∙ fails) unread);
      })

  start_next : (previous : ℕ) (earlier chain : Chain) (older : Job) → Holds tables before previous earlier → goes_on_from before.kept.jobs job ≡ Some older → older.number ≡ previous → HaveSameOptions earlier.request it.request
      → IsPlanOf tables older.feeds found → chain ≡ record earlier { request = it.request } → Holds tables world job chain
  start_next previous earlier chain older h from number_is options planned is =
      let next : Chain = record earlier { request = it.request } in
      let same = no_commit before world (Start moment job (plan.Feeds found)) step.next refl in
      let loads : loaded_by tables earlier ≡ loaded_by tables next = same_lines earlier.request it.request options.1 (begun_with earlier.graph tables) (take earlier.rows (lines tables)) in
      subst (λ s. Holds tables world job s) (sym is) (record {
        graph = same.0 ∙ h.graph ∙ ap (λ (l : Loaded). l.graph) loads;
        changes = ap (λ l. changes_behind earlier.commits l) same.1 ∙ h.changes ∙ ap (λ (l : Loaded). l.changes) loads;
        behind = subst (λ l. earlier.commits ≤ length l) (sym same.1) h.behind;
        known = known;
        defined = record {
          none = λ fails. sym (same_stop earlier.request it.request options.1 (begun_with earlier.graph tables) (take earlier.rows (lines tables))) ∙ h.defined.none (options.0 ∙ fails);
          zero = λ fails unread. h.defined.zero (options.0 ∙ fails) unread;
        };
        each = each earlier next (λ feeds carried. running_holds tables next moment ran gone_on feeds it (run_some (goes_on_from before.kept.jobs job)) refl (next_ready previous earlier older h from number_is options planned feeds carried));
      })

pub begins : (tables : List Table) → AreTables tables → (before world : World) (entry : Entry) (job : ℕ) (chain : Chain) → SureStep before entry world → Begins tables before entry job chain → Holds tables world job chain
begins tables sound before world entry job chain step is =
    start_first tables sound before world job is.moment is.found (subst (λ e. SureStep before e world) is.is step) is.it is.front chain is.none is.planned is.chain_is

pub continues : (tables : List Table) → AreTables tables → (before world : World) (entry : Entry) (job previous : ℕ) (earlier chain : Chain) → Holds tables before previous earlier → SureStep before entry world → Continues tables before entry job previous earlier chain → Holds tables world job chain
continues tables sound before world entry job previous earlier chain h step is =
    start_next tables sound before world job is.moment is.found (subst (λ e. SureStep before e world) is.is step) is.it is.front previous earlier chain is.older h is.from is.number is.same is.planned is.chain_is
