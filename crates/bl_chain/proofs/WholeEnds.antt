-- A load that wasn't cut ends as a whole one.
use Rattle.std.specs.Prelude.{◌≡◌, ◌≢◌, ℕ, ◌+◌, ◌-◌, ◌≤◌, Bool, true, false, ◌&&◌, cond, List, [], ◌∷◌, ◌++◌, length, map, take, drop, refl, Contains, Some, None}
use Rattle.std.specs.List.{list_any}
use Rattle.std.proofs.Common.{sym, ap, subst, ◌∙◌, arith, inl, inr, length-drop}
use Rattle.std.proofs.lemmas.Bool.{true≢false, cases_Bool}
use Rattle.bl_value.specs.declared.log_code.LogCode.TheVariants.{ListFault, NoPreviousLoad, SourceNotFound, TooManyFiles}
use Rattle.bl_value.specs.declared.row.DigestRow.{DigestRow}
use Rattle.bl_files.specs.declared.feed.Feed.{Feed}
use Rattle.bl_files.specs.declared.feed_end.FeedEnd.{FeedEnd}
use Rattle.bl_files.specs.declared.feed_end.FeedEnd.TheVariants as end
use Rattle.bl_files.specs.declared.feed_status.FeedStatus.TheVariants as feed
use Rattle.bl_files.specs.declared.found.Found.{Found}
use Rattle.bl_files.specs.declared.load_request.LoadRequest.{LoadRequest}
use Rattle.bl_files.specs.declared.plan_result.PlanResult.{PlanResult}
use Rattle.bl_files.specs.declared.plan_result.PlanResult.TheVariants as plan
use Rattle.bl_files.specs.Carried.{AreCarried}
use Rattle.bl_graph.specs.Graph.{Graph}
use Rattle.bl_graph.specs.Admission.{admit}
use Rattle.bl_graph.specs.declared.verdict.Verdict.TheVariants.{Refused}
use Rattle.bl_queue.specs.declared.job.Job.{Job}
use Rattle.bl_queue.specs.declared.job_status.JobStatus.{JobStatus}
use Rattle.bl_queue.specs.declared.job_status.JobStatus.TheVariants as job
use Rattle.bl_queue.specs.Statuses.{is_in_progress, is_to_start}
use Rattle.bl_queue.specs.Jobs.{AreJobs, Kept, front_job, has_open}
use Rattle.bl_queue.specs.Changes.{IsChanged}
use Rattle.bl_queue.specs.Runs.{IsRunning, IsStarted, begun, cancelled_job, ended_feed, feeds_after, feeds_of, goes_on_from, job_after_feed, number_of, refused_job, run_after, running_job, started_job, whole_status, with_feed, with_open_ended}
use Rattle.bl_queue.specs.Rows.{fed_job}
use Rattle.bl_queue.proofs.ChangedJobs.{front_in}
use Rattle.bl_entry.specs.declared.entry.Entry.{Entry}
use Rattle.bl_entry.specs.declared.entry.Entry.TheVariants.{Submit, Cancel, Start, Batch, FeedEnd as End}
use Rattle.bl_files.specs.Statuses.{is_failed, is_open}
use Rattle.bl_world.specs.Worlds.{FitsEnd, FitsStart, MayStop, World}
use Rattle.bl_world.proofs.EndedJobs.{one_job}
use Rattle.bl_chain.specs.Chains.{Begins, Chain, Continues, IsOther, IsOwn, IsUnchanged, loaded_by}
use Rattle.bl_chain.specs.Ends.{AreEnds, end_of}
use Rattle.bl_chain.specs.Frontiers.{IsNextAt, IsWhole}
use Rattle.bl_chain.specs.Loads.{Line, Loaded, lines, numbered}
use Rattle.bl_chain.specs.Stops.{Stop, stop_by}
use Rattle.bl_chain.specs.Tables.{AreTables, Table, any_unread}
use Rattle.bl_chain.specs.Turns.{IsEndOf}
use Rattle.bl_chain.specs.WholeEnds.{EndsWhole, IsEndUncut, IsOwnUncut, IsUncut}
use Rattle.bl_chain.proofs.Chained.{sure, unchanged_holds, world_of}
use Rattle.bl_chain.proofs.EndedFiles.{AtFront, all_taken, cut_ends, front_at, front_completed, rested_ends, run_whole, stopped_ends, unread_none}
use Rattle.bl_chain.proofs.FedFiles.{closed_all, next_at, takens_ended, zip_with}
use Rattle.bl_chain.proofs.FedLoads.{AreRun, IsFed}
use Rattle.bl_chain.proofs.Holdings.{Holds, JobHolds, SureStep, starts_other, taken_changed}
use Rattle.bl_chain.proofs.KeptJobs.{ComesChanged, ComesFrom, IsSameRun, changed_from, is_closed, submitted_from}
use Rattle.bl_chain.proofs.OtherEntries.{closed_number}
use Rattle.bl_chain.proofs.OwnEntries.{completed_whole, goes_on, running, same_table}
use Rattle.bl_chain.proofs.Positions.{more_lines}
use Rattle.bl_chain.proofs.QuietRows.{none_failed}
use Rattle.bl_chain.proofs.StartedLoads.{Ready, first_ready, front_number, front_there, next_ready, running_number}

-- ---- a load that wasn't cut is unchanged

uncut_end : (tables : List Table) (it : Job) (graph : Graph) (of : Feed) (how : FeedEnd) → IsEndUncut tables it graph of how → IsEndOf tables of how
uncut_end tables it graph of end.Completed h = h
uncut_end tables it graph of end.Modified h = h
uncut_end tables it graph of end.ReadError h = absurd h
uncut_end tables it graph of (end.Stopped log) h = tt

uncut_own : (tables : List Table) (before : World) (job : ℕ) (earlier : Chain) (entry : Entry) (chain : Chain) → IsOwnUncut tables before job earlier entry chain → IsOwn tables before job earlier entry chain
uncut_own tables before job earlier (Batch moment number place from rows digest duplicates logs changes) chain h = h
uncut_own tables before job earlier (End moment number place how) chain h = (h.0, (λ it of next. uncut_end tables it before.graph of how (h.1 it of next)), h.2)
uncut_own tables before job earlier (Cancel moment number) chain h = absurd h
uncut_own tables before job earlier (Start moment number planned) chain h = absurd h
uncut_own tables before job earlier (Submit moment number id request) chain h = absurd h

pub uncut_unchanged : (tables : List Table) (entries : List Entry) (world : World) (job : ℕ) (chain : Chain) → IsUncut tables entries world job chain → IsUnchanged tables entries world job chain
uncut_unchanged tables [] world job chain h = absurd h
uncut_unchanged tables (entry ∷ older) world job chain h = (
  h.0,
  h.1,
  elim h.2 [
    | inl first ↦ inl first
    | inr rest ↦ (elim rest [
      | inl next ↦ inr (inl next)
      | inr goes ↦ inr (inr (
        goes.0,
        uncut_unchanged tables older h.0 job goes.0 goes.1,
        elim goes.2 [
          | inl own ↦ inl (uncut_own tables h.0 job goes.0 entry chain own)
          | inr other ↦ inr other
        ],
      ))
    ])
  ],
)

-- ---- what is closed stays so

same_ends : (tables : List Table) (chain : Chain) (old new : Job) → IsSameRun old new → (is_closed old.status ≡ true → EndsWhole tables chain old) → is_closed new.status ≡ true → EndsWhole tables chain new
same_ends tables chain old new same ends closes =
    let status : new.status ≡ old.status = same.settles closes in
    let was : EndsWhole tables chain old = ends (ap is_closed (sym status) ∙ closes) in
    record {
      status = status ∙ was.status ∙ ap whole_status (sym same.feeds);
      ends = subst (λ l. AreEnds chain.request chain.graph tables chain.rows (map end_of l)) (sym same.feeds) was.ends;
    }

running_open : (s : JobStatus) → is_in_progress s ≡ true → is_closed s ≡ false
running_open job.NotStarted h = refl
running_open job.InQueue h = refl
running_open job.InProgress h = refl
running_open job.Completed h = absurd (true≢false (sym h))
running_open job.CancelledByUser h = refl
running_open job.Failed h = absurd (true≢false (sym h))
running_open job.DependencyNotSatisfied h = refl

-- ---- entries of other loads

module _ (tables : List Table) (before world : World) (job : ℕ) (chain : Chain) (h : Holds tables before job chain) where
  comes : (moment number : ℕ) (change : Job → Job) → ((x : Job) → (change x).number ≡ x.number) → number ≢ job → IsChanged moment number change before.kept world.kept → (it : Job) → Contains world.kept.jobs it → it.number ≡ job → ComesFrom before.kept.jobs it
  comes moment number change keeps other changed it there same =
      let old : ComesChanged number change before.kept.jobs it = changed_from moment number change before.kept world.kept changed it there in
      elim old.2 [
        | inl is ↦ absurd (other (sym is.0 ∙ sym (keeps old.0) ∙ sym is.1.number ∙ same))
        | inr is ↦ (old.0, old.1, is.1)
      ]

  comes_start : (moment number : ℕ) (planned : PlanResult) → number ≢ job → IsStarted moment number planned before.kept world.kept → (it : Job) → Contains world.kept.jobs it → it.number ≡ job → ComesFrom before.kept.jobs it
  comes_start moment number (plan.Feeds found) other started =
      comes moment number (running_job moment (run_after (goes_on_from before.kept.jobs number)) (number_of (goes_on_from before.kept.jobs number)) started.0)
      (λ x. running_number moment (run_after (goes_on_from before.kept.jobs number)) (number_of (goes_on_from before.kept.jobs number)) started.0 x) other started.2
  comes_start moment number plan.NoPrevious other started = comes moment number (refused_job moment (run_after (goes_on_from before.kept.jobs number)) (number_of (goes_on_from before.kept.jobs number)) NoPreviousLoad) (λ x. refl) other started
  comes_start moment number plan.SourceNotFound other started = comes moment number (refused_job moment (run_after (goes_on_from before.kept.jobs number)) (number_of (goes_on_from before.kept.jobs number)) SourceNotFound) (λ x. refl) other started
  comes_start moment number plan.ListFault other started = comes moment number (refused_job moment (run_after (goes_on_from before.kept.jobs number)) (number_of (goes_on_from before.kept.jobs number)) ListFault) (λ x. refl) other started
  comes_start moment number (plan.TooManyFiles n) other started = comes moment number (refused_job moment (run_after (goes_on_from before.kept.jobs number)) (number_of (goes_on_from before.kept.jobs number)) TooManyFiles) (λ x. refl) other started

  other_comes : (entry : Entry) (after : Chain) → SureStep before entry world → IsOther before job chain entry after → (it : Job) → Contains world.kept.jobs it → it.number ≡ job → ComesFrom before.kept.jobs it
  other_comes (Submit moment number id request) after step is it there same =
      elim (submitted_from moment id request before.kept world.kept step.next.kept it there) [
        | inl old ↦ old
        | inr fresh ↦ absurd (let known : job ≤ before.kept.last = h.known in omega arith)
      ]
  other_comes (Cancel moment number) after step is it there same = comes moment number (cancelled_job moment) (λ x. refl) is.0 step.next.kept it there same
  other_comes (Start moment number planned) after step is it there same =
      let fits : FitsStart before.kept number planned = step.follows.fits in
      comes_start moment number planned (starts_other tables before job number chain h fits.it fits.front fits.number_is (ap is_to_start fits.rests)) step.next.kept it there same
  other_comes (Batch moment number place from rows digest duplicates logs changes) after step is it there same = comes moment number (fed_job moment (place - 1) rows digest duplicates logs) (λ x. refl) is.0 (taken_changed before world moment number place from rows digest duplicates logs changes step) it there same
  other_comes (End moment number place how) after step is it there same =
      comes moment number (job_after_feed moment (place - 1) how) (λ x. closed_number (record x { latest = moment; feeds = feeds_after x.request.fail_on_error (place - 1) how x.feeds })) is.0 step.next.kept it there same

-- ---- a load that ends at its start

pub started_ends : (tables : List Table) (chain : Chain) (moment run previous : ℕ) (feeds : List Feed) (it : Job) → it.request ≡ chain.request → Ready tables chain feeds
    → (chain.request.fail_on_error ≡ true → any_unread tables ≡ true → chain.rows ≡ 0)
    → is_closed (running_job moment run previous feeds it).status ≡ true → EndsWhole tables chain (running_job moment run previous feeds it)
started_ends tables chain moment run previous feeds it request ready zero_is =
    let any : Bool = list_any (λ (f : Feed). is_failed f.status) feeds in
    let new : Job = record (started_job moment run previous it) { status = job.InProgress; feeds = begun it.request.fail_on_error feeds } in
    closed_all (λ x. is_closed x.status ≡ true → EndsWhole tables chain x) new
    (λ left closes. absurd (true≢false (sym closes)))
    (λ none closes. record { status = refl; ends = by it.request.fail_on_error refl any refl none }) where
      by : (fail : Bool) → it.request.fail_on_error ≡ fail → (any : Bool) → list_any (λ (f : Feed). is_failed f.status) feeds ≡ any → has_open (record (started_job moment run previous it) { status = job.InProgress; feeds = begun it.request.fail_on_error feeds }) ≡ false
          → AreEnds chain.request chain.graph tables chain.rows (map end_of (begun it.request.fail_on_error feeds))
      by fail fails any anys none = at (fail && any) (λ i. fails i && anys i) fail fails any anys refl where
        at : (b : Bool) → (it.request.fail_on_error && list_any (λ (f : Feed). is_failed f.status) feeds) ≡ b → (fail : Bool) → it.request.fail_on_error ≡ fail → (any : Bool) → list_any (λ (f : Feed). is_failed f.status) feeds ≡ any → (fail && any) ≡ b
            → AreEnds chain.request chain.graph tables chain.rows (map end_of (begun it.request.fail_on_error feeds))
        at true is true fails true anys same =
            let fails2 : chain.request.fail_on_error ≡ true = ap (λ (r : LoadRequest). r.fail_on_error) (sym request) ∙ fails in
            let unread : any_unread tables ≡ true = elim (cases_Bool (any_unread tables)) [ inl unread ↦ unread | inr read ↦ absurd (true≢false (sym anys ∙ unread_none tables feeds ready.front read)) ] in
            inr (inl (fails2, unread, zero_is fails2 unread, ap (λ b. map end_of (cond b (with_open_ended feed.CancelledDueToErrors feeds) feeds)) is ∙ cut_ends tables feeds ready.front (ready.shut fails2 unread)))
        at true is false fails any anys same = absurd (true≢false (sym same))
        at true is true fails false anys same = absurd (true≢false (sym same))
        at false is fail fails any anys same =
            let stays : begun it.request.fail_on_error feeds ≡ feeds = ap (λ b. cond b (with_open_ended feed.CancelledDueToErrors feeds) feeds) is in
            let shut_all : list_any (λ (f : Feed). is_open f.status) feeds ≡ false = ap (λ l. list_any (λ (f : Feed). is_open f.status) l) (sym stays) ∙ none in
            inl (
              (λ fails2. none_failed tables feeds ready.failed (sym (ap (λ b. b && list_any (λ (f : Feed). is_failed f.status) feeds) (ap (λ (r : LoadRequest). r.fail_on_error) request ∙ fails2)) ∙ is)),
              all_taken 0 chain.rows tables feeds ready.fed.shared (run_whole tables feeds ready.run shut_all) ready.fed.within,
              ap (λ l. map end_of l) stays ∙ rested_ends tables feeds ready.front shut_all,
            )

-- ---- a load that ends with a file

module _ (tables : List Table) (sound : AreTables tables) where
  ended_ends : (earlier : Chain) (it : Job) (of : Feed) (table : Table) (place moment : ℕ) (how : FeedEnd) (graph : Graph) → JobHolds tables earlier it → graph ≡ (loaded_by tables earlier).graph → is_in_progress it.status ≡ true → Contains tables table → IsFed table of
      → IsNextAt tables it.feeds place table of → AtFront tables it.feeds place → IsEndUncut tables it graph of how → MayStop it of how
      → list_any (λ (f : Feed). is_open f.status) (feeds_after it.request.fail_on_error place how it.feeds) ≡ false → AreEnds earlier.request earlier.graph tables earlier.rows (map end_of (feeds_after it.request.fail_on_error place how it.feeds))
  ended_ends earlier it of table place moment end.Completed graph held graph_is runs there own at front is may none =
      let new : List Feed = with_feed place (ended_feed end.Completed) it.feeds in
      let whole : IsWhole table of = completed_whole tables sound of table end.Completed there own is refl in
      let run : AreRun tables new = zip_with (λ s f. is_open f.status ≡ false → IsWhole s f) (ended_feed end.Completed) place table of tables it.feeds at (λ shut. whole) (held.run runs) in
      inl ((λ fails. held.calm runs fails), all_taken 0 earlier.rows tables new (takens_ended end.Completed place it.feeds ∙ held.fed.shared) (run_whole tables new run none) held.fed.within, rested_ends tables new (front_completed tables it.feeds place front) none)
  ended_ends earlier it of table place moment end.Modified graph held graph_is runs there own at front is may none = absurd (is table (goes_on tables sound of table there own))
  ended_ends earlier it of table place moment end.ReadError graph held graph_is runs there own at front is may none = absurd is
  ended_ends earlier it of table place moment (end.Stopped log) graph held graph_is runs there own at front is may none =
      let fails : earlier.request.fail_on_error ≡ true = ap (λ (r : LoadRequest). r.fail_on_error) (sym held.request) ∙ may.0 in
      let alike : is.0 ≡ table = same_table tables sound of is.0 table is.1 there own in
      let row : DigestRow = is.2 in
      let line : Line = record { place = place; number = of.taken + 1; row = row } in
      let rest : drop of.taken table.rows ≡ row ∷ is.3 = ap (λ (s : Table). drop of.taken s.rows) (sym alike) ∙ is.4 in
      let room : of.taken + 1 ≤ length table.rows =
      (let less : length (drop of.taken table.rows) ≡ length table.rows - of.taken = length-drop of.taken table.rows in
      let more : length (drop of.taken table.rows) ≡ length (row ∷ is.3) = ap length rest in
      omega arith) in
      let next : take (earlier.rows + 1) (lines tables) ≡ take earlier.rows (lines tables) ++ line ∷ [] =
      more_lines 0 earlier.rows 1 place tables it.feeds table of held.fed.shared at (omega arith) room
      ∙ (λ i. take earlier.rows (lines tables) ++ numbered ((let e : 0 + place ≡ place = omega arith in e) i) of.taken (take 1 (rest i))) in
      let loaded : Loaded = loaded_by tables earlier in
      let verdict : admit loaded.graph earlier.request.update_single row.row ≡ Refused log.code log.column = (λ i. admit (sym graph_is i) ((sym held.request i).update_single) row.row) ∙ is.5 in
      let stop : Stop = record { place = place; log = log } in
      inr (inr (
        fails,
        held.calm runs fails,
        line,
        next,
        stop,
        (ap (λ v. stop_by line v None) verdict ∙ (λ i. Some (record { place = place; log = record { code = log.code; number = sym is.6 i; column = log.column } }))),
        ap (λ b. map end_of (cond b (with_open_ended feed.CancelledDueToErrors (with_feed place (ended_feed (end.Stopped log)) it.feeds)) (with_feed place (ended_feed (end.Stopped log)) it.feeds))) may.0
            ∙ stopped_ends log tables it.feeds place front,
      ))

  -- ---- entry by entry

  by_changed : (before : World) (moment number job : ℕ) (change : Job → Job) (new : Kept) (chain : Chain) (one : Job) → AreJobs before.kept → Contains before.kept.jobs one → one.number ≡ job → number ≡ job
      → (is_closed (change one).status ≡ true → EndsWhole tables chain (change one)) → IsChanged moment number change before.kept new → (it : Job) → Contains new.jobs it → it.number ≡ job → is_closed it.status ≡ true → EndsWhole tables chain it
  by_changed before moment number job change new chain one are there is own ends changed it kept same closes =
      let old : ComesChanged number change before.kept.jobs it = changed_from moment number change before.kept new changed it kept in
      elim old.2 [
        | inl was ↦ (let alike : old.0 ≡ one = one_job before.kept are old.0 one old.1 there (was.0 ∙ own ∙ sym is) in
            same_ends tables chain (change one) it (subst (λ x. IsSameRun (change x) it) alike was.1) ends closes)
        | inr was ↦ absurd (was.0 (sym was.1.number ∙ same ∙ sym own))
      ]

  abbrev Ends : World → ℕ → Chain → Type 0
  Ends world job chain = (it : Job) → Contains world.kept.jobs it → it.number ≡ job → is_closed it.status ≡ true → EndsWhole tables chain it

  own_ends : (before world : World) (job : ℕ) (earlier : Chain) → Holds tables before job earlier → (entry : Entry) (chain : Chain) → SureStep before entry world → IsOwnUncut tables before job earlier entry chain → Ends world job chain
  own_ends before world job earlier h (Batch moment number place from rows digest duplicates logs changes) chain step is =
      let fits = step.follows.fits in
      let there : Contains before.kept.jobs fits.it = (front_in before.kept.jobs fits.it fits.next.0).0 in
      let runs : is_in_progress fits.it.status ≡ true = running tables sound before world job earlier h step.are fits.it (place - 1) fits.of there fits.next.3 in
      by_changed before moment number job (fed_job moment (place - 1) rows digest duplicates logs) world.kept chain fits.it step.are there (fits.next.1 ∙ is.0) is.0 (λ closes. absurd (true≢false (sym closes ∙ running_open fits.it.status runs))) (taken_changed before world moment number place from rows digest duplicates logs changes step)
  own_ends before world job earlier h (End moment number place how) chain step is =
      let fits : FitsEnd before.kept number place how = step.follows.fits in
      let there : Contains before.kept.jobs fits.it = (front_in before.kept.jobs fits.it fits.next.0).0 in
      let held : JobHolds tables earlier fits.it = h.each fits.it there (fits.next.1 ∙ is.0) in
      let runs : is_in_progress fits.it.status ≡ true = running tables sound before world job earlier h step.are fits.it (place - 1) fits.of there fits.next.3 in
      let at = next_at tables fits.it.feeds (place - 1) fits.of held.fed.each (held.run runs) fits.next.3 in
      let front : AtFront tables fits.it.feeds (place - 1) = front_at tables fits.it.feeds (place - 1) fits.of (held.front runs) fits.next.3 in
      let new : Job = record fits.it { latest = moment; feeds = feeds_after fits.it.request.fail_on_error (place - 1) how fits.it.feeds } in
      subst (λ s. Ends world job s) (sym is.2)
      (by_changed before moment number job (job_after_feed moment (place - 1) how) world.kept earlier fits.it step.are there (fits.next.1 ∙ is.0) is.0
      (closed_all (λ x. is_closed x.status ≡ true → EndsWhole tables earlier x) new (λ left closes. absurd (true≢false (sym closes ∙ running_open fits.it.status runs)))
      (λ none closes. record { status = refl; ends = ended_ends earlier fits.it fits.of at.0 (place - 1) moment how before.graph held h.graph runs at.1 at.3 at.2 front (is.1 fits.it fits.of fits.next) fits.stops none })) step.next.kept)
  own_ends before world job earlier h (Cancel moment number) chain step is = absurd is
  own_ends before world job earlier h (Start moment number planned) chain step is = absurd is
  own_ends before world job earlier h (Submit moment number id request) chain step is = absurd is

  -- ---- the starts

  at_start : (before world : World) (job moment : ℕ) (found : List Found) (step : SureStep before (Start moment job (plan.Feeds found)) world) (it : Job) (front : front_job before.kept.jobs ≡ Some it) (chain : Chain) → it.request ≡ chain.request
      → ((feeds : List Feed) → AreCarried (feeds_of (goes_on_from before.kept.jobs job)) found feeds → Ready tables chain feeds) → (chain.request.fail_on_error ≡ true → any_unread tables ≡ true → chain.rows ≡ 0) → Ends world job chain
  at_start before world job moment found step it front chain request ready zero_is =
      let started : IsRunning moment job found before.kept world.kept = step.next.kept in
      let run : ℕ = run_after (goes_on_from before.kept.jobs job) in
      let previous : ℕ = number_of (goes_on_from before.kept.jobs job) in
      by_changed before moment job job (running_job moment run previous started.0) world.kept chain it step.are (front_there tables sound before world job moment found step it front) (front_number tables sound before world job moment found step it front) refl
      (started_ends tables chain moment run previous started.0 it request (ready started.0 started.1) zero_is) started.2

  begins_ends : (before world : World) (entry : Entry) (job : ℕ) (chain : Chain) → SureStep before entry world → Begins tables before entry job chain → Ends world job chain
  begins_ends before world entry job chain step is =
      let starts : SureStep before (Start is.moment job (plan.Feeds is.found)) world = subst (λ e. SureStep before e world) is.is step in
      subst (λ s. Ends world job s) (sym is.chain_is)
      (at_start before world job is.moment is.found starts is.it is.front (record { request = is.it.request; graph = before.graph; commits = length before.commits; rows = 0 }) refl
      (λ feeds carried. first_ready tables sound before world job is.moment is.found starts is.it is.front is.none is.planned feeds carried) (λ fails unread. refl))

  continues_ends : (before world : World) (entry : Entry) (job previous : ℕ) (earlier chain : Chain) → Holds tables before previous earlier → SureStep before entry world → Continues tables before entry job previous earlier chain → Ends world job chain
  continues_ends before world entry job previous earlier chain h step is =
      let starts : SureStep before (Start is.moment job (plan.Feeds is.found)) world = subst (λ e. SureStep before e world) is.is step in
      subst (λ s. Ends world job s) (sym is.chain_is)
      (at_start before world job is.moment is.found starts is.it is.front (record earlier { request = is.it.request }) refl
      (λ feeds carried. next_ready tables sound before world job is.moment is.found starts is.it is.front previous earlier is.older h is.from is.number is.same is.planned feeds carried)
      (λ fails unread. h.defined.zero (is.same.0 ∙ fails) unread))

  other_chain : (before : World) (job : ℕ) (earlier : Chain) (entry : Entry) (chain : Chain) → IsOther before job earlier entry chain → chain ≡ earlier
  other_chain before job earlier (Batch moment number place from rows digest duplicates logs changes) chain is = is.2
  other_chain before job earlier (End moment number place how) chain is = is.1
  other_chain before job earlier (Cancel moment number) chain is = is.1
  other_chain before job earlier (Start moment number planned) chain is = is
  other_chain before job earlier (Submit moment number id request) chain is = is

  -- ---- the induction

  pub uncut_ends : (entries : List Entry) (world : World) (job : ℕ) (chain : Chain) → IsUncut tables entries world job chain → Ends world job chain
  uncut_ends [] world job chain h = absurd h
  uncut_ends (entry ∷ older) world job chain h =
      elim h.2 [
        | inl first ↦ begins_ends h.0 world entry job chain (sure older h.0 entry world first.0 h.1) first.1
        | inr rest ↦ (elim rest [
          | inl next ↦ continues_ends h.0 world entry job next.0 next.1 chain (unchanged_holds tables sound older h.0 next.0 next.1 next.2) (sure older h.0 entry world (world_of tables older h.0 next.0 next.1 next.2) h.1) next.3
          | inr goes ↦
              (let before : Holds tables h.0 job goes.0 = unchanged_holds tables sound older h.0 job goes.0 (uncut_unchanged tables older h.0 job goes.0 goes.1) in
              let step : SureStep h.0 entry world = sure older h.0 entry world (world_of tables older h.0 job goes.0 (uncut_unchanged tables older h.0 job goes.0 goes.1)) h.1 in
              let ends : Ends h.0 job goes.0 = uncut_ends older h.0 job goes.0 goes.1 in
              elim goes.2 [
                | inl own ↦ own_ends h.0 world job goes.0 before entry chain step own
                | inr other ↦ subst (λ s. Ends world job s) (sym (other_chain h.0 job goes.0 entry chain other)) (λ it there same closes.
                    let old : ComesFrom h.0.kept.jobs it = other_comes tables h.0 world job goes.0 before entry chain step other it there same in
                    same_ends tables goes.0 old.0 it old.2 (λ was. ends old.0 old.1 (sym old.2.number ∙ same) was) closes)
              ])
        ])
      ]
