-- An entry of the load itself.
use Rattle.std.specs.Prelude.{◌≡◌, ℕ, ◌+◌, ◌-◌, ◌≤◌, Bool, true, false, cond, List, [], ◌∷◌, ◌++◌, length, map, take, drop, refl, Contains, None}
use Rattle.std.specs.List.{list_any}
use Rattle.std.proofs.Common.{sym, ap, subst, ◌∙◌, arith, inl, inr, length-append}
use Rattle.std.proofs.lemmas.Bool.{true≢false, cond_both}
use Rattle.std.proofs.lemmas.List.Elements.{All-contains}
use Rattle.bl_outside.specs.declared.digest.Digest.{Digest}
use Rattle.bl_value.specs.declared.change.Change.{Change}
use Rattle.bl_value.specs.declared.row.DigestRow.{DigestRow}
use Rattle.bl_files.specs.declared.feed.Feed.{Feed}
use Rattle.bl_files.specs.declared.feed_end.FeedEnd.{FeedEnd}
use Rattle.bl_files.specs.declared.feed_end.FeedEnd.TheVariants as end
use Rattle.bl_files.specs.declared.feed_status.FeedStatus.TheVariants as feed
use Rattle.bl_files.specs.declared.log.Log.{Log}
use Rattle.bl_graph.specs.Replay.{after}
use Rattle.bl_job.specs.Batches.{Taken, batch}
use Rattle.bl_job.specs.Joined.{behind}
use Rattle.bl_job.proofs.Sound.{sound_batch}
use Rattle.bl_queue.specs.declared.job.Job.{Job}
use Rattle.bl_queue.specs.Statuses.{is_in_progress}
use Rattle.bl_queue.specs.Jobs.{AreJobs, Kept, has_open}
use Rattle.bl_queue.specs.Changes.{IsChanged}
use Rattle.bl_queue.specs.Runs.{cancelled_job, closed, end_status, ended_feed, feeds_after, job_after_feed, stops, with_feed, with_open_ended}
use Rattle.bl_queue.specs.Rows.{fed_feed, fed_job, last_logs}
use Rattle.bl_queue.proofs.ChangedJobs.{front_in}
use Rattle.bl_entry.specs.declared.entry.Entry.{Entry}
use Rattle.bl_entry.specs.declared.entry.Entry.TheVariants.{Cancel, Batch, FeedEnd as End}
use Rattle.bl_files.specs.Statuses.{is_completed, is_open}
use Rattle.bl_world.specs.Makings.{digest_behind}
use Rattle.bl_world.specs.Worlds.{AreNext, FitsBatch, FitsEnd, IsFirstOpen, IsNext, MayStop, World, changes_of, commit_of}
use Rattle.bl_world.specs.declared.job_commit.JobCommit.{JobCommit}
use Rattle.bl_world.proofs.EndedJobs.{one_job}
use Rattle.bl_chain.specs.Chains.{Chain, changes_behind, loaded_by}
use Rattle.bl_chain.specs.Frontiers.{IsNextAt, IsWhole}
use Rattle.bl_chain.specs.Loads.{Loaded, begun_with, lines, load_to, numbered, with_batch}
use Rattle.bl_chain.specs.Stops.{stop_in}
use Rattle.bl_chain.specs.Tables.{AreTables, Table}
use Rattle.bl_chain.specs.Turns.{GoesOn, IsBatchOf, IsEndOf}
use Rattle.bl_chain.proofs.EndedFiles.{AtFront, cut_none, done_cut, done_either, done_ended, front_at, front_completed, front_done, front_fed, front_last}
use Rattle.bl_chain.proofs.FedFiles.{bare_ended, bare_open, closed_all, fed_ended, fed_open, first_open_any, next_at, none_open, re_fed, takens_ended, takens_open, whole_rests, whole_started, zip_with}
use Rattle.bl_chain.proofs.FedLoads.{AreFed, AreRun, Done, Front, IsFed}
use Rattle.bl_chain.proofs.Holdings.{Holds, JobHolds, SureStep, changes_more, quiet, same_holds, taken_changed}
use Rattle.bl_chain.proofs.KeptJobs.{ComesChanged, IsSameRun, changed_from, changed_last}
use Rattle.bl_chain.proofs.QuietRows.{batch_quiet, stop_append}
use Rattle.bl_chain.proofs.TakenRows.{fed_on, loads_on, next_lines, run_on}

longer : (n : ℕ) (commits more : List JobCommit) → n ≤ length commits → n ≤ length (commits ++ more)
longer n commits more h = omega (arith, length-append commits more)

-- the job itself is changed
pub own_changed : (tables : List Table) (before : World) (moment number job : ℕ) (change : Job → Job) (new : Kept) (earlier chain : Chain) (one : Job) → AreJobs before.kept → Contains before.kept.jobs one → one.number ≡ job → number ≡ job
    → JobHolds tables chain (change one) → IsChanged moment number change before.kept new → (it : Job) → Contains new.jobs it → it.number ≡ job → (change one).number ≡ one.number → JobHolds tables chain it
own_changed tables before moment number job change new earlier chain one are there is own held changed it kept same number_stays =
    let old : ComesChanged number change before.kept.jobs it = changed_from moment number change before.kept new changed it kept in
    elim old.2 [
      | inl was ↦ (let alike : old.0 ≡ one = one_job before.kept are old.0 one old.1 there (was.0 ∙ own ∙ sym is) in
          same_holds tables chain (change one) it (subst (λ x. IsSameRun (change x) it) alike was.1) held)
      | inr was ↦ absurd (was.0 (sym was.1.number ∙ same ∙ sym own))
    ]

-- ---- a file ends

module _ (tables : List Table) (sound : AreTables tables) where
  pub same_table : (of : Feed) (a b : Table) → GoesOn tables of a → Contains tables b → IsFed b of → a ≡ b
  same_table of a b goes there fed = sound.apart a b goes.there there (goes.name ∙ fed.name)

  pub goes_on : (of : Feed) (table : Table) → Contains tables table → IsFed table of → GoesOn tables of table
  goes_on of table there fed = record { there = there; name = sym fed.name; kind = sym fed.kind; enough = fed.enough; digest = sym fed.digest }

  pub completed_whole : (of : Feed) (table : Table) (how : FeedEnd) → Contains tables table → IsFed table of → IsEndOf tables of how → is_completed (end_status how) ≡ true → IsWhole table of
  completed_whole of table end.Completed there fed is done = is.2 ∙ ap (λ (s : Table). length s.rows) (same_table of is.0 table is.1 there fed)
  completed_whole of table end.Modified there fed is done = absurd (true≢false (sym done))
  completed_whole of table end.ReadError there fed is done = absurd (true≢false (sym done))
  completed_whole of table (end.Stopped log) there fed is done = absurd (true≢false (sym done))

  -- where the job goes on behind it
  pub going_whole : (it : Job) (of : Feed) (table : Table) (how : FeedEnd) → Contains tables table → IsFed table of → IsEndOf tables of how → MayStop it of how → stops it.request.fail_on_error how ≡ false → IsWhole table of
  going_whole it of table end.Completed there fed is may goes = completed_whole of table end.Completed there fed is refl
  going_whole it of table end.Modified there fed is may goes = absurd (is table (goes_on of table there fed))
  going_whole it of table end.ReadError there fed is may goes = absurd (true≢false goes)
  going_whole it of table (end.Stopped log) there fed is may goes = absurd (true≢false (sym may.0 ∙ goes))

  ended_feeds : (loaded : Loaded) (k : ℕ) (it : Job) (of : Feed) (table : Table) (place : ℕ) (how : FeedEnd) → AreFed tables loaded k it.feeds → Contains tables table → IsFed table of → IsNextAt tables it.feeds place table of → IsEndOf tables of how → (b : Bool)
      → AreFed tables loaded k (cond b (with_open_ended feed.CancelledDueToErrors (with_feed place (ended_feed how) it.feeds)) (with_feed place (ended_feed how) it.feeds))
  ended_feeds loaded k it of table place how fed there own at is b =
      let between : List Feed = with_feed place (ended_feed how) it.feeds in
      let one : AreFed tables loaded k between =
      re_fed tables loaded k it.feeds between fed (bare_ended how place it.feeds) (takens_ended how place it.feeds)
      (zip_with IsFed (ended_feed how) place table of tables it.feeds at (fed_ended how table of own (λ done. completed_whole of table how there own is done)) fed.each) in
      cond_both b (with_open_ended feed.CancelledDueToErrors between) between (λ l. AreFed tables loaded k l)
      (λ h. re_fed tables loaded k between (with_open_ended feed.CancelledDueToErrors between) one (bare_open feed.CancelledDueToErrors refl refl between) (takens_open feed.CancelledDueToErrors refl refl between) (fed_open feed.CancelledDueToErrors refl refl tables between one.each))
      (λ h. one)

  ended_run : (it : Job) (of : Feed) (table : Table) (place : ℕ) (how : FeedEnd) → AreRun tables it.feeds → Contains tables table → IsFed table of → IsNextAt tables it.feeds place table of → IsEndOf tables of how → MayStop it of how
      → (b : Bool) → stops it.request.fail_on_error how ≡ b → list_any (λ (f : Feed). is_open f.status) (cond b (with_open_ended feed.CancelledDueToErrors (with_feed place (ended_feed how) it.feeds)) (with_feed place (ended_feed how) it.feeds)) ≡ true
      → AreRun tables (cond b (with_open_ended feed.CancelledDueToErrors (with_feed place (ended_feed how) it.feeds)) (with_feed place (ended_feed how) it.feeds))
  ended_run it of table place how run there own at is may true stop left =
      absurd (true≢false (sym left ∙ none_open feed.CancelledDueToErrors refl refl (with_feed place (ended_feed how) it.feeds)))
  ended_run it of table place how run there own at is may false stop left =
      zip_with (λ s f. is_open f.status ≡ false → IsWhole s f) (ended_feed how) place table of tables it.feeds at (λ shut. going_whole it of table how there own is may stop) run

  ended_front : (it : Job) (of : Feed) (table : Table) (place : ℕ) (how : FeedEnd) → AtFront tables it.feeds place → Contains tables table → IsFed table of → IsEndOf tables of how → MayStop it of how
      → (b : Bool) → stops it.request.fail_on_error how ≡ b → list_any (λ (f : Feed). is_open f.status) (cond b (with_open_ended feed.CancelledDueToErrors (with_feed place (ended_feed how) it.feeds)) (with_feed place (ended_feed how) it.feeds)) ≡ true
      → Front tables (cond b (with_open_ended feed.CancelledDueToErrors (with_feed place (ended_feed how) it.feeds)) (with_feed place (ended_feed how) it.feeds))
  ended_front it of table place how at there own is may true stop left = absurd (true≢false (sym left ∙ none_open feed.CancelledDueToErrors refl refl (with_feed place (ended_feed how) it.feeds)))
  ended_front it of table place end.Completed at there own is may false stop left = front_completed tables it.feeds place at
  ended_front it of table place end.Modified at there own is may false stop left = absurd (is table (goes_on of table there own))
  ended_front it of table place end.ReadError at there own is may false stop left = absurd (true≢false stop)
  ended_front it of table place (end.Stopped log) at there own is may false stop left = absurd (true≢false (sym may.0 ∙ stop))

  -- ---- the entries

  module _ (before world : World) (job : ℕ) (earlier : Chain) (h : Holds tables before job earlier) where
    pub running : AreJobs before.kept → (it : Job) (place : ℕ) (of : Feed) → Contains before.kept.jobs it → IsFirstOpen it.feeds place of → is_in_progress it.status ≡ true
    running are it place of there first = sym (All-contains (λ (x : Job). has_open x ≡ is_in_progress x.status) before.kept.jobs it are.running there) ∙ first_open_any it.feeds place of first

    by_own : (entry : Entry) → IsNext before entry world → AreJobs before.kept → (moment number : ℕ) (change : Job → Job) → number ≡ job → ((it : Job) → Contains before.kept.jobs it → it.number ≡ job → JobHolds tables earlier (change it))
        → ((x : Job) → (change x).number ≡ x.number) → IsChanged moment number change before.kept world.kept → changes_of entry ≡ [] → Holds tables world job earlier
    by_own entry next are moment number change own step keeps changed none =
        let last : world.kept.last ≡ before.kept.last = changed_last moment number change before.kept world.kept changed in
        quiet tables before world entry job earlier h next none (omega arith) (λ it there same.
        let old : ComesChanged number change before.kept.jobs it = changed_from moment number change before.kept world.kept changed it there in
        elim old.2 [
          | inl was ↦ same_holds tables earlier (change old.0) it was.1 (step old.0 old.1 (was.0 ∙ own))
          | inr was ↦ absurd (was.0 (sym was.1.number ∙ same ∙ sym own))
        ])

    pub own_cancel : (moment number : ℕ) → SureStep before (Cancel moment number) world → number ≡ job → Holds tables world job earlier
    own_cancel moment number step own =
        by_own (Cancel moment number) step.next step.are moment number (cancelled_job moment) own
        (λ it there same. let held : JobHolds tables earlier it = h.each it there same in record {
          request = held.request;
          fed = re_fed tables (loaded_by tables earlier) earlier.rows it.feeds (with_open_ended feed.CancelledByUser it.feeds) held.fed (bare_open feed.CancelledByUser refl refl it.feeds) (takens_open feed.CancelledByUser refl refl it.feeds) (fed_open feed.CancelledByUser refl refl tables it.feeds held.fed.each);
          run = λ runs. absurd (true≢false (sym runs));
          started = refl;
          ran = held.ran;
          calm = λ runs. absurd (true≢false (sym runs));
          front = λ runs. absurd (true≢false (sym runs));
          done = done_cut feed.CancelledByUser refl tables it.feeds held.done;
          shut = λ fails unread. cut_none feed.CancelledByUser refl tables it.feeds (held.shut fails unread);
        }) (λ x. refl) step.next.kept refl

    pub own_end : (moment number place : ℕ) (how : FeedEnd) → SureStep before (End moment number place how) world → number ≡ job → ((it : Job) (of : Feed) → AreNext before.kept.jobs number place it of → IsEndOf tables of how) → Holds tables world job earlier
    own_end moment number place how step own over =
        let fits : FitsEnd before.kept number place how = step.follows.fits in
        let front : Contains before.kept.jobs fits.it = (front_in before.kept.jobs fits.it fits.next.0).0 in
        let held : JobHolds tables earlier fits.it = h.each fits.it front (fits.next.1 ∙ own) in
        let runs : is_in_progress fits.it.status ≡ true = running step.are fits.it (place - 1) fits.of front fits.next.3 in
        let run : AreRun tables fits.it.feeds = held.run runs in
        let at = next_at tables fits.it.feeds (place - 1) fits.of held.fed.each run fits.next.3 in
        let is : IsEndOf tables fits.of how = over fits.it fits.of fits.next in
        let fail : Bool = fits.it.request.fail_on_error in
        let new : List Feed = feeds_after fail (place - 1) how fits.it.feeds in
        let fed : AreFed tables (loaded_by tables earlier) earlier.rows new = ended_feeds (loaded_by tables earlier) earlier.rows fits.it fits.of at.0 (place - 1) how held.fed at.1 at.3 at.2 is (stops fail how) in
        let at2 : AtFront tables fits.it.feeds (place - 1) = front_at tables fits.it.feeds (place - 1) fits.of (held.front runs) fits.next.3 in
        let now_done : Done tables new = done_either (stops fail how) tables (with_feed (place - 1) (ended_feed how) fits.it.feeds) (done_ended tables fits.it.feeds (place - 1) how at2) in
        let next : Job = record fits.it { latest = moment; feeds = new } in
        let after : JobHolds tables earlier (closed next) =
        closed_all (λ x. JobHolds tables earlier x) next
        (λ left. record { request = held.request; fed = fed; run = λ r. ended_run fits.it fits.of at.0 (place - 1) how run at.1 at.3 at.2 is fits.stops (stops fail how) refl left; started = held.started; ran = held.ran; calm = λ r fails. held.calm runs fails; front = λ r. ended_front fits.it fits.of at.0 (place - 1) how at2 at.1 at.3 is fits.stops (stops fail how) refl left; done = now_done; shut = λ fails unread. absurd (true≢false (sym unread ∙ held.calm runs fails)) })
        (λ none. record { request = held.request; fed = fed; run = λ r. absurd (true≢false (sym r ∙ whole_rests new)); started = whole_started new; ran = held.ran; calm = λ r. absurd (true≢false (sym r ∙ whole_rests new)); front = λ r. absurd (true≢false (sym r ∙ whole_rests new)); done = now_done; shut = λ fails unread. absurd (true≢false (sym unread ∙ held.calm runs fails)) }) in
        by_own (End moment number place how) step.next step.are moment number (job_after_feed moment (place - 1) how) own
        (λ it there same. let alike : fits.it ≡ it = one_job before.kept step.are fits.it it front there (fits.next.1 ∙ own ∙ sym same) in subst (λ x. JobHolds tables earlier (job_after_feed moment (place - 1) how x)) alike after)
        (λ x. closed_all (λ y. y.number ≡ x.number) (record x { latest = moment; feeds = feeds_after x.request.fail_on_error (place - 1) how x.feeds }) (λ e. refl) (λ e. refl)) step.next.kept refl

    pub own_batch : (moment number place from rows : ℕ) (digest : Digest) (duplicates : ℕ) (logs : List Log) (changes : List Change) → SureStep before (Batch moment number place from rows digest duplicates logs changes) world → number ≡ job
        → ((it : Job) (of : Feed) → AreNext before.kept.jobs number place it of → IsBatchOf tables it.request before.graph of from rows digest duplicates logs changes)
        → Holds tables world job (record earlier { rows = earlier.rows + rows })
    own_batch moment number place from rows digest duplicates logs changes step own over =
        let fits : FitsBatch before.kept before.graph number place from rows duplicates logs changes = step.follows.fits in
        let it : Job = fits.it in
        let of : Feed = fits.of in
        let front : Contains before.kept.jobs it = (front_in before.kept.jobs it fits.next.0).0 in
        let held : JobHolds tables earlier it = h.each it front (fits.next.1 ∙ own) in
        let runs : is_in_progress it.status ≡ true = running step.are it (place - 1) of front fits.next.3 in
        let run : AreRun tables it.feeds = held.run runs in
        let at = next_at tables it.feeds (place - 1) of held.fed.each run fits.next.3 in
        let is : IsBatchOf tables it.request before.graph of from rows digest duplicates logs changes = over it of fits.next in
        let alike : is.table ≡ at.0 = same_table of is.table at.0 is.goes_on at.1 at.3 in
        let all : List DigestRow = is.row ∷ is.more in
        let rows_are : take (length all) (drop of.taken at.0.rows) ≡ all = (λ i. take (sym is.rows_is i) (drop of.taken (sym alike i).rows)) ∙ is.rows_are in
        let loaded : Loaded = loaded_by tables earlier in
        let made : Taken = batch it.request before.graph all in
        let same : made ≡ batch earlier.request loaded.graph all = λ i. batch (held.request i) (h.graph i) all in
        let unstopped : (batch earlier.request loaded.graph all).result.stop ≡ None = ap (λ (t : Taken). t.result.stop) (sym same) ∙ is.unstopped in
        let goal : Loaded = with_batch (place - 1) of.taken is.row is.more loaded (batch earlier.request loaded.graph all) in
        let loads : loaded_by tables (record earlier { rows = earlier.rows + rows }) ≡ goal =
        ap (λ n. load_to earlier.request earlier.graph tables (earlier.rows + n)) is.rows_is
        ∙ loads_on earlier.request earlier.graph tables earlier.rows (place - 1) it.feeds at.0 of is.row is.more held.fed at.2 at.3 rows_are unstopped in
        let fed : AreFed tables goal (earlier.rows + length all) (last_logs (with_feed (place - 1) (fed_feed (length all) (digest_behind is.row.digest is.more) (batch earlier.request loaded.graph all).result.duplicates (map (behind of.taken) (batch earlier.request loaded.graph all).result.logs)) it.feeds)) =
        fed_on earlier.request earlier.graph tables earlier.rows (place - 1) it.feeds at.0 of is.row is.more held.fed at.2 at.3 rows_are unstopped in
        let now_run = run_on earlier.request earlier.graph tables earlier.rows (place - 1) it.feeds at.0 of is.row is.more held.fed at.2 at.3 rows_are unstopped run in
        let duplicates_same : (batch earlier.request loaded.graph all).result.duplicates ≡ duplicates = ap (λ (t : Taken). t.result.duplicates) (sym same) ∙ sym is.duplicates_is in
        let logs_same : map (behind of.taken) (batch earlier.request loaded.graph all).result.logs ≡ logs = ap (λ (t : Taken). map (behind of.taken) t.result.logs) (sym same) ∙ sym is.logs_are in
        let feeds_same : last_logs (with_feed (place - 1) (fed_feed (length all) (digest_behind is.row.digest is.more) (batch earlier.request loaded.graph all).result.duplicates (map (behind of.taken) (batch earlier.request loaded.graph all).result.logs)) it.feeds) ≡ last_logs (with_feed (place - 1) (fed_feed rows digest duplicates logs) it.feeds) =
        λ i. last_logs (with_feed (place - 1) (fed_feed (sym is.rows_is i) (sym is.digest_is i) (duplicates_same i) (logs_same i)) it.feeds) in
        let now_front : Front tables (last_logs (with_feed (place - 1) (fed_feed rows digest duplicates logs) it.feeds)) =
        front_last tables (with_feed (place - 1) (fed_feed rows digest duplicates logs) it.feeds) (front_fed tables it.feeds (place - 1) (fed_feed rows digest duplicates logs) (λ f. (refl, refl)) (front_at tables it.feeds (place - 1) of (held.front runs) fits.next.3)) in
        let replays : after before.graph made.result.changes ≡ made.graph = (sound_batch it.request before.graph all).replays in
        let after_it : JobHolds tables (record earlier { rows = earlier.rows + rows }) (fed_job moment (place - 1) rows digest duplicates logs it) = record {
          request = held.request;
          fed = subst (λ l. AreFed tables l (earlier.rows + rows) (last_logs (with_feed (place - 1) (fed_feed rows digest duplicates logs) it.feeds))) (sym loads)
              (subst (λ n. AreFed tables goal (earlier.rows + n) (last_logs (with_feed (place - 1) (fed_feed rows digest duplicates logs) it.feeds))) (sym is.rows_is) (subst (λ l. AreFed tables goal (earlier.rows + length all) l) feeds_same fed));
          run = λ r. subst (λ l. AreRun tables l) feeds_same now_run;
          started = held.started;
          ran = held.ran;
          calm = λ r fails. held.calm r fails;
          front = λ r. now_front;
          done = front_done tables (last_logs (with_feed (place - 1) (fed_feed rows digest duplicates logs) it.feeds)) now_front;
          shut = λ fails unread. absurd (true≢false (sym unread ∙ held.calm runs fails));
        } in
        let last : world.kept.last ≡ before.kept.last = changed_last moment number (fed_job moment (place - 1) rows digest duplicates logs) before.kept world.kept (taken_changed before world moment number place from rows digest duplicates logs changes step) in
        let known : job ≤ before.kept.last = h.known in
        record {
          graph = step.next.graph ∙ ap (λ l. after before.graph l) is.changes_are ∙ replays ∙ ap (λ (t : Taken). t.graph) same ∙ ap (λ (l : Loaded). l.graph) (sym loads);
          changes =
              ap (λ l. changes_behind earlier.commits l) step.next.commits ∙ changes_more earlier.commits number moment before.commits changes h.behind
              ∙ (λ i. h.changes i ++ (is.changes_are ∙ ap (λ (t : Taken). t.result.changes) same) i) ∙ ap (λ (l : Loaded). l.changes) (sym loads);
          behind = subst (λ l. earlier.commits ≤ length l) (sym step.next.commits) (longer earlier.commits before.commits (commit_of number moment changes) h.behind);
          known = omega arith;
          defined = record {
            none = λ fails.
                ap (λ n. stop_in earlier.request (begun_with earlier.graph tables) (take (earlier.rows + n) (lines tables))) is.rows_is
                ∙ ap (λ l. stop_in earlier.request (begun_with earlier.graph tables) l) (next_lines earlier.request earlier.graph tables earlier.rows (place - 1) it.feeds at.0 of is.row is.more held.fed at.2 at.3 rows_are unstopped)
                ∙ stop_append earlier.request (begun_with earlier.graph tables) (take earlier.rows (lines tables)) (numbered (place - 1) of.taken all) (h.defined.none fails)
                ∙ batch_quiet earlier.request fails loaded (place - 1) of.taken is.row is.more unstopped;
            zero = λ fails unread. absurd (true≢false (sym unread ∙ held.calm runs fails));
          };
          each = λ it2 there same2. own_changed tables before moment number job (fed_job moment (place - 1) rows digest duplicates logs) world.kept earlier (record earlier { rows = earlier.rows + rows }) it step.are front (fits.next.1 ∙ own) own after_it (taken_changed before world moment number place from rows digest duplicates logs changes step) it2 there same2 refl;
        }
