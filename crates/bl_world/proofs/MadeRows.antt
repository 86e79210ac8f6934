-- The entry of rows may follow, and what they came to is behind it.
use Rattle.std.specs.Prelude.{◌≡◌, ◌≢◌, ℕ, ◌+◌, ◌<◌, ◌≤◌, ◌^◌, Bool, true, false, List, [], length, map, take, refl, All, AllPairs, IfSome, Some, None}
use Rattle.std.specs.declared.option.Option.{Option}
use Rattle.std.proofs.Common.{sym, ap, subst, ◌∙◌, arith, get_or, inl, inr}
use Rattle.std.proofs.lemmas.List.{get_or-map, length-map}
use Rattle.std.proofs.lemmas.List.Elements.{All-map}
use Rattle.bl_outside.specs.declared.digest.Digest.{Digest}
use Rattle.bl_value.specs.Valid.{IsChange}
use Rattle.bl_value.specs.declared.row.DigestRow.{DigestRow}
use Rattle.bl_files.specs.Codes.{is_row_code}
use Rattle.bl_files.specs.declared.feed.Feed.{Feed}
use Rattle.bl_files.specs.declared.feed_end.FeedEnd.TheVariants as ends
use Rattle.bl_files.specs.declared.log.Log.{Log}
use Rattle.bl_graph.specs.Graph.{Graph}
use Rattle.bl_graph.specs.Replay.{after, fit}
use Rattle.bl_graph.specs.ValidChanges.{HasValidValues}
use Rattle.bl_job.specs.declared.batch_result.BatchResult.{BatchResult}
use Rattle.bl_job.specs.Batches.{Taken, batch, so_far}
use Rattle.bl_job.specs.Batched.{AreProperRows, AreValidRows, CountsRows, NumbersLogs}
use Rattle.bl_job.specs.Joined.{behind}
use Rattle.bl_job.proofs.Fitting.{fit_batch}
use Rattle.bl_job.proofs.Sound.{counts_batch, sound_batch}
use Rattle.bl_job.proofs.ValidChanges.{valid_changes}
use Rattle.bl_queue.specs.declared.job.Job.{Job}
use Rattle.bl_entry.specs.declared.entry.Entry.{Entry}
use Rattle.bl_entry.specs.declared.entry.Entry.TheVariants.{Batch}
use Rattle.bl_entry.specs.Encoding.{entry_bytes}
use Rattle.bl_world.specs.Following.{AreCountsOf, HasMany, IsMade}
use Rattle.bl_world.specs.Makings.{IsRowsEntry, digest_behind}
use Rattle.bl_world.specs.Worlds.{AreNext, FitsBatch, FitsEnd, Follows, IsBegun, World}
use Rattle.bl_world.proofs.LongEntries.{long_batch}
use Rattle.bl_world.proofs.OpenFiles.{same_front, same_next}
use Rattle.bl_world.proofs.ToldRows.{IsTold, told_batch}

-- what holds of what rows came to
module _ (jobs : List Job) (graph next : Graph) (number feed : ℕ) (rows : List DigestRow) (made : BatchResult) (is : IsMade jobs graph number feed rows next made) where
  abbrev all : Taken
  all = batch is.it.request graph rows

  made_is : made ≡ all.result
  made_is = ap (λ (t : Taken). t.result) is.batch

  pub made_counts : CountsRows rows made
  made_counts = subst (CountsRows rows) (sym made_is) (counts_batch is.it.request graph rows)

  pub made_logs : NumbersLogs is.it.request.fail_on_error made
  made_logs = subst (NumbersLogs is.it.request.fail_on_error) (sym made_is) (sound_batch is.it.request graph rows).logs

  pub made_replays : after graph made.changes ≡ next
  made_replays = ap (λ (m : BatchResult). after graph m.changes) made_is ∙ (sound_batch is.it.request graph rows).replays ∙ sym (ap (λ (t : Taken). t.graph) is.batch)

  pub made_fits : AreProperRows rows → fit graph made.changes ≡ true
  made_fits proper = ap (λ (m : BatchResult). fit graph m.changes) made_is ∙ (fit_batch is.it.request graph rows proper).fits

  pub made_valid : AreValidRows rows → HasValidValues graph → All IsChange made.changes
  made_valid valid values = subst (λ (m : BatchResult). All IsChange m.changes) (sym made_is) (valid_changes is.it.request graph rows valid values).changes

  pub made_told : AreValidRows rows → IsTold (so_far next made)
  made_told valid = subst IsTold (sym is.batch) (told_batch is.it.request graph rows valid)

  pub made_are : AreCountsOf rows made
  made_are = record { counts = made_counts; within = λ k d below. (made_logs.within k d below).1 }

  -- no more rows are taken than there are
  pub made_few : made.rows ≤ length rows
  made_few = by made.stop refl made_counts.next made_counts.there where
    by : (o : Option Log) → made.stop ≡ o → IfSome o (λ log. log.number ≡ made.rows + 1) → IfSome o (λ log. log.number ≤ length rows) → made.rows ≤ length rows
    by None stop at there = omega (arith, made_counts.whole stop)
    by (Some log) stop at there = omega (arith, at, there)

-- ---- the logs, counted from the first record of the file

rising_behind : (from : ℕ) (logs : List Log) → AllPairs (λ a b. a.number < b.number) logs → AllPairs (λ a b. a.number < b.number) (map (behind from) logs)
rising_behind from logs rise i j d less below =
    let within : j < length logs = omega (arith, length-map logs (behind from)) in
    let one : get_or (map (behind from) logs) i d ≡ behind from (get_or logs i d) = get_or-map (behind from) logs i d d (omega arith) in
    let two : get_or (map (behind from) logs) j d ≡ behind from (get_or logs j d) = get_or-map (behind from) logs j d d within in
    omega (arith, ap (λ (l : Log). l.number) one, ap (λ (l : Log). l.number) two, rise i j d less within)

no_logs : (from : ℕ) (logs : List Log) → logs ≡ [] → map (behind from) logs ≡ []
no_logs from logs none = ap (map (behind from)) none

true_by : (b : Bool) → (b ≡ false → ⊥) → b ≡ true
true_by true h = refl
true_by false h = absurd (h refl)

-- ---- the entry

module _ (world : World) (moment number feed from : ℕ) (rows : List DigestRow) (made : BatchResult) (next : Graph) (it : Job) (of : Feed)
    (front : AreNext world.kept.jobs number feed it of) (from_is : from ≡ of.taken) (is : IsMade world.kept.jobs world.graph number feed rows next made)
    (some : 1 ≤ length rows) (few : length rows ≤ 1000) (room : from + length rows < 2 ^ 48) (valid : AreValidRows rows) (proper : AreProperRows rows) (later : world.moment ≤ moment) where
  it_is : is.it ≡ it
  it_is = same_front world.kept.jobs number feed is.it it is.of of is.front front

  of_is : is.of ≡ of
  of_is = same_next world.kept.jobs number feed is.it it is.of of is.front front

  logs_are : NumbersLogs it.request.fail_on_error made
  logs_are = subst (λ (j : Job). NumbersLogs j.request.fail_on_error made) it_is (made_logs world.kept.jobs world.graph next number feed rows made is)

  told : IsTold (so_far next made)
  told = made_told world.kept.jobs world.graph next number feed rows made is valid

  counts : CountsRows rows made
  counts = made_counts world.kept.jobs world.graph next number feed rows made is

  within_rows : made.rows ≤ length rows
  within_rows = made_few world.kept.jobs world.graph next number feed rows made is

  batch_fits : made.rows ≢ 0 → FitsBatch world.kept world.graph number feed of.taken made.rows made.duplicates (map (behind of.taken) made.logs) made.changes
  batch_fits taken = record {
    it = it;
    of = of;
    next = front;
    from_is = refl;
    some = omega (arith, taken);
    few = omega (arith, within_rows);
    room = omega (arith, within_rows, from_is);
    among = omega (arith, length-map made.logs (behind of.taken), counts.among);
    codes = All-map (λ log. is_row_code log.code ≡ true) (behind of.taken) made.logs told.codes;
    rise = rising_behind of.taken made.logs logs_are.rise;
    within = All-map (λ log. (of.taken < log.number) × (log.number ≤ of.taken + made.rows)) (behind of.taken) made.logs (λ k d below. (omega (arith, (logs_are.within k d below).0), omega (arith, (logs_are.within k d below).1)));
    none = λ fails. no_logs of.taken made.logs (logs_are.none fails);
    fit = made_fits world.kept.jobs world.graph next number feed rows made is proper;
  }

  end_fits : made.rows ≡ 0 → (log : Log) → made.stop ≡ Some log → FitsEnd world.kept number feed (ends.Stopped (behind of.taken log))
  end_fits none log stop = record {
    it = it;
    of = of;
    next = front;
    stops = (
      true_by it.request.fail_on_error (λ goes. stopped_not (logs_are.unstopped goes)),
      subst (λ (o : Option Log). IfSome o (λ log. is_row_code log.code ≡ true)) stop told.stop,
      omega (arith, subst (λ (o : Option Log). IfSome o (λ log. log.number ≡ made.rows + 1)) stop counts.next, none),
    );
  } where
    stopped_not : made.stop ≡ None → ⊥
    stopped_not goes = let e = sym stop ∙ goes in absurd (cc)

  pub rows_begin : (entry : Entry) → IsRowsEntry moment number feed of rows made entry → IsBegun world entry (record world { graph = next })
  rows_begin entry (inl taken) =
      let replays : next ≡ after world.graph made.changes = sym (made_replays world.kept.jobs world.graph next number feed rows made is) in
      subst (λ (e : Entry). IsBegun world e (record world { graph = next })) (sym taken.1) (record { later = later; fits = batch_fits taken.0 }, ap (λ g. record world { graph = g }) replays)
  rows_begin entry (inr stopped) =
      let none : made.changes ≡ [] = told.none stopped.0 in
      let replays : next ≡ world.graph = sym (made_replays world.kept.jobs world.graph next number feed rows made is) ∙ ap (after world.graph) none in
      subst (λ (e : Entry). IsBegun world e (record world { graph = next })) (sym stopped.3) (record { later = later; fits = end_fits stopped.0 stopped.1 stopped.2 }, ap (λ g. record world { graph = g }) replays)

  -- the rows entry of the definitions
  pub rows_entry_is : (entry : Entry) → IsRowsEntry moment number feed of rows made entry → IsRowsEntry moment number feed of rows (batch it.request world.graph rows).result entry
  rows_entry_is entry h = subst (λ (m : BatchResult). IsRowsEntry moment number feed of rows m entry) (ap (λ (t : Taken). t.result) is.batch ∙ ap (λ (j : Job). (batch j.request world.graph rows).result) it_is) h

  -- Of so many changes the entry may follow, and is too long.
  pub long_rows : HasMany made → (entry : Entry) × ((it : Job) × (of : Feed) × AreNext world.kept.jobs number feed it of × IsRowsEntry moment number feed of rows (batch it.request world.graph rows).result entry) × Follows world entry × (2 ^ 32 ≤ length (entry_bytes entry))
  long_rows has =
      let logs : List Log = map (behind of.taken) made.logs in
      let digest : Digest = digest_behind of.digest (take made.rows rows) in
      let entry : Entry = Batch moment number feed of.taken made.rows digest made.duplicates logs made.changes in
      let h : IsRowsEntry moment number feed of rows made entry = inl (has.some, refl) in
      (entry, (it, of, front, rows_entry_is entry h), (rows_begin entry h).0, omega (arith, has.many, long_batch moment number feed of.taken made.rows digest made.duplicates logs made.changes))
