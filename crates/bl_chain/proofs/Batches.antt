-- A batch of rows is a part of the load.
use Rattle.std.specs.Prelude.{◌≡◌, ℕ, zero, suc, ◌+◌, Bool, true, false, if◌then◌else◌, List, [], ◌∷◌, ◌++◌, length, map, count_by, Some, None, is_some, refl}
use Rattle.std.specs.declared.option.Option.{Option}
use Rattle.std.specs.Option.{option_map}
use Rattle.std.proofs.Common.{sym, ap, ◌∙◌, append_assoc, arith}
use Rattle.std.proofs.lemmas.List.{map-append}
use Rattle.std.proofs.lemmas.List.Sums.{sum_by-append}
use Rattle.bl_outside.specs.declared.digest.Digest.{Digest}
use Rattle.bl_value.specs.declared.row.DigestRow.{DigestRow}
use Rattle.bl_files.specs.Codes.{class_of}
use Rattle.bl_files.specs.declared.counts.Counts.{Counts}
use Rattle.bl_files.specs.declared.feed.Feed.{Feed}
use Rattle.bl_files.specs.declared.log.Log.{Log}
use Rattle.bl_files.specs.declared.load_request.LoadRequest.{LoadRequest}
use Rattle.bl_graph.specs.Graph.{Graph}
use Rattle.bl_graph.specs.Admission.{admit}
use Rattle.bl_graph.specs.declared.verdict.Verdict.{Verdict}
use Rattle.bl_graph.specs.declared.verdict.Verdict.TheVariants.{Changes, Duplicate, Refused}
use Rattle.bl_job.specs.Batches.{Taken, batch, nothing_yet, so_far, take_rows, with_row, with_verdict as taken_with}
use Rattle.bl_job.specs.Joined.{behind, one_then_other}
use Rattle.bl_job.proofs.TwoBatches.{two_batches}
use Rattle.bl_queue.specs.Runs.{with_feed}
use Rattle.bl_queue.specs.Rows.{counts_after, is_datatype, is_insert, is_parsing}
use Rattle.bl_world.specs.Makings.{digest_behind}
use Rattle.bl_chain.specs.Loads.{BatchIsPart, Loaded, TwoPartsAreOne, counted, numbered, with_batch, with_line, with_lines, with_verdict}

pub two_parts : TwoPartsAreOne
two_parts request loaded [] second = refl
two_parts request loaded (line ∷ first) second = two_parts request (with_line request loaded line) first second

-- ---- a file that is counted twice

pub feed_twice : (f g : Feed → Feed) (place : ℕ) (feeds : List Feed) → with_feed place g (with_feed place f feeds) ≡ with_feed place (λ feed. g (f feed)) feeds
feed_twice f g zero [] = refl
feed_twice f g (suc place) [] = refl
feed_twice f g zero (feed ∷ feeds) = refl
feed_twice f g (suc place) (feed ∷ feeds) = ap (λ l. feed ∷ l) (feed_twice f g place feeds)

pub feed_same : (f g : Feed → Feed) → ((feed : Feed) → f feed ≡ g feed) → (place : ℕ) (feeds : List Feed) → with_feed place f feeds ≡ with_feed place g feeds
feed_same f g same zero [] = refl
feed_same f g same (suc place) [] = refl
feed_same f g same zero (feed ∷ feeds) = ap (λ x. x ∷ feeds) (same feed)
feed_same f g same (suc place) (feed ∷ feeds) = ap (λ l. feed ∷ l) (feed_same f g same place feeds)

sums : (a b c : ℕ) → a + b + c ≡ a + (b + c)
sums a b c = omega arith

count_twice : (test : Log → Bool) (a : ℕ) (one two : List Log) → a + count_by test one + count_by test two ≡ a + count_by test (one ++ two)
count_twice test a one two = sums a (count_by test one) (count_by test two) ∙ ap (λ n. a + n) (sym (sum_by-append (λ log. if test log then 1 else 0) one two))

counts_twice : (rows more duplicates others : ℕ) (logs later : List Log) (counts : Counts) → counts_after more others later (counts_after rows duplicates logs counts) ≡ counts_after (rows + more) (duplicates + others) (logs ++ later) counts
counts_twice rows more duplicates others logs later counts = λ i. record {
  records = sums counts.records rows more i;
  duplicates = sums counts.duplicates duplicates others i;
  parsing = count_twice (λ log. is_parsing (class_of log.code)) counts.parsing logs later i;
  datatype = count_twice (λ log. is_datatype (class_of log.code)) counts.datatype logs later i;
  insert = count_twice (λ log. is_insert (class_of log.code)) counts.insert logs later i;
}

pub counted_twice : (rows more duplicates others : ℕ) (digest next : Digest) (logs later : List Log) (feed : Feed) → counted more next others later (counted rows digest duplicates logs feed) ≡ counted (rows + more) next (duplicates + others) (logs ++ later) feed
counted_twice rows more duplicates others digest next logs later feed = λ i. record feed {
  taken = sums feed.taken rows more i;
  digest = next;
  counts = counts_twice rows more duplicates others logs later feed.counts i;
  logs = append_assoc feed.logs logs later i;
}

-- ---- one row

pub one_line : (fail : Bool) (loaded : Loaded) (place before : ℕ) (row : DigestRow) (verdict : Verdict) → (taken_with fail (so_far loaded.graph nothing_yet) verdict).result.stop ≡ None
    → with_verdict loaded (record { place = place; number = before + 1; row = row }) verdict ≡ with_batch place before row [] loaded (taken_with fail (so_far loaded.graph nothing_yet) verdict)
one_line fail loaded place before row (Changes changes) goes = refl
one_line fail loaded place before row Duplicate goes = refl
one_line true loaded place before row (Refused code column) goes = absurd (cc)
one_line false loaded place before row (Refused code column) goes = refl

-- ---- rows, one after another

pub goes_so_far : (request : LoadRequest) (taken : Taken) (row : DigestRow) (rows : List DigestRow) → (take_rows request taken (row ∷ rows)).result.stop ≡ None → taken.result.stop ≡ None
goes_so_far request taken row rows h = by taken.result.stop refl where
  by : (o : Option Log) → taken.result.stop ≡ o → taken.result.stop ≡ None
  by None is = is
  by (Some log) is =
      let whole : Taken = take_rows request (with_row request taken row.row) rows in
      let same : (if is_some taken.result.stop then taken else whole) ≡ taken = ap (λ o. if is_some o then taken else whole) is in
      sym (ap (λ (t : Taken). t.result.stop) same) ∙ h

pub none_behind : (before : ℕ) (stop : Option Log) → option_map (behind before) stop ≡ None → stop ≡ None
none_behind before None h = refl
none_behind before (Some log) h = absurd (cc)

behind_twice : (before : ℕ) (logs : List Log) → map (behind (before + 1)) logs ≡ map (behind before) (map (behind 1) logs)
behind_twice before [] = refl
behind_twice before (log ∷ logs) = λ i. (record log { number = sums before 1 log.number i }) ∷ behind_twice before logs i

rows_of_one : (request : LoadRequest) (graph : Graph) (row : DigestRow) → (batch request graph (row ∷ [])).result.stop ≡ None → (batch request graph (row ∷ [])).result.rows ≡ 1
rows_of_one request graph row goes = by request.fail_on_error (admit graph request.update_single row.row) goes where
  by : (fail : Bool) (verdict : Verdict) → (taken_with fail (so_far graph nothing_yet) verdict).result.stop ≡ None → (taken_with fail (so_far graph nothing_yet) verdict).result.rows ≡ 1
  by fail (Changes changes) goes = refl
  by fail Duplicate goes = refl
  by true (Refused code column) goes = absurd (cc)
  by false (Refused code column) goes = refl

pub batch_part : BatchIsPart
batch_part request loaded place before row [] goes = one_line request.fail_on_error loaded place before row (admit loaded.graph request.update_single row.row) goes
batch_part request loaded place before row (next ∷ rows) goes =
    let first : Taken = batch request loaded.graph (row ∷ []) in
    let second : Taken = batch request first.graph (next ∷ rows) in
    let went : first.result.stop ≡ None = goes_so_far request first next rows goes in
    let whole : batch request loaded.graph (row ∷ (next ∷ rows)) ≡ one_then_other request first (next ∷ rows) = two_batches request loaded.graph (row ∷ []) (next ∷ rows) went in
    let going : second.result.stop ≡ None = none_behind first.result.rows second.result.stop (sym (ap (λ (t : Taken). t.result.stop) whole) ∙ goes) in
    let between : Loaded = with_batch place before row [] loaded first in
    let one : with_line request loaded (record { place = place; number = before + 1; row = row }) ≡ between = one_line request.fail_on_error loaded place before row (admit loaded.graph request.update_single row.row) went in
    let single : first.result.rows ≡ 1 = rows_of_one request loaded.graph row went in
    let logs : map (behind before) first.result.logs ++ map (behind (before + 1)) second.result.logs ≡ map (behind before) (first.result.logs ++ map (behind first.result.rows) second.result.logs) =
    ap (λ l. map (behind before) first.result.logs ++ l) (behind_twice before second.result.logs) ∙ sym (map-append (behind before) first.result.logs (map (behind 1) second.result.logs))
    ∙ ap (λ n. map (behind before) (first.result.logs ++ map (behind n) second.result.logs)) (sym single) in
    let count : 1 + length (next ∷ rows) ≡ length (row ∷ (next ∷ rows)) = omega arith in
    ap (λ l. with_lines request l (numbered place (before + 1) (next ∷ rows))) one
    ∙ batch_part request between place (before + 1) next rows going
    ∙ (λ i. record {
      graph = second.graph;
      changes = append_assoc loaded.changes first.result.changes second.result.changes i;
      feeds =
          (feed_twice (counted 1 row.digest first.result.duplicates (map (behind before) first.result.logs)) (counted (length (next ∷ rows)) (digest_behind next.digest rows) second.result.duplicates (map (behind (before + 1)) second.result.logs)) place loaded.feeds
          ∙ feed_same (λ feed. counted (length (next ∷ rows)) (digest_behind next.digest rows) second.result.duplicates (map (behind (before + 1)) second.result.logs) (counted 1 row.digest first.result.duplicates (map (behind before) first.result.logs) feed))
          (counted (1 + length (next ∷ rows)) (digest_behind next.digest rows) (first.result.duplicates + second.result.duplicates) (map (behind before) first.result.logs ++ map (behind (before + 1)) second.result.logs))
          (λ feed. counted_twice 1 (length (next ∷ rows)) first.result.duplicates second.result.duplicates row.digest (digest_behind next.digest rows) (map (behind before) first.result.logs) (map (behind (before + 1)) second.result.logs) feed)
          place loaded.feeds
          ∙ ap (λ n. with_feed place (counted n (digest_behind next.digest rows) (first.result.duplicates + second.result.duplicates) (map (behind before) first.result.logs ++ map (behind (before + 1)) second.result.logs)) loaded.feeds) count
          ∙ ap (λ l. with_feed place (counted (length (row ∷ (next ∷ rows))) (digest_behind next.digest rows) (first.result.duplicates + second.result.duplicates) l) loaded.feeds) logs) i;
    })
    ∙ ap (λ made. with_batch place before row (next ∷ rows) loaded made) (sym whole)
