-- Two batches, one after the other, are one.
use Rattle.std.specs.Prelude.{◌≡◌, ℕ, ◌+◌, Bool, true, false, if◌then◌else◌, List, [], ◌∷◌, ◌++◌, map, Some, None, is_some, refl}
use Rattle.std.specs.declared.option.Option.{Option}
use Rattle.std.specs.Option.{option_map}
use Rattle.std.proofs.Common.{sym, ap, ◌∙◌, append_assoc, arith}
use Rattle.std.proofs.lemmas.List.{append-nil, map-append}
use Rattle.bl_value.specs.declared.log_code.LogCode.{LogCode}
use Rattle.bl_value.specs.declared.row.DigestRow.{DigestRow}
use Rattle.bl_files.specs.declared.log.Log.{Log}
use Rattle.bl_files.specs.declared.load_request.LoadRequest.{LoadRequest}
use Rattle.bl_graph.specs.Graph.{Graph}
use Rattle.bl_graph.specs.Replay.{after}
use Rattle.bl_graph.specs.Admission.{admit}
use Rattle.bl_graph.specs.declared.verdict.Verdict.{Verdict}
use Rattle.bl_graph.specs.declared.verdict.Verdict.TheVariants.{Changes, Duplicate, Refused}
use Rattle.bl_job.specs.declared.batch_result.BatchResult.{BatchResult}
use Rattle.bl_job.specs.Batches.{Taken, batch, nothing_yet, row_log, so_far, take_rows, with_row, with_verdict}
use Rattle.bl_job.specs.Joined.{TwoBatchesAreOne, behind, joined}
use Rattle.bl_job.proofs.TakenRows.{take_none}

then_more : (request : LoadRequest) (more : List DigestRow) (taken whole part : Taken) (stopped : Bool) → (stopped ≡ true → taken ≡ take_rows request taken more) → whole ≡ take_rows request part more →
    (if stopped then taken else whole) ≡ take_rows request (if stopped then taken else part) more
then_more request more taken whole part true stop go = stop refl
then_more request more taken whole part false stop go = go

-- rows, and then more rows
rows_then_more : (request : LoadRequest) (rows more : List DigestRow) (taken : Taken) → take_rows request taken (rows ++ more) ≡ take_rows request (take_rows request taken rows) more
rows_then_more request [] more taken = refl
rows_then_more request (row ∷ rows) more taken =
    let now : Taken = with_row request taken row.row in
    then_more request more taken (take_rows request now (rows ++ more)) (take_rows request now rows) (is_some taken.result.stop) (λ stopped. sym (take_none request taken more stopped)) (rows_then_more request rows more now)

-- a batch that counts on from an earlier one
abbrev pub counted_on : BatchResult → Taken → Taken
counted_on first taken = so_far taken.graph (joined first taken.result)

same_parts : (graph : Graph) (one other : BatchResult) → one.rows ≡ other.rows → one.duplicates ≡ other.duplicates → one.logs ≡ other.logs → one.changes ≡ other.changes → one.stop ≡ other.stop → so_far graph one ≡ so_far graph other
same_parts graph one other rows duplicates logs changes stop = λ i. record { graph = graph; result = record { rows = rows i; duplicates = duplicates i; logs = logs i; changes = changes i; stop = stop i } }

log_behind : (before rows : ℕ) (code : LogCode) (column : ℕ) → row_log (before + rows + 1) code column ≡ behind before (row_log (rows + 1) code column)
log_behind before rows code column = ap (λ number. row_log number code column) (omega arith)

logs_behind : (before : ℕ) (first logs : List Log) (log : Log) → (first ++ map (behind before) logs) ++ behind before log ∷ [] ≡ first ++ map (behind before) (logs ++ log ∷ [])
logs_behind before first logs log =
    append_assoc first (map (behind before) logs) (behind before log ∷ []) ∙ ap (λ them. first ++ them) (sym (map-append (behind before) logs (log ∷ [])))

-- a verdict adds the same, wherever the counts start
on_verdict : (first : BatchResult) (fail_on_error : Bool) (taken : Taken) (verdict : Verdict) → with_verdict fail_on_error (counted_on first taken) verdict ≡ counted_on first (with_verdict fail_on_error taken verdict)
on_verdict first fail_on_error taken (Changes changes) =
    same_parts (after taken.graph changes) (with_verdict fail_on_error (counted_on first taken) (Changes changes)).result (counted_on first (with_verdict fail_on_error taken (Changes changes))).result
    (omega arith) refl refl (append_assoc first.changes taken.result.changes changes) refl
on_verdict first fail_on_error taken Duplicate =
    same_parts taken.graph (with_verdict fail_on_error (counted_on first taken) Duplicate).result (counted_on first (with_verdict fail_on_error taken Duplicate)).result
    (omega arith) (omega arith) refl refl refl
on_verdict first true taken (Refused code column) =
    same_parts taken.graph (with_verdict true (counted_on first taken) (Refused code column)).result (counted_on first (with_verdict true taken (Refused code column))).result
    refl refl refl refl (ap (λ log. Some log) (log_behind first.rows taken.result.rows code column))
on_verdict first false taken (Refused code column) =
    same_parts taken.graph (with_verdict false (counted_on first taken) (Refused code column)).result (counted_on first (with_verdict false taken (Refused code column))).result
    (omega arith) refl
    (ap (λ log. (first.logs ++ map (behind first.rows) taken.result.logs) ++ log ∷ []) (log_behind first.rows taken.result.rows code column)
    ∙ logs_behind first.rows first.logs taken.result.logs (row_log (taken.result.rows + 1) code column)) refl refl

same_stop : (before : ℕ) (stop : Option Log) → is_some (option_map (behind before) stop) ≡ is_some stop
same_stop before None = refl
same_stop before (Some log) = refl

either : (first : BatchResult) (taken whole part : Taken) (stopped : Bool) → whole ≡ counted_on first part → (if stopped then counted_on first taken else whole) ≡ counted_on first (if stopped then taken else part)
either first taken whole part true h = refl
either first taken whole part false h = h

-- so do rows
on_rows : (request : LoadRequest) (first : BatchResult) (rows : List DigestRow) (taken : Taken) → take_rows request (counted_on first taken) rows ≡ counted_on first (take_rows request taken rows)
on_rows request first [] taken = refl
on_rows request first (row ∷ rows) taken =
    let now : Taken = with_row request taken row.row in
    let whole : Taken = take_rows request (with_row request (counted_on first taken) row.row) rows in
    ap (λ b. if b then counted_on first taken else whole) (same_stop first.rows taken.result.stop)
    ∙ either first taken whole (take_rows request now rows) (is_some taken.result.stop)
    (ap (λ taken. take_rows request taken rows) (on_verdict first request.fail_on_error taken (admit taken.graph request.update_single row.row)) ∙ on_rows request first rows now)

-- nothing, counted on from a batch that isn't stopped, is that batch
nothing_more : (first : Taken) → first.result.stop ≡ None → counted_on first.result (so_far first.graph nothing_yet) ≡ first
nothing_more first going =
    same_parts first.graph (joined first.result nothing_yet) first.result (omega arith) (omega arith) (append-nil first.result.logs) (append-nil first.result.changes) (sym going)

pub two_batches : TwoBatchesAreOne
two_batches request graph rows more going =
    let first : Taken = batch request graph rows in
    rows_then_more request rows more (so_far graph nothing_yet) ∙ ap (λ taken. take_rows request taken more) (sym (nothing_more first going)) ∙ on_rows request first.result more (so_far first.graph nothing_yet)
