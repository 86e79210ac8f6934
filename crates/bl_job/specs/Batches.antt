-- What a batch of rows does: one fold of admission, up to the row that stops it.
use Rattle.std.specs.Prelude.{ℕ, ◌+◌, Bool, true, false, if◌then◌else◌, List, [], ◌∷◌, ◌++◌, Some, None, is_some}
use Rattle.bl_value.specs.declared.change.Change.{Change}
use Rattle.bl_value.specs.declared.log_code.LogCode.{LogCode}
use Rattle.bl_value.specs.declared.row.Row.{Row}
use Rattle.bl_value.specs.declared.row.DigestRow.{DigestRow}
use Rattle.bl_files.specs.declared.log.Log.{Log}
use Rattle.bl_files.specs.declared.load_request.LoadRequest.{LoadRequest}
use Rattle.bl_graph.specs.Graph.{Graph}
use Rattle.bl_graph.specs.Replay.{after}
use Rattle.bl_graph.specs.Admission.{admit}
use Rattle.bl_graph.specs.declared.verdict.Verdict.{Verdict}
use Rattle.bl_graph.specs.declared.verdict.Verdict.TheVariants.{Changes, Duplicate, Refused}
use Rattle.bl_job.specs.declared.batch_result.BatchResult.{BatchResult}

-- the graph so far, and what was counted
pub record Taken : Type 0 where
  pub graph : Graph
  pub result : BatchResult

abbrev pub so_far : Graph → BatchResult → Taken
so_far graph result = record { graph = graph; result = result }

abbrev pub nothing_yet : BatchResult
nothing_yet = record { rows = 0; duplicates = 0; logs = []; changes = []; stop = None }

-- the log of a refused row, by its number from 1 within the rows
abbrev pub row_log : ℕ → LogCode → ℕ → Log
row_log number code column = record { code = code; number = number; column = column }

-- A refused row is counted and logged, or it stops the batch and isn't counted.
abbrev pub with_refusal : Bool → BatchResult → LogCode → ℕ → BatchResult
with_refusal true made code column =
    record made { stop = Some (row_log (made.rows + 1) code column) }
with_refusal false made code column =
    record made {
      rows = made.rows + 1;
      logs = made.logs ++ row_log (made.rows + 1) code column ∷ [];
    }

-- what the verdict on the next row adds
abbrev pub with_verdict : Bool → Taken → Verdict → Taken
with_verdict fail_on_error taken (Changes changes) =
    record {
      graph = after taken.graph changes;
      result =
          record taken.result {
            rows = taken.result.rows + 1;
            changes = taken.result.changes ++ changes;
          };
    }
with_verdict fail_on_error taken Duplicate =
    record {
      graph = taken.graph;
      result =
          record taken.result {
            rows = taken.result.rows + 1;
            duplicates = taken.result.duplicates + 1;
          };
    }
with_verdict fail_on_error taken (Refused code column) =
    record { graph = taken.graph; result = with_refusal fail_on_error taken.result code column }

-- the next row, admitted into the graph so far
abbrev pub with_row : LoadRequest → Taken → Row → Taken
with_row request taken row = with_verdict request.fail_on_error taken
    (admit taken.graph request.update_single row)

-- the rows, one after another; behind the one that stops nothing is taken
abbrev pub take_rows : LoadRequest → Taken → List DigestRow → Taken
take_rows request taken [] = taken
take_rows request taken (row ∷ rows) =
    if is_some taken.result.stop then taken
    else take_rows request (with_row request taken row.row) rows

abbrev pub batch : LoadRequest → Graph → List DigestRow → Taken
batch request graph rows = take_rows request (so_far graph nothing_yet) rows

-- the changes of a row, if there are any
abbrev pub verdict_changes : Verdict → List Change
verdict_changes (Changes changes) = changes
verdict_changes Duplicate = []
verdict_changes (Refused code column) = []
