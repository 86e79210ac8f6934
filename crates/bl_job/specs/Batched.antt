-- What is promised of a batch of rows.
use Rattle.std.specs.Prelude.{◌≡◌, ◌+◌, ◌≤◌, ◌<◌, Bool, true, false, List, [], length, None, IfSome}
use Rattle.std.specs.List.{All, AllPairs}
use Rattle.bl_value.specs.ValidRows.{IsRow}
use Rattle.bl_value.specs.declared.row.DigestRow.{DigestRow}
use Rattle.bl_graph.specs.Admitted.{IsProperRow}
use Rattle.bl_job.specs.declared.batch_result.BatchResult.{BatchResult}

abbrev pub AreProperRows : List DigestRow → Type 0
AreProperRows rows = All (λ row. IsProperRow row.row) rows

abbrev pub AreValidRows : List DigestRow → Type 0
AreValidRows rows = All (λ row. IsRow row.row) rows

-- How the counts of a batch stand to its rows.
pub record CountsRows (rows : List DigestRow) (made : BatchResult) : Type 0 where
  -- duplicates and logged rows together are no more than the rows taken
  pub among : made.duplicates + length made.logs ≤ made.rows
  -- where nothing stopped the batch all rows are taken
  pub whole : made.stop ≡ None → made.rows ≡ length rows
  -- the row that stopped it is the one behind them, and there is one
  pub next : IfSome made.stop (λ log. log.number ≡ made.rows + 1)
  pub there : IfSome made.stop (λ log. log.number ≤ length rows)

-- How the logs of a batch are numbered.
pub record NumbersLogs (fail_on_error : Bool) (made : BatchResult) : Type 0 where
  pub rise : AllPairs (λ earlier later. earlier.number < later.number) made.logs
  pub within : All (λ log. (1 ≤ log.number) × (log.number ≤ made.rows)) made.logs
  -- a refused row is logged, or it stops the batch
  pub none : fail_on_error ≡ true → made.logs ≡ []
  pub unstopped : fail_on_error ≡ false → made.stop ≡ None
