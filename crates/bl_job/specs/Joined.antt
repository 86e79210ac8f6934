-- Two batches, one after the other.
use Rattle.std.specs.Prelude.{◌≡◌, ℕ, ◌+◌, List, ◌++◌, map, None}
use Rattle.std.specs.Option.{option_map}
use Rattle.bl_value.specs.declared.row.DigestRow.{DigestRow}
use Rattle.bl_files.specs.declared.log.Log.{Log}
use Rattle.bl_files.specs.declared.load_request.LoadRequest.{LoadRequest}
use Rattle.bl_graph.specs.Graph.{Graph}
use Rattle.bl_job.specs.declared.batch_result.BatchResult.{BatchResult}
use Rattle.bl_job.specs.Batches.{Taken, batch, so_far}

-- a log behind so many rows
abbrev pub behind : ℕ → Log → Log
behind rows log = record log { number = rows + log.number }

-- what two batches come to together: the second counts on from the first
abbrev pub joined : BatchResult → BatchResult → BatchResult
joined first second = record {
  rows = first.rows + second.rows;
  duplicates = first.duplicates + second.duplicates;
  logs = first.logs ++ map (behind first.rows) second.logs;
  changes = first.changes ++ second.changes;
  stop = option_map (behind first.rows) second.stop;
}

-- the second batch starts from the graph of the first
abbrev pub one_then_other : LoadRequest → Taken → List DigestRow → Taken
one_then_other request first more =
    so_far (batch request first.graph more).graph
    (joined first.result (batch request first.graph more).result)

-- Where the first of two batches isn't stopped, both are one batch of all their rows.
abbrev pub TwoBatchesAreOne : Type 0
TwoBatchesAreOne = (request : LoadRequest) (graph : Graph) (rows more : List DigestRow) →
    (batch request graph rows).result.stop ≡ None →
    batch request graph (rows ++ more) ≡ one_then_other request (batch request graph rows) more
