-- The changes of valid rows are valid, and keep the values of a graph valid.
use Rattle.std.specs.Prelude.{◌≡◌, Bool, true, false, List, take, IfOk, OnErr}
use Rattle.std.specs.declared.result.Result.{Result}
use Rattle.std.specs.declared.result.Result.TheVariants.{Ok, Err}
use Rattle.std.specs.List.{All}
use Rattle.std.proofs.Common.{sym, ap, subst}
use Rattle.std.proofs.lemmas.List.Elements.{All-append, All-nil, All-take, recursion_from_All}
use Rattle.bl_outside.specs.declared.refusals.NoMemory.{NoMemory}
use Rattle.bl_value.specs.Valid.{IsChange}
use Rattle.bl_value.specs.ValidRows.{IsRow}
use Rattle.bl_value.specs.declared.row.DigestRow.{DigestRow}
use Rattle.bl_files.specs.declared.load_request.LoadRequest.{LoadRequest}
use Rattle.bl_graph.specs.Graph.{Graph}
use Rattle.bl_graph.specs.Replay.{IsAfterFront}
use Rattle.bl_graph.specs.Admission.{admit}
use Rattle.bl_graph.specs.ValidChanges.{AreValidChanges, HasValidValues}
use Rattle.bl_graph.specs.declared.verdict.Verdict.{Verdict}
use Rattle.bl_graph.specs.declared.verdict.Verdict.TheVariants.{Changes, Duplicate, Refused}
use Rattle.bl_graph.proofs.ValidChanges.{rows_give_valid_changes, values_after}
use Rattle.bl_job.specs.declared.batch_result.BatchResult.{BatchResult}
use Rattle.bl_job.specs.Batches.{Taken, batch, nothing_yet, so_far, with_verdict}
use Rattle.bl_job.specs.Batched.{AreValidRows}
use Rattle.bl_job.proofs.TakenRows.{rows_keep}

-- the changes so far are valid, and so are the values of the graph
pub record IsInRange (taken : Taken) : Type 0 where
  pub changes : All IsChange taken.result.changes
  pub values : HasValidValues taken.graph

in_range_more : (fail_on_error : Bool) (taken : Taken) (verdict : Verdict) → AreValidChanges verdict → IsInRange taken → IsInRange (with_verdict fail_on_error taken verdict)
in_range_more fail_on_error taken (Changes changes) valid so = record {
  changes = All-append IsChange taken.result.changes changes so.changes valid;
  values = values_after taken.graph changes so.values valid;
}
in_range_more fail_on_error taken Duplicate valid so = record { changes = so.changes; values = so.values }
in_range_more true taken (Refused code column) valid so = record { changes = so.changes; values = so.values }
in_range_more false taken (Refused code column) valid so = record { changes = so.changes; values = so.values }

pub valid_changes : (request : LoadRequest) (start : Graph) (rows : List DigestRow) → AreValidRows rows → HasValidValues start → IsInRange (batch request start rows)
valid_changes request start rows are values =
    rows_keep request IsRow IsInRange
    (λ taken row going is so. in_range_more request.fail_on_error taken (admit taken.graph request.update_single row) (rows_give_valid_changes taken.graph request.update_single row is so.values) so)
    rows (so_far start nothing_yet) (recursion_from_All (λ row. IsRow row.row) rows are) (record { changes = All-nil IsChange; values = values })

-- The values of a graph stay valid, whether memory sufficed or not.
pub valid_values : (request : LoadRequest) (start next : Graph) (rows : List DigestRow) (result : Result BatchResult NoMemory) → IfOk result (λ made. so_far next made ≡ batch request start rows) → OnErr result (IsAfterFront start (batch request start rows).result.changes next) →
    AreValidRows rows → HasValidValues start → HasValidValues next
valid_values request start next rows (Ok made) is front are values = subst HasValidValues (sym (ap (λ (taken : Taken). taken.graph) is)) (valid_changes request start rows are values).values
valid_values request start next rows (Err fault) is front are values =
    let all = (batch request start rows).result.changes in
    subst HasValidValues (sym front.is) (values_after start (take front.count all) values (All-take IsChange front.count all (valid_changes request start rows are values).changes))
