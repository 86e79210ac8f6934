-- The changes of proper rows fit, and keep a graph valid.
use Rattle.std.specs.Prelude.{◌≡◌, ℕ, zero, suc, Bool, true, false, ◌&&◌, List, [], ◌∷◌, take, IfOk, OnErr, refl}
use Rattle.std.specs.declared.result.Result.{Result}
use Rattle.std.specs.declared.result.Result.TheVariants.{Ok, Err}
use Rattle.std.specs.List.{AllByRecursion}
use Rattle.std.proofs.Common.{sym, ap, subst, ◌∙◌}
use Rattle.std.proofs.lemmas.List.Elements.{All-head, All-tail}
use Rattle.bl_outside.specs.declared.refusals.NoMemory.{NoMemory}
use Rattle.bl_value.specs.declared.change.Change.{Change}
use Rattle.bl_value.specs.declared.row.DigestRow.{DigestRow}
use Rattle.bl_files.specs.declared.load_request.LoadRequest.{LoadRequest}
use Rattle.bl_graph.specs.Graph.{Graph}
use Rattle.bl_graph.specs.Replay.{IsAfterFront, after, after_one, fit, fits}
use Rattle.bl_graph.specs.Admission.{admit}
use Rattle.bl_graph.specs.Admitted.{DoesFit, IsProperRow}
use Rattle.bl_graph.specs.ValidGraph.{IsValidGraph}
use Rattle.bl_graph.specs.declared.verdict.Verdict.{Verdict}
use Rattle.bl_graph.specs.declared.verdict.Verdict.TheVariants.{Changes, Duplicate, Refused}
use Rattle.bl_graph.proofs.Admitted.{admitted_fits}
use Rattle.bl_graph.proofs.Fitting.{fit_more, fits_first, fits_later}
use Rattle.bl_graph.proofs.Replayed.{after-append}
use Rattle.bl_graph.proofs.Validity.{valid_after_all}
use Rattle.bl_job.specs.declared.batch_result.BatchResult.{BatchResult}
use Rattle.bl_job.specs.Batches.{Taken, batch, nothing_yet, so_far, with_verdict}
use Rattle.bl_job.specs.Batched.{AreProperRows}
use Rattle.bl_job.proofs.TakenRows.{rows_keep}

both : (a b : Bool) → a ≡ true → b ≡ true → (a && b) ≡ true
both a b one other = ap (λ c. c && b) one ∙ other

-- a front of changes that fit
fit_front : (graph : Graph) (changes : List Change) (count : ℕ) → fit graph changes ≡ true → fit graph (take count changes) ≡ true
fit_front graph changes zero fitting = refl
fit_front graph [] (suc count) fitting = refl
fit_front graph (change ∷ changes) (suc count) fitting =
    let now : Graph = after_one graph change in
    both (fits graph change) (fit now (take count changes)) (fits_first (fits graph change) (fit now changes) fitting) (fit_front now changes count (fits_later (fits graph change) (fit now changes) fitting))

-- the changes so far fit, and give the graph
pub record IsFitting (start : Graph) (taken : Taken) : Type 0 where
  pub fits : fit start taken.result.changes ≡ true
  pub replays : after start taken.result.changes ≡ taken.graph

fitting_more : (start : Graph) (fail_on_error : Bool) (taken : Taken) (verdict : Verdict) → DoesFit taken.graph verdict → IsFitting start taken → IsFitting start (with_verdict fail_on_error taken verdict)
fitting_more start fail_on_error taken (Changes changes) does fitting = record {
  fits = fit_more start taken.result.changes changes fitting.fits (ap (λ graph. fit graph changes) fitting.replays ∙ does);
  replays = after-append start taken.result.changes changes ∙ ap (λ graph. after graph changes) fitting.replays;
}
fitting_more start fail_on_error taken Duplicate does fitting = record { fits = fitting.fits; replays = fitting.replays }
fitting_more start true taken (Refused code column) does fitting = record { fits = fitting.fits; replays = fitting.replays }
fitting_more start false taken (Refused code column) does fitting = record { fits = fitting.fits; replays = fitting.replays }

proper_each : (rows : List DigestRow) → AreProperRows rows → AllByRecursion (λ row. IsProperRow row.row) rows
proper_each [] proper = tt
proper_each (row ∷ rows) proper = (All-head (λ row. IsProperRow row.row) row rows proper, proper_each rows (All-tail (λ row. IsProperRow row.row) row rows proper))

pub fit_batch : (request : LoadRequest) (start : Graph) (rows : List DigestRow) → AreProperRows rows → IsFitting start (batch request start rows)
fit_batch request start rows proper =
    rows_keep request IsProperRow (IsFitting start)
    (λ taken row going is fitting. fitting_more start request.fail_on_error taken (admit taken.graph request.update_single row) (admitted_fits taken.graph request.update_single row is) fitting)
    rows (so_far start nothing_yet) (proper_each rows proper) (record { fits = refl; replays = refl })

-- A valid graph stays valid, whether memory sufficed or not.
pub valid_batch : (request : LoadRequest) (start next : Graph) (rows : List DigestRow) (result : Result BatchResult NoMemory) → IfOk result (λ made. so_far next made ≡ batch request start rows) → OnErr result (IsAfterFront start (batch request start rows).result.changes next) →
    AreProperRows rows → IsValidGraph start → IsValidGraph next
valid_batch request start next rows (Ok made) is front proper valid =
    let fitting : IsFitting start (batch request start rows) = fit_batch request start rows proper in
    subst IsValidGraph (fitting.replays ∙ sym (ap (λ (taken : Taken). taken.graph) is)) (valid_after_all start (batch request start rows).result.changes valid fitting.fits)
valid_batch request start next rows (Err fault) is front proper valid =
    let fitting : IsFitting start (batch request start rows) = fit_batch request start rows proper in
    subst IsValidGraph (sym front.is) (valid_after_all start (take front.count (batch request start rows).result.changes) valid (fit_front start (batch request start rows).result.changes front.count fitting.fits))
