-- What is told of the rows of a batch: the codes of those that are refused, and that rows change the graph only where they are taken.
use Rattle.std.specs.Prelude.{◌≡◌, ℕ, ◌+◌, Bool, true, false, not, cond, List, [], ◌∷◌, length, is_some, refl, All, IfSome, Some, None}
use Rattle.std.specs.declared.option.Option.{Option}
use Rattle.std.proofs.Common.{◌<◌, arith, get_or, suc, take, zero}
use Rattle.std.proofs.lemmas.Bool.{cond_both}
use Rattle.std.proofs.lemmas.List.Elements.{All-head, All-nil, All-push, All-tail}
use Rattle.bl_outside.specs.declared.digest.Digest.{Digest}
use Rattle.bl_value.specs.ValidRows.{IsRow, IsRecordCode}
use Rattle.bl_value.specs.declared.change.Change.{Change}
use Rattle.bl_value.specs.declared.column.Side.TheVariants as side
use Rattle.bl_value.specs.declared.log_code.LogCode.{LogCode}
use Rattle.bl_value.specs.declared.log_code.LogCode.TheVariants.{ColumnCount, NotUtf8, RecordTooLarge, MissingId, IdTooLong, NotOfType, OutOfRange, TooManyValues, FromMissing, ToMissing, EdgeConflict, SingleConflict, Header, Compressed, ReadFault, FileTooLarge, FeedModified, SourceNotFound, ListFault, TooManyFiles, NoPreviousLoad}
use Rattle.bl_value.specs.declared.row.DigestRow.{DigestRow}
use Rattle.bl_value.specs.declared.row.Property.{Property}
use Rattle.bl_value.specs.declared.row.Row.{Row}
use Rattle.bl_value.specs.declared.row.Row.TheVariants.{Vertex, Edge, Bad}
use Rattle.bl_files.specs.Codes.{is_row_code}
use Rattle.bl_files.specs.declared.load_request.LoadRequest.{LoadRequest}
use Rattle.bl_files.specs.declared.log.Log.{Log}
use Rattle.bl_graph.specs.Graph.{Ends, Graph, edge_of, has_vertex}
use Rattle.bl_graph.specs.Admission.{admit, changed, conflict, edge_refusal, is_edge, unless_conflict, unless_refused}
use Rattle.bl_graph.specs.declared.verdict.Verdict.{Verdict}
use Rattle.bl_graph.specs.declared.verdict.Verdict.TheVariants.{Changes, Duplicate, Refused}
use Rattle.bl_job.specs.Batches.{Taken, batch, nothing_yet, row_log, so_far, take_rows, with_row, with_verdict}
use Rattle.bl_job.specs.Batched.{AreValidRows}
use Rattle.bl_world.specs.Makings.{digest_behind}

-- ---- a refusal has the code of a row

abbrev HasRowCode : Verdict → Type 0
HasRowCode (Changes changes) = Unit {0}
HasRowCode Duplicate = Unit {0}
HasRowCode (Refused code column) = is_row_code code ≡ true

record_code : (code : LogCode) → IsRecordCode code → is_row_code code ≡ true
record_code ColumnCount h = refl
record_code NotUtf8 h = refl
record_code RecordTooLarge h = refl
record_code MissingId h = refl
record_code IdTooLong h = refl
record_code NotOfType h = refl
record_code OutOfRange h = refl
record_code TooManyValues h = refl
record_code FromMissing h = refl
record_code ToMissing h = refl
record_code EdgeConflict h = refl
record_code SingleConflict h = refl
record_code Header h = absurd h
record_code Compressed h = absurd h
record_code ReadFault h = absurd h
record_code FileTooLarge h = absurd h
record_code FeedModified h = absurd h
record_code SourceNotFound h = absurd h
record_code ListFault h = absurd h
record_code TooManyFiles h = absurd h
record_code NoPreviousLoad h = absurd h

changed_code : (changes : List Change) → HasRowCode (changed changes)
changed_code [] = tt
changed_code (change ∷ changes) = tt

conflict_code : (o : Option Property) (changes : List Change) → HasRowCode (unless_conflict o changes)
conflict_code (Some property) changes = refl
conflict_code None changes = changed_code changes

abbrev IsRefusal : Option LogCode → Type 0
IsRefusal None = Unit {0}
IsRefusal (Some code) = is_row_code code ≡ true

refused_code : (o : Option LogCode) (verdict : Verdict) → IsRefusal o → HasRowCode verdict → HasRowCode (unless_refused o verdict)
refused_code None verdict refusal code = code
refused_code (Some c) verdict refusal code = refusal

edge_code : (graph : Graph) (o : Option Ends) (label from to : List ℕ) → IsRefusal (edge_refusal graph o label from to)
edge_code graph (Some ends) label from to = cond_both (is_edge ends label from to) None (Some EdgeConflict) IsRefusal (λ h. tt) (λ h. refl)
edge_code graph None label from to =
    cond_both (not (has_vertex graph from)) (Some FromMissing) (cond (not (has_vertex graph to)) (Some ToMissing) None) IsRefusal (λ h. refl)
    (λ h. cond_both (not (has_vertex graph to)) (Some ToMissing) None IsRefusal (λ k. refl) (λ k. tt))

row_code : (graph : Graph) (update_single : Bool) (row : Row) → IsRow row → HasRowCode (admit graph update_single row)
row_code graph update_single (Vertex id labels properties) is = conflict_code (conflict graph update_single side.Vertex id properties) _
row_code graph update_single (Edge id label from to properties) is =
    refused_code (edge_refusal graph (edge_of graph id) label from to) _ (edge_code graph (edge_of graph id) label from to) (conflict_code (conflict graph update_single side.Edge id properties) _)
row_code graph update_single (Bad code column) is = record_code code is

-- ---- the rows, one after another

pub record IsTold (taken : Taken) : Type 0 where
  pub codes : All (λ log. is_row_code log.code ≡ true) taken.result.logs
  pub stop : IfSome taken.result.stop (λ log. is_row_code log.code ≡ true)
  pub none : taken.result.rows ≡ 0 → taken.result.changes ≡ []

abbrev Coded : Log → Type 0
Coded log = is_row_code log.code ≡ true

told_more : (fail : Bool) (taken : Taken) (verdict : Verdict) → HasRowCode verdict → IsTold taken → IsTold (with_verdict fail taken verdict)
told_more fail taken (Changes changes) code told = record { codes = told.codes; stop = told.stop; none = λ h. absurd (omega arith) }
told_more fail taken Duplicate code told = record { codes = told.codes; stop = told.stop; none = λ h. absurd (omega arith) }
told_more true taken (Refused c column) code told = record { codes = told.codes; stop = code; none = told.none }
told_more false taken (Refused c column) code told =
    record { codes = All-push Coded taken.result.logs (row_log (taken.result.rows + 1) c column) told.codes code; stop = told.stop; none = λ h. absurd (omega arith) }

told_rows : (request : LoadRequest) (rows : List DigestRow) (taken : Taken) → AreValidRows rows → IsTold taken → IsTold (take_rows request taken rows)
told_rows request [] taken are told = told
told_rows request (row ∷ rows) taken are told =
    cond_both (is_some taken.result.stop) taken (take_rows request (with_row request taken row.row) rows) IsTold (λ h. told)
    (λ h. told_rows request rows (with_row request taken row.row) (All-tail (λ (r : DigestRow). IsRow r.row) row rows are)
    (told_more request.fail_on_error taken (admit taken.graph request.update_single row.row) (row_code taken.graph request.update_single row.row (All-head (λ (r : DigestRow). IsRow r.row) row rows are)) told))

pub told_batch : (request : LoadRequest) (graph : Graph) (rows : List DigestRow) → AreValidRows rows → IsTold (batch request graph rows)
told_batch request graph rows are = told_rows request rows (so_far graph nothing_yet) are (record { codes = All-nil Coded; stop = tt; none = λ h. refl })

-- ---- the digest behind rows

pub digest_at : (rows : List DigestRow) (k : ℕ) (before : Digest) (d : DigestRow) → k < length rows → digest_behind before (take (suc k) rows) ≡ (get_or rows k d).digest
digest_at [] k before d within = absurd (omega arith)
digest_at (row ∷ rows) zero before d within = refl
digest_at (row ∷ rows) (suc k) before d within = digest_at rows k row.digest d (omega arith)
