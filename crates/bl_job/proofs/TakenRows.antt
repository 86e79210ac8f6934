-- A batch, row by row.
use Rattle.std.specs.Prelude.{◌≡◌, ℕ, ◌+◌, ◌<◌, Bool, true, false, if◌then◌else◌, List, [], ◌∷◌, ◌++◌, drop, get_or, length, Some, None, is_some, refl}
use Rattle.std.specs.declared.option.Option.{Option}
use Rattle.std.specs.List.{AllByRecursion}
use Rattle.std.proofs.Common.{sym, ap, ◌∙◌, append_assoc}
use Rattle.std.proofs.lemmas.Bool.{false≢true}
use Rattle.std.proofs.lemmas.List.{append-nil, drop_more}
use Rattle.bl_value.specs.declared.change.Change.{Change}
use Rattle.bl_value.specs.declared.row.Row.{Row}
use Rattle.bl_value.specs.declared.row.DigestRow.{DigestRow}
use Rattle.bl_files.specs.declared.log.Log.{Log}
use Rattle.bl_files.specs.declared.load_request.LoadRequest.{LoadRequest}
use Rattle.bl_graph.specs.Graph.{Graph}
use Rattle.bl_graph.specs.Replay.{IsAfterFront, after}
use Rattle.bl_graph.specs.Admission.{admit}
use Rattle.bl_graph.specs.declared.verdict.Verdict.{Verdict}
use Rattle.bl_graph.specs.declared.verdict.Verdict.TheVariants.{Changes, Duplicate, Refused}
use Rattle.bl_job.specs.Batches.{Taken, take_rows, verdict_changes, with_row, with_verdict}
use Rattle.bl_job.proofs.Fronts.{front_of_all}

pub no_stop : (stop : Option Log) → is_some stop ≡ false → stop ≡ None
no_stop None h = refl
no_stop (Some log) h = absurd (false≢true (sym h))

-- where nothing has stopped the batch the first row is taken
pub take_first : (request : LoadRequest) (taken : Taken) (row : DigestRow) (rows : List DigestRow) → taken.result.stop ≡ None → take_rows request taken (row ∷ rows) ≡ take_rows request (with_row request taken row.row) rows
take_first request taken row rows going = ap (λ stop. if is_some stop then taken else take_rows request (with_row request taken row.row) rows) going

-- what is taken, and then the rows that are left, is all, also with one row more
pub take_next : (request : LoadRequest) (taken all : Taken) (rows : List DigestRow) (i : ℕ) (row : DigestRow) → taken.result.stop ≡ None → i < length rows → row ≡ get_or rows i row → take_rows request taken (drop i rows) ≡ all →
    take_rows request (with_row request taken row.row) (drop (i + 1) rows) ≡ all
take_next request taken all rows i row going within is before =
    sym (ap (take_rows request taken) (drop_more rows i row within ∙ ap (λ first. first ∷ drop (i + 1) rows) (sym is)) ∙ take_first request taken row (drop (i + 1) rows) going) ∙ before

-- behind a stop nothing is taken
pub take_none : (request : LoadRequest) (taken : Taken) (rows : List DigestRow) → is_some taken.result.stop ≡ true → take_rows request taken rows ≡ taken
take_none request taken [] stopped = refl
take_none request taken (row ∷ rows) stopped = ap (λ b. if b then taken else take_rows request (with_row request taken row.row) rows) stopped

-- by whether something has stopped the batch
pub at_stop : (P : Taken → Type 0) (taken more : Taken) (stopped : Bool) → (stopped ≡ true → P taken) → (stopped ≡ false → P more) → P (if stopped then taken else more)
at_stop P taken more true stop go = stop refl
at_stop P taken more false stop go = go refl

-- what each row keeps, the batch keeps
pub rows_keep : (request : LoadRequest) (Q : Row → Type 0) (P : Taken → Type 0) → ((taken : Taken) (row : Row) → taken.result.stop ≡ None → Q row → P taken → P (with_row request taken row)) → (rows : List DigestRow) (taken : Taken) → AllByRecursion (λ row. Q row.row) rows → P taken → P (take_rows request taken rows)
rows_keep request Q P step [] taken all h = h
rows_keep request Q P step (row ∷ rows) taken all h =
    at_stop P taken (take_rows request (with_row request taken row.row) rows) (is_some taken.result.stop) (λ stopped. h)
    (λ going. rows_keep request Q P step rows (with_row request taken row.row) all.1 (step taken row.row (no_stop taken.result.stop going) all.0 h))

-- a verdict's changes come behind the others
pub verdict_adds : (fail_on_error : Bool) (taken : Taken) (verdict : Verdict) → (with_verdict fail_on_error taken verdict).result.changes ≡ taken.result.changes ++ verdict_changes verdict
verdict_adds fail_on_error taken (Changes changes) = refl
verdict_adds fail_on_error taken Duplicate = sym (append-nil taken.result.changes)
verdict_adds true taken (Refused code column) = sym (append-nil taken.result.changes)
verdict_adds false taken (Refused code column) = sym (append-nil taken.result.changes)

-- there are these changes, and maybe more
pub record GoesOn (changes all : List Change) : Type 0 where
  pub more : List Change
  pub is : all ≡ changes ++ more

-- all changes so far stay
pub changes_go_on : (request : LoadRequest) (rows : List DigestRow) (taken : Taken) → GoesOn taken.result.changes (take_rows request taken rows).result.changes
changes_go_on request [] taken = record { more = []; is = sym (append-nil taken.result.changes) }
changes_go_on request (row ∷ rows) taken =
    at_stop (λ more. GoesOn taken.result.changes more.result.changes) taken (take_rows request (with_row request taken row.row) rows) (is_some taken.result.stop)
    (λ stopped. record { more = []; is = sym (append-nil taken.result.changes) })
    (λ going.
    let now : Taken = with_row request taken row.row in
    let verdict : Verdict = admit taken.graph request.update_single row.row in
    let rest : GoesOn now.result.changes (take_rows request now rows).result.changes = changes_go_on request rows now in
    record {
      more = verdict_changes verdict ++ rest.more;
      is = rest.is ∙ ap (λ them. them ++ rest.more) (verdict_adds request.fail_on_error taken verdict) ∙ append_assoc taken.result.changes (verdict_changes verdict) rest.more;
    })

-- where a row is taken in part, a front of all changes is applied
pub front_of_rows : (request : LoadRequest) (start next : Graph) (taken all : Taken) (row : Row) (rows : List DigestRow) → after start taken.result.changes ≡ taken.graph → take_rows request (with_row request taken row) rows ≡ all → IsAfterFront taken.graph (verdict_changes (admit taken.graph request.update_single row)) next →
    IsAfterFront start all.result.changes next
front_of_rows request start next taken all row rows replays is front =
    let verdict : Verdict = admit taken.graph request.update_single row in
    let on : GoesOn (with_row request taken row).result.changes (take_rows request (with_row request taken row) rows).result.changes = changes_go_on request rows (with_row request taken row) in
    front_of_all start taken.graph next taken.result.changes (verdict_changes verdict) on.more all.result.changes replays
    (ap (λ (whole : Taken). whole.result.changes) (sym is) ∙ on.is ∙ ap (λ them. them ++ on.more) (verdict_adds request.fail_on_error taken verdict)) front
