-- What holds of each batch.
use Rattle.std.specs.Prelude.{◌≡◌, ℕ, suc, ◌+◌, ◌≤◌, ◌<◌, Bool, true, false, List, [], ◌∷◌, ◌++◌, length, get_or, None, is_some, IfSome, refl}
use Rattle.std.specs.declared.option.Option.{Option}
use Rattle.std.specs.List.{All, AllByRecursion}
use Rattle.std.proofs.Common.{sym, ap, subst, ◌∙◌, arith, length-append}
use Rattle.std.proofs.lemmas.Bool.{false≢true}
use Rattle.std.proofs.lemmas.List.Elements.{All-nil, All-push}
use Rattle.std.proofs.lemmas.List.Quantifiers.{all_pairs_push}
use Rattle.bl_value.specs.declared.log_code.LogCode.{LogCode}
use Rattle.bl_value.specs.declared.row.Row.{Row}
use Rattle.bl_value.specs.declared.row.DigestRow.{DigestRow}
use Rattle.bl_files.specs.declared.log.Log.{Log}
use Rattle.bl_files.specs.declared.load_request.LoadRequest.{LoadRequest}
use Rattle.bl_graph.specs.Graph.{Graph}
use Rattle.bl_graph.specs.Replay.{after}
use Rattle.bl_graph.specs.Admission.{admit}
use Rattle.bl_graph.specs.declared.verdict.Verdict.{Verdict}
use Rattle.bl_graph.specs.declared.verdict.Verdict.TheVariants.{Changes, Duplicate, Refused}
use Rattle.bl_graph.proofs.Replayed.{after-append}
use Rattle.bl_job.specs.declared.batch_result.BatchResult.{BatchResult}
use Rattle.bl_job.specs.Batches.{Taken, batch, nothing_yet, row_log, so_far, take_rows, with_row, with_verdict}
use Rattle.bl_job.specs.Batched.{CountsRows, NumbersLogs}
use Rattle.bl_job.proofs.TakenRows.{at_stop, no_stop, rows_keep}

abbrev pub IsNumbered : ℕ → Log → Type 0
IsNumbered rows log = (1 ≤ log.number) × (log.number ≤ rows)

abbrev pub IsBefore : Log → Log → Type 0
IsBefore earlier later = earlier.number < later.number

pub record IsSound (start : Graph) (fail_on_error : Bool) (taken : Taken) : Type 0 where
  pub replays : after start taken.result.changes ≡ taken.graph
  pub among : taken.result.duplicates + length taken.result.logs ≤ taken.result.rows
  pub next : IfSome taken.result.stop (λ log. log.number ≡ taken.result.rows + 1)
  pub logs : NumbersLogs fail_on_error taken.result

pub sound_start : (start : Graph) (fail_on_error : Bool) → IsSound start fail_on_error (so_far start nothing_yet)
sound_start start fail_on_error = record {
  replays = refl;
  among = omega arith;
  next = tt;
  logs = record { rise = λ i j d lt within. absurd (omega arith); within = All-nil (IsNumbered 0); none = λ fails. refl; unstopped = λ goes. refl };
}

-- one row more, and the logs as they are
more_rows : (rows : ℕ) (logs : List Log) → All (IsNumbered rows) logs → All (IsNumbered (rows + 1)) logs
more_rows rows logs within = λ k d there.
    let numbered : IsNumbered rows (get_or logs k d) = within k d there in (numbered.0, omega (arith, numbered.1))

without_stop : (rows : ℕ) (stop : Option Log) → stop ≡ None → IfSome stop (λ log. log.number ≡ rows)
without_stop rows stop going = subst (λ stop. IfSome stop (λ log. log.number ≡ rows)) (sym going) tt

sound_logs : (fail_on_error : Bool) (made : BatchResult) (code : LogCode) (column : ℕ) → made.stop ≡ None → fail_on_error ≡ false → NumbersLogs fail_on_error made →
    NumbersLogs fail_on_error (record made { rows = made.rows + 1; logs = made.logs ++ row_log (made.rows + 1) code column ∷ [] })
sound_logs fail_on_error made code column going goes logs = record {
  rise = all_pairs_push IsBefore made.logs (row_log (made.rows + 1) code column) logs.rise
      (λ k d there. let numbered : IsNumbered made.rows (get_or made.logs k d) = logs.within k d there in omega (arith, numbered.1));
  within = All-push (IsNumbered (made.rows + 1)) made.logs (row_log (made.rows + 1) code column) (more_rows made.rows made.logs logs.within) (omega arith, omega arith);
  none = λ fails. absurd (false≢true (sym goes ∙ fails));
  unstopped = λ still. going;
}

-- each row keeps it
sound_more : (start : Graph) (fail_on_error : Bool) (taken : Taken) (verdict : Verdict) → taken.result.stop ≡ None → IsSound start fail_on_error taken → IsSound start fail_on_error (with_verdict fail_on_error taken verdict)
sound_more start fail_on_error taken (Changes changes) going sound = record {
  replays = after-append start taken.result.changes changes ∙ ap (λ graph. after graph changes) sound.replays;
  among = omega (arith, sound.among);
  next = without_stop (taken.result.rows + 1 + 1) taken.result.stop going;
  logs = record { rise = sound.logs.rise; within = more_rows taken.result.rows taken.result.logs sound.logs.within; none = sound.logs.none; unstopped = sound.logs.unstopped };
}
sound_more start fail_on_error taken Duplicate going sound = record {
  replays = sound.replays;
  among = omega (arith, sound.among);
  next = without_stop (taken.result.rows + 1 + 1) taken.result.stop going;
  logs = record { rise = sound.logs.rise; within = more_rows taken.result.rows taken.result.logs sound.logs.within; none = sound.logs.none; unstopped = sound.logs.unstopped };
}
sound_more start true taken (Refused code column) going sound = record {
  replays = sound.replays;
  among = sound.among;
  next = refl;
  logs = record { rise = sound.logs.rise; within = sound.logs.within; none = sound.logs.none; unstopped = λ goes. absurd (false≢true (sym goes)) };
}
sound_more start false taken (Refused code column) going sound = record {
  replays = sound.replays;
  among = omega (arith, sound.among, length-append taken.result.logs (row_log (taken.result.rows + 1) code column ∷ []));
  next = without_stop (taken.result.rows + 1 + 1) taken.result.stop going;
  logs = sound_logs false taken.result code column going refl sound.logs;
}

pub sound_row : (start : Graph) (request : LoadRequest) (taken : Taken) (row : Row) → taken.result.stop ≡ None → IsSound start request.fail_on_error taken → IsSound start request.fail_on_error (with_row request taken row)
sound_row start request taken row going sound = sound_more start request.fail_on_error taken (admit taken.graph request.update_single row) going sound

no_condition : (rows : List DigestRow) → AllByRecursion (λ row. Unit {0}) rows
no_condition [] = tt
no_condition (row ∷ rows) = (tt, no_condition rows)

pub sound_batch : (request : LoadRequest) (start : Graph) (rows : List DigestRow) → IsSound start request.fail_on_error (batch request start rows)
sound_batch request start rows =
    rows_keep request (λ row. Unit {0}) (IsSound start request.fail_on_error) (λ taken row going any sound. sound_row start request taken row going sound) rows (so_far start nothing_yet) (no_condition rows) (sound_start start request.fail_on_error)

-- ---- how many rows

-- a row that doesn't stop the batch is counted
counts_one : (fail_on_error : Bool) (taken : Taken) (verdict : Verdict) → (with_verdict fail_on_error taken verdict).result.stop ≡ None → (with_verdict fail_on_error taken verdict).result.rows ≡ taken.result.rows + 1
counts_one fail_on_error taken (Changes changes) goes = refl
counts_one fail_on_error taken Duplicate goes = refl
counts_one true taken (Refused code column) goes = absurd (cc (goes))
counts_one false taken (Refused code column) goes = refl

pub counts_row : (request : LoadRequest) (taken : Taken) (row : Row) → (with_row request taken row).result.stop ≡ None → (with_row request taken row).result.rows ≡ taken.result.rows + 1
counts_row request taken row goes = counts_one request.fail_on_error taken (admit taken.graph request.update_single row) goes

-- so many rows of all are left, if nothing has stopped the batch
record Stands (total rest : ℕ) (made : BatchResult) : Type 0 where
  pub left : made.stop ≡ None → made.rows + rest ≡ total
  pub there : IfSome made.stop (λ log. log.number ≤ total)

below : (total : ℕ) (stop : Option Log) → stop ≡ None → IfSome stop (λ log. log.number ≤ total)
below total stop going = subst (λ stop. IfSome stop (λ log. log.number ≤ total)) (sym going) tt

stands_more : (total rest : ℕ) (fail_on_error : Bool) (taken : Taken) (verdict : Verdict) → taken.result.stop ≡ None → Stands total (suc rest) taken.result → Stands total rest (with_verdict fail_on_error taken verdict).result
stands_more total rest fail_on_error taken (Changes changes) going stands = record { left = λ goes. omega (arith, stands.left going); there = below total taken.result.stop going }
stands_more total rest fail_on_error taken Duplicate going stands = record { left = λ goes. omega (arith, stands.left going); there = below total taken.result.stop going }
stands_more total rest true taken (Refused code column) going stands = record { left = λ goes. absurd (cc (goes)); there = omega (arith, stands.left going) }
stands_more total rest false taken (Refused code column) going stands = record { left = λ goes. omega (arith, stands.left going); there = below total taken.result.stop going }

stands_all : (total : ℕ) (request : LoadRequest) (rows : List DigestRow) (taken : Taken) → Stands total (length rows) taken.result → Stands total 0 (take_rows request taken rows).result
stands_all total request [] taken stands = stands
stands_all total request (row ∷ rows) taken stands =
    at_stop (λ more. Stands total 0 more.result) taken (take_rows request (with_row request taken row.row) rows) (is_some taken.result.stop)
    (λ stopped. record { left = λ goes. absurd (false≢true (ap is_some (sym goes) ∙ stopped)); there = stands.there })
    (λ going.
    stands_all total request rows (with_row request taken row.row)
    (stands_more total (length rows) request.fail_on_error taken (admit taken.graph request.update_single row.row) (no_stop taken.result.stop going) stands))

pub counts_batch : (request : LoadRequest) (start : Graph) (rows : List DigestRow) → CountsRows rows (batch request start rows).result
counts_batch request start rows =
    let sound : IsSound start request.fail_on_error (batch request start rows) = sound_batch request start rows in
    let stands : Stands (length rows) 0 (batch request start rows).result = stands_all (length rows) request rows (so_far start nothing_yet) (record { left = λ goes. omega arith; there = tt }) in record {
      among = sound.among;
      whole = λ goes. omega (arith, stands.left goes);
      next = sound.next;
      there = stands.there;
    }
