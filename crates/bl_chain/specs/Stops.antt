-- Where a load stops at an error.
use Rattle.std.specs.Prelude.{◌≡◌, ℕ, true, List, [], ◌∷◌, take, Some, None}
use Rattle.std.specs.declared.option.Option.{Option}
use Rattle.bl_files.specs.declared.log.Log.{Log}
use Rattle.bl_files.specs.declared.load_request.LoadRequest.{LoadRequest}
use Rattle.bl_graph.specs.Graph.{Graph}
use Rattle.bl_graph.specs.Admission.{admit}
use Rattle.bl_graph.specs.declared.verdict.Verdict.{Verdict}
use Rattle.bl_graph.specs.declared.verdict.Verdict.TheVariants.{Changes, Duplicate, Refused}
use Rattle.bl_chain.specs.Tables.{Table, any_unread}
use Rattle.bl_chain.specs.Loads.{Line, Loaded, begun_with, lines, with_line}

-- a refused line: the place of its file, and its log
pub record Stop : Type 0 where
  pub place : ℕ
  pub log : Log

abbrev pub stop_by : Line → Verdict → Option Stop → Option Stop
stop_by line (Changes changes) later = later
stop_by line Duplicate later = later
stop_by line (Refused code column) later = Some (record { place = line.place; log = record { code = code; number = line.number; column = column } })

-- the first of the lines that is refused
abbrev pub stop_in : LoadRequest → Loaded → List Line → Option Stop
stop_in request loaded [] = None
stop_in request loaded (line ∷ lines) =
    stop_by line (admit loaded.graph request.update_single line.row.row) (stop_in request (with_line request loaded line) lines)

-- A load that stops at errors takes no line behind a refused one, and none at all beside a file that isn't read.
pub record IsDefined (request : LoadRequest) (graph : Graph) (tables : List Table) (rows : ℕ) : Type 0 where
  pub none : request.fail_on_error ≡ true → stop_in request (begun_with graph tables) (take rows (lines tables)) ≡ None
  pub zero : request.fail_on_error ≡ true → any_unread tables ≡ true → rows ≡ 0
