-- A load as one fold over one list of lines.
use Rattle.std.specs.Prelude.{◌≡◌, ℕ, ◌+◌, List, [], ◌∷◌, ◌++◌, map, take, length, None}
use Rattle.bl_outside.specs.declared.digest.Digest.{Digest}
use Rattle.bl_value.specs.declared.row.DigestRow.{DigestRow}
use Rattle.bl_value.specs.declared.change.Change.{Change}
use Rattle.bl_files.specs.declared.feed.Feed.{Feed}
use Rattle.bl_files.specs.declared.feed_status.FeedStatus.TheVariants.{NotStarted}
use Rattle.bl_files.specs.declared.log.Log.{Log}
use Rattle.bl_files.specs.declared.load_request.LoadRequest.{LoadRequest}
use Rattle.bl_files.specs.Carried.{new_feed}
use Rattle.bl_graph.specs.Graph.{Graph}
use Rattle.bl_graph.specs.Admission.{admit}
use Rattle.bl_graph.specs.Admitted.{after_verdict}
use Rattle.bl_graph.specs.declared.verdict.Verdict.{Verdict}
use Rattle.bl_graph.specs.declared.verdict.Verdict.TheVariants.{Changes, Duplicate, Refused}
use Rattle.bl_job.specs.Batches.{Taken, batch, verdict_changes}
use Rattle.bl_job.specs.Joined.{behind}
use Rattle.bl_queue.specs.Runs.{with_feed}
use Rattle.bl_queue.specs.Rows.{counts_after}
use Rattle.bl_world.specs.Makings.{digest_behind}
use Rattle.bl_chain.specs.Tables.{Table}

-- ---- the lines

-- A row of a load: the place of its file among all, counted from 0, and its number in the file, counted from 1.
pub record Line : Type 0 where
  pub place : ℕ
  pub number : ℕ
  pub row : DigestRow

-- the lines of rows that stand behind so many others of their file
abbrev pub numbered : ℕ → ℕ → List DigestRow → List Line
numbered place before [] = []
numbered place before (row ∷ rows) = record { place = place; number = before + 1; row = row } ∷ numbered place (before + 1) rows

abbrev pub lines_from : ℕ → List Table → List Line
lines_from place [] = []
lines_from place (table ∷ tables) = numbered place 0 table.rows ++ lines_from (place + 1) tables

-- the lines of all files, file by file
abbrev pub lines : List Table → List Line
lines tables = lines_from 0 tables

-- ---- what lines come to

-- a file without how it stands: what was counted of it
abbrev pub bare : Feed → Feed
bare feed = record feed { status = NotStarted; end_log = None }

-- so many more of its records are counted, with this digest behind them
abbrev pub counted : ℕ → Digest → ℕ → List Log → Feed → Feed
counted rows digest duplicates logs feed =
    record feed { taken = feed.taken + rows; digest = digest; counts = counts_after rows duplicates logs feed.counts; logs = feed.logs ++ logs }

-- The graph so far, all changes in order, and the files with what was counted of each.
pub record Loaded : Type 0 where
  pub graph : Graph
  pub changes : List Change
  pub feeds : List Feed

abbrev pub first_feeds : List Table → List Feed
first_feeds tables = map (λ table. bare (new_feed table.found)) tables

-- no line is taken
abbrev pub begun_with : Graph → List Table → Loaded
begun_with graph tables = record { graph = graph; changes = []; feeds = first_feeds tables }

abbrev pub duplicates_in : Verdict → ℕ
duplicates_in (Changes changes) = 0
duplicates_in Duplicate = 1
duplicates_in (Refused code column) = 0

abbrev pub logs_in : ℕ → Verdict → List Log
logs_in number (Changes changes) = []
logs_in number Duplicate = []
logs_in number (Refused code column) = record { code = code; number = number; column = column } ∷ []

-- what the verdict on a line adds
abbrev pub with_verdict : Loaded → Line → Verdict → Loaded
with_verdict loaded line verdict =
    record {
      graph = after_verdict loaded.graph verdict;
      changes = loaded.changes ++ verdict_changes verdict;
      feeds = with_feed line.place (counted 1 line.row.digest (duplicates_in verdict) (logs_in line.number verdict)) loaded.feeds;
    }

-- one line more, admitted into the graph so far
abbrev pub with_line : LoadRequest → Loaded → Line → Loaded
with_line request loaded line = with_verdict loaded line (admit loaded.graph request.update_single line.row.row)

abbrev pub with_lines : LoadRequest → Loaded → List Line → Loaded
with_lines request loaded [] = loaded
with_lines request loaded (line ∷ lines) = with_lines request (with_line request loaded line) lines

-- The first so many lines, taken from this graph on. All logs of the files are there.
abbrev pub load_to : LoadRequest → Graph → List Table → ℕ → Loaded
load_to request graph tables rows = with_lines request (begun_with graph tables) (take rows (lines tables))

-- ---- laws

-- Lines may be taken in parts.
abbrev pub TwoPartsAreOne : Type 0
TwoPartsAreOne =
    (request : LoadRequest) (loaded : Loaded) (first second : List Line)
    → with_lines request loaded (first ++ second) ≡ with_lines request (with_lines request loaded first) second

-- what a batch adds of the rows of the file at this place, so many of which were taken before
abbrev pub with_batch : ℕ → ℕ → DigestRow → List DigestRow → Loaded → Taken → Loaded
with_batch place before row rows loaded made =
    record {
      graph = made.graph;
      changes = loaded.changes ++ made.result.changes;
      feeds = with_feed place (counted (length (row ∷ rows)) (digest_behind row.digest rows) made.result.duplicates (map (behind before) made.result.logs)) loaded.feeds;
    }

-- A batch that isn't stopped is a part of the load.
abbrev pub BatchIsPart : Type 0
BatchIsPart =
    (request : LoadRequest) (loaded : Loaded) (place before : ℕ) (row : DigestRow) (rows : List DigestRow)
    → (batch request loaded.graph (row ∷ rows)).result.stop ≡ None
    → with_lines request loaded (numbered place before (row ∷ rows)) ≡ with_batch place before row rows loaded (batch request loaded.graph (row ∷ rows))
