-- What a turn of the loader does over the files of a load.
use Rattle.std.specs.Prelude.{◌≡◌, ℕ, ◌+◌, ◌≤◌, true, List, ◌∷◌, map, take, drop, length, None, Contains, ◌⊎◌}
use Rattle.bl_outside.specs.declared.digest.Digest.{Digest}
use Rattle.bl_value.specs.declared.change.Change.{Change}
use Rattle.bl_value.specs.declared.row.DigestRow.{DigestRow}
use Rattle.bl_files.specs.declared.feed.Feed.{Feed}
use Rattle.bl_files.specs.declared.feed_end.FeedEnd.{FeedEnd}
use Rattle.bl_files.specs.declared.feed_end.FeedEnd.TheVariants as end
use Rattle.bl_files.specs.declared.found.Found.{Found}
use Rattle.bl_files.specs.declared.load_request.LoadRequest.{LoadRequest}
use Rattle.bl_files.specs.declared.log.Log.{Log}
use Rattle.bl_files.specs.Carried.{HasKept, is_kept}
use Rattle.bl_graph.specs.Graph.{Graph}
use Rattle.bl_graph.specs.Admission.{admit}
use Rattle.bl_graph.specs.declared.verdict.Verdict.TheVariants.{Refused}
use Rattle.bl_job.specs.Batches.{batch}
use Rattle.bl_job.specs.Joined.{behind}
use Rattle.bl_queue.specs.declared.job.Job.{Job}
use Rattle.bl_world.specs.Makings.{digest_behind}
use Rattle.bl_chain.specs.Tables.{Table}

-- The file of this name is still the one that the feed was begun with: of the same kind, with the records that were
-- taken, and with the digest behind them.
pub record GoesOn (tables : List Table) (feed : Feed) (table : Table) : Type 0 where
  pub there : Contains tables table
  pub name : table.found.name ≡ feed.name
  pub kind : table.found.kind ≡ feed.kind
  pub enough : feed.taken ≤ length table.rows
  pub digest : digest_behind table.found.digest (take feed.taken table.rows) ≡ feed.digest

-- ---- plans

-- What a plan says of a file: a name whose previous feed is kept has that feed's kind and digest.
abbrev pub IsFoundAs : List Feed → Table → Found → Type 0
IsFoundAs previous table file =
    ((old : Feed) × Contains previous old × (is_kept old ≡ true) × (old.name ≡ table.found.name) × (file ≡ record { name = old.name; kind = old.kind; digest = old.digest }))
    ⊎ ((¬ HasKept previous table.found.name) × (file ≡ table.found))

-- the plan has just these
pub record IsPlanOf (tables : List Table) (previous : List Feed) (found : List Found) : Type 0 where
  pub each : (file : Found) → Contains found file → (table : Table) × Contains tables table × IsFoundAs previous table file
  pub all : (table : Table) → Contains tables table → (file : Found) × Contains found file × IsFoundAs previous table file

-- ---- batches

-- Some next rows of the file, none of which stops the load, as one batch.
pub record IsBatchOf (tables : List Table) (request : LoadRequest) (graph : Graph) (feed : Feed) (from rows : ℕ) (digest : Digest) (duplicates : ℕ) (logs : List Log) (changes : List Change) : Type 0 where
  pub table : Table
  pub goes_on : GoesOn tables feed table
  pub row : DigestRow
  pub more : List DigestRow
  pub rows_are : take rows (drop feed.taken table.rows) ≡ row ∷ more
  pub rows_is : rows ≡ length (row ∷ more)
  pub unstopped : (batch request graph (row ∷ more)).result.stop ≡ None
  pub digest_is : digest ≡ digest_behind row.digest more
  pub duplicates_is : duplicates ≡ (batch request graph (row ∷ more)).result.duplicates
  pub logs_are : logs ≡ map (behind feed.taken) (batch request graph (row ∷ more)).result.logs
  pub changes_are : changes ≡ (batch request graph (row ∷ more)).result.changes

-- ---- ends

-- An end that these files give: all records are taken, or no file goes on. The other two may be any.
abbrev pub IsEndOf : List Table → Feed → FeedEnd → Type 0
IsEndOf tables feed end.Completed = (table : Table) × GoesOn tables feed table × (feed.taken ≡ length table.rows)
IsEndOf tables feed end.Modified = (table : Table) → ¬ GoesOn tables feed table
IsEndOf tables feed end.ReadError = Unit {0}
IsEndOf tables feed (end.Stopped log) = Unit {0}

-- The same, and the row that stopped the load is the next one, which is refused.
abbrev pub IsEndMade : List Table → Job → Graph → Feed → FeedEnd → Type 0
IsEndMade tables it graph feed end.Completed = IsEndOf tables feed end.Completed
IsEndMade tables it graph feed end.Modified = IsEndOf tables feed end.Modified
IsEndMade tables it graph feed end.ReadError = Unit {0}
IsEndMade tables it graph feed (end.Stopped log) =
    (table : Table)
    × GoesOn tables feed table
    × (row : DigestRow)
    × (more : List DigestRow)
    × (drop feed.taken table.rows ≡ row ∷ more)
    × (admit graph it.request.update_single row.row ≡ Refused log.code log.column)
    × (log.number ≡ feed.taken + 1)
