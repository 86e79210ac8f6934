-- Loads that weren't cut off, and how they end.
use Rattle.std.specs.Prelude.{◌≡◌, ◌≢◌, ℕ, true, List, [], ◌∷◌, map, Contains, ◌⊎◌}
use Rattle.bl_files.specs.declared.feed.Feed.{Feed}
use Rattle.bl_files.specs.declared.feed_end.FeedEnd.{FeedEnd}
use Rattle.bl_files.specs.declared.feed_end.FeedEnd.TheVariants as end
use Rattle.bl_graph.specs.Graph.{Graph}
use Rattle.bl_queue.specs.declared.job.Job.{Job}
use Rattle.bl_queue.specs.declared.job_status.JobStatus.TheVariants.{CancelledByUser}
use Rattle.bl_queue.specs.Runs.{whole_status}
use Rattle.bl_queue.specs.Statuses.{has_ended}
use Rattle.bl_entry.specs.declared.entry.Entry.{Entry}
use Rattle.bl_entry.specs.declared.entry.Entry.TheVariants.{Submit, Cancel, Start, Batch, FeedEnd as End}
use Rattle.bl_world.specs.Worlds.{AreNext, IsWorldOf, Step, World}
use Rattle.bl_chain.specs.Tables.{AreTables, Table}
use Rattle.bl_chain.specs.Ends.{AreEnds, end_of}
use Rattle.bl_chain.specs.Turns.{IsEndMade}
use Rattle.bl_chain.specs.Chains.{Begins, Chain, Continues, IsOther, IsOwn, IsUnchanged}

-- an end that a turn gives, and none by a file that could not be read
abbrev pub IsEndUncut : List Table → Job → Graph → Feed → FeedEnd → Type 0
IsEndUncut tables it graph feed end.Completed = IsEndMade tables it graph feed end.Completed
IsEndUncut tables it graph feed end.Modified = IsEndMade tables it graph feed end.Modified
IsEndUncut tables it graph feed (end.Stopped log) = IsEndMade tables it graph feed (end.Stopped log)
IsEndUncut tables it graph feed end.ReadError = ⊥

-- an entry of the load's own, and not its cancel
abbrev pub IsOwnUncut : List Table → World → ℕ → Chain → Entry → Chain → Type 0
IsOwnUncut tables before job earlier (Batch moment number place from rows digest duplicates logs changes) chain =
    IsOwn tables before job earlier (Batch moment number place from rows digest duplicates logs changes) chain
IsOwnUncut tables before job earlier (End moment number place how) chain =
    (number ≡ job) × ((it : Job) (feed : Feed) → AreNext before.kept.jobs number place it feed → IsEndUncut tables it before.graph feed how) × (chain ≡ earlier)
IsOwnUncut tables before job earlier (Cancel moment number) chain = ⊥
IsOwnUncut tables before job earlier (Start moment number planned) chain = ⊥
IsOwnUncut tables before job earlier (Submit moment number id request) chain = ⊥

-- The load is unchanged, was not cancelled, and its files ended only as turns end them. Those that it goes on from may
-- have ended in any way.
abbrev pub IsUncut : List Table → List Entry → World → ℕ → Chain → Type 0
IsUncut tables [] world job chain = ⊥
IsUncut tables (entry ∷ older) world job chain =
    (before : World) × Step before entry world × (
    (IsWorldOf older before × Begins tables before entry job chain)
    ⊎ (((previous : ℕ) × (earlier : Chain) × IsUnchanged tables older before previous earlier × Continues tables before entry job previous earlier chain)
    ⊎ ((earlier : Chain) × IsUncut tables older before job earlier × (IsOwnUncut tables before job earlier entry chain ⊎ IsOther before job earlier entry chain)))
    )

-- The job has ended as a whole load does: its status, and the status and end log of each of its files.
pub record EndsWhole (tables : List Table) (chain : Chain) (it : Job) : Type 0 where
  pub status : it.status ≡ whole_status it.feeds
  pub ends : AreEnds chain.request chain.graph tables chain.rows (map end_of it.feeds)

-- Where it has ended, and not by its cancel, it has ended so.
abbrev pub UncutEndsWhole : Type 0
UncutEndsWhole =
    (tables : List Table)
    → AreTables tables
    → (entries : List Entry) (world : World) (job : ℕ) (chain : Chain)
    → IsUncut tables entries world job chain
    → (it : Job)
    → Contains world.kept.jobs it
    → it.number ≡ job
    → has_ended it.status ≡ true
    → it.status ≢ CancelledByUser
    → EndsWhole tables chain it
