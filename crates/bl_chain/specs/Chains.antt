-- Loads that go on from one another over unchanged files, and what they come to.
use Rattle.std.specs.Prelude.{◌≡◌, ◌≢◌, ℕ, ◌+◌, List, [], ◌∷◌, map, flat_map, drop, length, Some, None, Contains, ◌⊎◌}
use Rattle.bl_value.specs.declared.change.Change.{Change}
use Rattle.bl_files.specs.declared.feed.Feed.{Feed}
use Rattle.bl_files.specs.declared.found.Found.{Found}
use Rattle.bl_files.specs.declared.load_request.LoadRequest.{LoadRequest}
use Rattle.bl_files.specs.declared.plan_result.PlanResult.TheVariants as plan
use Rattle.bl_graph.specs.Graph.{Graph}
use Rattle.bl_queue.specs.declared.job.Job.{Job}
use Rattle.bl_queue.specs.Jobs.{front_job}
use Rattle.bl_queue.specs.Runs.{goes_on_from}
use Rattle.bl_queue.specs.Rows.{last_logs}
use Rattle.bl_entry.specs.declared.entry.Entry.{Entry}
use Rattle.bl_entry.specs.declared.entry.Entry.TheVariants.{Submit, Cancel, Start, Batch, FeedEnd as End}
use Rattle.bl_world.specs.declared.job_commit.JobCommit.{JobCommit}
use Rattle.bl_world.specs.Worlds.{AreNext, IsWorldOf, Step, World}
use Rattle.bl_chain.specs.Tables.{AreTables, Table}
use Rattle.bl_chain.specs.Loads.{Loaded, bare, load_to}
use Rattle.bl_chain.specs.Stops.{IsDefined}
use Rattle.bl_chain.specs.Turns.{IsBatchOf, IsEndOf, IsPlanOf}

-- A load, the one that it goes on from, and so on: what the last of them was asked for, the graph and the number of
-- commits before the first of them started, and how many rows they took together.
pub record Chain : Type 0 where
  pub request : LoadRequest
  pub graph : Graph
  pub commits : ℕ
  pub rows : ℕ

abbrev pub HaveSameOptions : LoadRequest → LoadRequest → Type 0
HaveSameOptions a b = (a.fail_on_error ≡ b.fail_on_error) × (a.update_single ≡ b.update_single)

-- ---- the start of a load

-- what the chain is, once a load has begun that goes on from none
abbrev pub begun_chain : World → Job → Chain
begun_chain before it = record { request = it.request; graph = before.graph; commits = length before.commits; rows = 0 }

-- the entry starts the job, which goes on from no load
pub record Begins (tables : List Table) (before : World) (entry : Entry) (job : ℕ) (chain : Chain) : Type 0 where
  pub moment : ℕ
  pub found : List Found
  pub is : entry ≡ Start moment job (plan.Feeds found)
  pub it : Job
  pub front : front_job before.kept.jobs ≡ Some it
  pub none : goes_on_from before.kept.jobs job ≡ None
  pub planned : IsPlanOf tables [] found
  pub chain_is : chain ≡ begun_chain before it

-- the entry starts the job, which goes on from another load, with the same options
pub record Continues (tables : List Table) (before : World) (entry : Entry) (job previous : ℕ) (earlier chain : Chain) : Type 0 where
  pub moment : ℕ
  pub found : List Found
  pub is : entry ≡ Start moment job (plan.Feeds found)
  pub it : Job
  pub front : front_job before.kept.jobs ≡ Some it
  pub older : Job
  pub from : goes_on_from before.kept.jobs job ≡ Some older
  pub number : older.number ≡ previous
  pub same : HaveSameOptions earlier.request it.request
  pub planned : IsPlanOf tables older.feeds found
  pub chain_is : chain ≡ record earlier { request = it.request }

-- ---- any other entry

-- one of the load's own, made over these files
abbrev pub IsOwn : List Table → World → ℕ → Chain → Entry → Chain → Type 0
IsOwn tables before job earlier (Batch moment number place from rows digest duplicates logs changes) chain =
    (number ≡ job)
    × ((it : Job) (feed : Feed) → AreNext before.kept.jobs number place it feed → IsBatchOf tables it.request before.graph feed from rows digest duplicates logs changes)
    × (chain ≡ record earlier { rows = earlier.rows + rows })
IsOwn tables before job earlier (End moment number place how) chain =
    (number ≡ job) × ((it : Job) (feed : Feed) → AreNext before.kept.jobs number place it feed → IsEndOf tables feed how) × (chain ≡ earlier)
IsOwn tables before job earlier (Cancel moment number) chain = (number ≡ job) × (chain ≡ earlier)
IsOwn tables before job earlier (Start moment number planned) chain = ⊥
IsOwn tables before job earlier (Submit moment number id request) chain = ⊥

-- one of another load, which commits nothing
abbrev pub IsOther : World → ℕ → Chain → Entry → Chain → Type 0
IsOther before job earlier (Batch moment number place from rows digest duplicates logs changes) chain = (number ≢ job) × (changes ≡ []) × (chain ≡ earlier)
IsOther before job earlier (End moment number place how) chain = (number ≢ job) × (chain ≡ earlier)
IsOther before job earlier (Cancel moment number) chain = (number ≢ job) × (chain ≡ earlier)
IsOther before job earlier (Start moment number planned) chain = chain ≡ earlier
IsOther before job earlier (Submit moment number id request) chain = chain ≡ earlier

-- ---- unchanged files

-- The entries, the newest first, lead to the world. The load of this number, and those that it goes on from, were made
-- over these files, with the same options, and no other load committed since the first of them started.
abbrev pub IsUnchanged : List Table → List Entry → World → ℕ → Chain → Type 0
IsUnchanged tables [] world job chain = ⊥
IsUnchanged tables (entry ∷ older) world job chain =
    (before : World) × Step before entry world × (
    (IsWorldOf older before × Begins tables before entry job chain)
    ⊎ (((previous : ℕ) × (earlier : Chain) × IsUnchanged tables older before previous earlier × Continues tables before entry job previous earlier chain)
    ⊎ ((earlier : Chain) × IsUnchanged tables older before job earlier × (IsOwn tables before job earlier entry chain ⊎ IsOther before job earlier entry chain)))
    )

-- ---- what they come to

-- one uninterrupted load of as many rows
abbrev pub loaded_by : List Table → Chain → Loaded
loaded_by tables chain = load_to chain.request chain.graph tables chain.rows

-- the changes of the commits behind so many
abbrev pub changes_behind : ℕ → List JobCommit → List Change
changes_behind before commits = flat_map (λ commit. commit.changes) (drop before commits)

-- The graph, the changes and the files are those of one uninterrupted load of so many rows.
pub record Stands (tables : List Table) (world : World) (job : ℕ) (chain : Chain) : Type 0 where
  pub graph : world.graph ≡ (loaded_by tables chain).graph
  pub changes : changes_behind chain.commits world.commits ≡ (loaded_by tables chain).changes
  -- a load that stops at errors has taken no refused line
  pub defined : IsDefined chain.request chain.graph tables chain.rows
  -- names, kinds, records taken, digests, counts, and the last logs, where the job is kept
  pub feeds : (it : Job) → Contains world.kept.jobs it → it.number ≡ job → map bare it.feeds ≡ last_logs (loaded_by tables chain).feeds

abbrev pub UnchangedStands : Type 0
UnchangedStands =
    (tables : List Table)
    → AreTables tables
    → (entries : List Entry) (world : World) (job : ℕ) (chain : Chain)
    → IsUnchanged tables entries world job chain
    → Stands tables world job chain
