-- What the core knows after a list of entries.
use Rattle.std.specs.Prelude.{◌≡◌, ◌↔◌, ℕ, zero, suc, ◌+◌, ◌-◌, ◌<◌, ◌≤◌, ◌^◌, ◌&&◌, Bool, true, false, is_none, List, [], ◌∷◌, ◌++◌, length, Some, None, IsSomeAnd}
use Rattle.std.specs.List.{All, AllPairs, flat_map}
use Rattle.bl_value.specs.Valid.{IsChange}
use Rattle.bl_value.specs.declared.change.Change.{Change}
use Rattle.bl_files.specs.declared.feed.Feed.{Feed}
use Rattle.bl_files.specs.declared.feed_end.FeedEnd.{FeedEnd}
use Rattle.bl_files.specs.declared.feed_end.FeedEnd.TheVariants as end
use Rattle.bl_files.specs.declared.mode.Mode.{Mode}
use Rattle.bl_files.specs.declared.mode.Mode.TheVariants.{New, Resume, Auto}
use Rattle.bl_files.specs.declared.plan_result.PlanResult.{PlanResult}
use Rattle.bl_files.specs.declared.plan_result.PlanResult.TheVariants as plan
use Rattle.bl_files.specs.declared.log.Log.{Log}
use Rattle.bl_files.specs.Statuses.{is_open}
use Rattle.bl_files.specs.Carried.{most_files}
use Rattle.bl_files.specs.Plans.{HasFileCodes, HasRisingNames}
use Rattle.bl_files.specs.Codes.{is_row_code}
use Rattle.bl_graph.specs.Graph.{Graph, empty}
use Rattle.bl_graph.specs.Replay.{after, fit}
use Rattle.bl_graph.specs.ValidGraph.{IsValidGraph}
use Rattle.bl_graph.specs.ValidChanges.{HasValidValues}
use Rattle.bl_queue.specs.declared.job.Job.{Job}
use Rattle.bl_queue.specs.declared.job_status.JobStatus.TheVariants.{NotStarted}
use Rattle.bl_queue.specs.Jobs.{AreJobs, Kept, front_job, is_unended, job_of, number_in}
use Rattle.bl_queue.specs.Checks.{refusal}
use Rattle.bl_queue.specs.Changes.{IsChanged, IsSubmitted, with_job}
use Rattle.bl_queue.specs.Runs.{HasRoom, IsStarted, cancelled_job, goes_on_from, job_after_feed}
use Rattle.bl_queue.specs.Rows.{fed_job}
use Rattle.bl_entry.specs.declared.entry.Entry.{Entry}
use Rattle.bl_world.specs.declared.job_commit.JobCommit.{JobCommit}
use Rattle.bl_entry.specs.declared.entry.Entry.TheVariants.{Submit, Cancel, Start, Batch, FeedEnd as End}

pub record World : Type 0 where
  pub entries : ℕ
  pub moment : ℕ
  pub kept : Kept
  pub graph : Graph
  pub commits : List JobCommit

abbrev pub empty_world : World
empty_world = record { entries = 0; moment = 0; kept = record { last = 0; jobs = [] }; graph = empty; commits = [] }

abbrev pub moment_of : Entry → ℕ
moment_of (Submit moment job id request) = moment
moment_of (Cancel moment job) = moment
moment_of (Start moment job planned) = moment
moment_of (Batch moment job feed from rows digest duplicates logs changes) = moment
moment_of (End moment job feed how) = moment

-- ---- which entries may follow

-- the first unended file, which is at this place
abbrev pub IsFirstOpen : List Feed → ℕ → Feed → Type 0
IsFirstOpen [] place feed = ⊥
IsFirstOpen (f ∷ feeds) zero feed = (is_open f.status ≡ true) × (f ≡ feed)
IsFirstOpen (f ∷ feeds) (suc place) feed = (is_open f.status ≡ false) × IsFirstOpen feeds place feed

-- the first unended job, and its first unended file, which is counted from 1
abbrev pub AreNext : List Job → ℕ → ℕ → Job → Feed → Type 0
AreNext jobs number feed it of = (front_job jobs ≡ Some it) × (it.number ≡ number) × (1 ≤ feed) × IsFirstOpen it.feeds (feed - 1) of

-- found names rise strictly by their bytes, and a file that isn't read has the code of a file
abbrev pub ArePlanned : PlanResult → Type 0
ArePlanned planned = HasRisingNames planned × HasFileCodes planned

abbrev pub is_resume : Mode → Bool
is_resume New = false
is_resume Resume = true
is_resume Auto = false

-- a load that is to go on from another has none
abbrev pub lacks_previous : List Job → Job → Bool
lacks_previous jobs it = is_resume it.request.mode && is_none (goes_on_from jobs it.number)

pub record FitsStart (kept : Kept) (number : ℕ) (planned : PlanResult) : Type 0 where
  pub it : Job
  pub front : front_job kept.jobs ≡ Some it
  pub number_is : it.number ≡ number
  pub rests : it.status ≡ NotStarted
  pub planned_is : ArePlanned planned
  pub none : (planned ≡ plan.NoPrevious) ↔ (lacks_previous kept.jobs it ≡ true)
  pub room : HasRoom kept.jobs number planned

pub record FitsBatch (kept : Kept) (graph : Graph) (number feed from rows duplicates : ℕ) (logs : List Log) (changes : List Change) : Type 0 where
  pub it : Job
  pub of : Feed
  pub next : AreNext kept.jobs number feed it of
  pub from_is : from ≡ of.taken
  pub some : 1 ≤ rows
  pub few : rows ≤ 1000
  pub room : from + rows < 2 ^ 48
  pub among : duplicates + length logs ≤ rows
  pub codes : All (λ log. is_row_code log.code ≡ true) logs
  pub rise : AllPairs (λ a b. a.number < b.number) logs
  pub within : All (λ log. (from < log.number) × (log.number ≤ from + rows)) logs
  pub none : it.request.fail_on_error ≡ true → logs ≡ []
  pub fit : fit graph changes ≡ true

abbrev pub MayStop : Job → Feed → FeedEnd → Type 0
MayStop it of end.Completed = Unit {0}
MayStop it of (end.Stopped log) = (it.request.fail_on_error ≡ true) × (is_row_code log.code ≡ true) × (log.number ≡ of.taken + 1)
MayStop it of end.ReadError = Unit {0}
MayStop it of end.Modified = Unit {0}

pub record FitsEnd (kept : Kept) (number feed : ℕ) (how : FeedEnd) : Type 0 where
  pub it : Job
  pub of : Feed
  pub next : AreNext kept.jobs number feed it of
  pub stops : MayStop it of how

-- the rule of the entry's kind
abbrev pub Fits : World → Entry → Type 0
Fits world (Submit moment job id request) = (job ≡ world.kept.last + 1) × (number_in id ≡ job) × (refusal world.kept request ≡ None)
Fits world (Cancel moment job) = IsSomeAnd (job_of job world.kept.jobs) (λ it. is_unended it ≡ true)
Fits world (Start moment job planned) = FitsStart world.kept job planned
Fits world (Batch moment job feed from rows digest duplicates logs changes) = FitsBatch world.kept world.graph job feed from rows duplicates logs changes
Fits world (End moment job feed how) = FitsEnd world.kept job feed how

pub record Follows (world : World) (entry : Entry) : Type 0 where
  pub later : world.moment ≤ moment_of entry
  pub fits : Fits world entry

-- ---- the world after an entry

abbrev pub IsKeptAfter : Entry → Kept → Kept → Type 0
IsKeptAfter (Submit moment job id request) old new = IsSubmitted moment id request old new
IsKeptAfter (Cancel moment job) old new = IsChanged moment job (cancelled_job moment) old new
IsKeptAfter (Start moment job planned) old new = IsStarted moment job planned old new
IsKeptAfter (Batch moment job feed from rows digest duplicates logs changes) old new =
    new ≡ record old { jobs = with_job job (fed_job moment (feed - 1) rows digest duplicates logs) old.jobs }
IsKeptAfter (End moment job feed how) old new = IsChanged moment job (job_after_feed moment (feed - 1) how) old new

abbrev pub changes_of : Entry → List Change
changes_of (Submit moment job id request) = []
changes_of (Cancel moment job) = []
changes_of (Start moment job planned) = []
changes_of (Batch moment job feed from rows digest duplicates logs changes) = changes
changes_of (End moment job feed how) = []

abbrev pub job_number : Entry → ℕ
job_number (Submit moment job id request) = job
job_number (Cancel moment job) = job
job_number (Start moment job planned) = job
job_number (Batch moment job feed from rows digest duplicates logs changes) = job
job_number (End moment job feed how) = job

-- a batch with a change or more is a commit
abbrev pub commit_of : ℕ → ℕ → List Change → List JobCommit
commit_of job moment [] = []
commit_of job moment (change ∷ changes) = record { job = job; moment = moment; changes = change ∷ changes } ∷ []

pub record IsNext (before : World) (entry : Entry) (world : World) : Type 0 where
  pub entries : world.entries ≡ before.entries + 1
  pub moment : world.moment ≡ moment_of entry
  pub kept : IsKeptAfter entry before.kept world.kept
  pub graph : world.graph ≡ after before.graph (changes_of entry)
  pub commits : world.commits ≡ before.commits ++ commit_of (job_number entry) (moment_of entry) (changes_of entry)

-- the entry may follow, and leads to this world
pub record Step (before : World) (entry : Entry) (world : World) : Type 0 where
  pub follows : Follows before entry
  pub next : IsNext before entry world

-- the entry may follow, and the graph has its changes already
abbrev pub IsBegun : World → Entry → World → Type 0
IsBegun before entry begun = Follows before entry × (begun ≡ record before { graph = after before.graph (changes_of entry) })

-- no job has too many files
abbrev pub HaveFewFiles : List Job → Type 0
HaveFewFiles jobs = All (λ job. length job.feeds ≤ most_files) jobs

-- a commit has one change or more, each of them valid
pub record IsChanges (changes : List Change) : Type 0 where
  pub some : 1 ≤ length changes
  pub valid : All IsChange changes

-- what every world keeps to: its graph is valid, and so are the values in it; no job has too many files; each commit is changes
pub record IsProper (world : World) : Type 0 where
  pub graph : IsValidGraph world.graph
  pub values : HasValidValues world.graph
  pub files : HaveFewFiles world.kept.jobs
  pub commits : All (λ commit. IsChanges commit.changes) world.commits

-- The world after the entries, of which the newest is the first.
abbrev pub IsWorldOf : List Entry → World → Type 0
IsWorldOf [] world = world ≡ empty_world
IsWorldOf (entry ∷ older) world = (before : World) × IsWorldOf older before × Step before entry world

-- There is one such world at most.
abbrev pub OneWorld : Type 0
OneWorld = (entries : List Entry) (a b : World) → IsWorldOf entries a → IsWorldOf entries b → a ≡ b

-- In every world the stream, replayed, gives the graph.
abbrev pub StreamsGiveGraphs : Type 0
StreamsGiveGraphs = (entries : List Entry) (world : World) → IsWorldOf entries world → after empty (flat_map (λ commit. commit.changes) world.commits) ≡ world.graph

-- In every world the jobs are as they always are.
abbrev pub WorldsHaveJobs : Type 0
WorldsHaveJobs = (entries : List Entry) (world : World) → IsWorldOf entries world → AreJobs world.kept
