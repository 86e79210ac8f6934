-- The feeds of a new job: those that are kept of the previous load, and the files that were found
-- besides.
use Rattle.std.specs.Prelude.{◌≡◌, ℕ, ◌≤◌, ◌<◌, nat_lt, nat_eq, Bool, true, if◌then◌else◌, ◌||◌, ◌↔◌, ◌⊎◌, List, [], map, length, Result, Ok, Err, Some, None}
use Rattle.std.specs.declared.option.Option.{Option}
use Rattle.std.specs.declared.cmp.Ordering.{Ordering}
use Rattle.std.specs.Ordering.{nat_cmp, ordering_then}
use Rattle.std.specs.Cmp.Lexicographic.{pointwise, slice_cmp}
use Rattle.std.specs.List.{All, Contains, IsDistinct}
use Rattle.std.specs.List.Sorted.{IsStrictlySortedBy}
use Rattle.bl_files.specs.declared.counts.Counts.{Counts}
use Rattle.bl_files.specs.declared.log.Log.{Log}
use Rattle.bl_files.specs.declared.feed_kind.FeedKind.{FeedKind}
use Rattle.bl_files.specs.declared.feed_kind.FeedKind.TheVariants.{Vertex, Edge, Refused}
use Rattle.bl_files.specs.declared.feed_status.FeedStatus.{FeedStatus}
use Rattle.bl_files.specs.declared.feed_status.FeedStatus.TheVariants.{NotStarted, Completed, Failed}
use Rattle.bl_files.specs.declared.found.Found.{Found}
use Rattle.bl_files.specs.declared.feed.Feed.{Feed}
use Rattle.bl_files.specs.declared.carrying.CarryRefusal.{CarryRefusal}
use Rattle.bl_files.specs.declared.carrying.CarryRefusal.TheVariants.{TooMany, NoMemory}
use Rattle.bl_files.specs.Statuses.{is_completed}

-- ---- a previous feed

-- a feed is kept where it is completed or has records taken
abbrev pub is_kept : Feed → Bool
is_kept feed = is_completed feed.status || nat_lt 0 feed.taken

abbrev pub kept_status : FeedStatus → FeedStatus
kept_status status = if is_completed status then Completed else NotStarted

-- A kept feed has its kind, records, digest, counts and logs. It stays completed, or is to be begun
-- again behind its records. Its end log goes.
abbrev pub kept : Feed → Feed
kept feed = record feed { status = kept_status feed.status; end_log = None }

-- ---- a new feed

-- no record was counted
abbrev pub no_counts : Counts
no_counts = record { records = 0; duplicates = 0; parsing = 0; datatype = 0; insert = 0 }

-- a file that isn't read has ended at once
abbrev pub first_status : FeedKind → FeedStatus
first_status Vertex = NotStarted
first_status Edge = NotStarted
first_status (Refused code column) = Failed

abbrev pub first_log : FeedKind → Option Log
first_log Vertex = None
first_log Edge = None
first_log (Refused code column) = Some (record { code = code; number = 0; column = column })

abbrev pub new_feed : Found → Feed
new_feed file =
    record {
      name = file.name;
      kind = file.kind;
      status = first_status file.kind;
      taken = 0;
      digest = file.digest;
      counts = no_counts;
      logs = [];
      end_log = first_log file.kind;
    }

-- ---- the list

-- a feed of this name is kept
abbrev pub HasKept : List Feed → List ℕ → Type 0
HasKept previous name = (feed : Feed) × Contains previous feed × (is_kept feed ≡ true)
    × (feed.name ≡ name)

-- The feed is one of the new job: a previous one that is kept, found or not, or a new one of a file
-- that was found and of whose name none is kept.
abbrev pub IsCarriedFeed : List Feed → List Found → Feed → Type 0
IsCarriedFeed previous found feed =
    ((old : Feed) × Contains previous old × (is_kept old ≡ true) × (feed ≡ kept old))
    ⊎ ((file : Found) × Contains found file × (¬ HasKept previous file.name)
    × (feed ≡ new_feed file))

-- files that aren't read, then vertex files, then edge files
abbrev pub kind_place : FeedKind → ℕ
kind_place (Refused code column) = 0
kind_place Vertex = 1
kind_place Edge = 2

-- each by the bytes of the names
abbrev pub feed_cmp : Feed → Feed → Ordering
feed_cmp a b = ordering_then (nat_cmp (kind_place a.kind) (kind_place b.kind))
    (slice_cmp nat_cmp a.name b.name)

-- just these feeds, in order, each once
pub record AreCarried (previous : List Feed) (found : List Found) (carried : List Feed) : Type 0
  where
    pub each : (feed : Feed) → Contains carried feed ↔ IsCarriedFeed previous found feed
    pub ordered : IsStrictlySortedBy feed_cmp carried

-- the most files that a job may have
abbrev pub most_files : ℕ
most_files = 4096

-- so many of them go on
abbrev pub CarriedNumber : List Feed → List Found → ℕ → Type 0
CarriedNumber previous found n =
    (carried : List Feed) × AreCarried previous found carried × (length carried ≡ n)

-- there are at most so many of them, or they are too many
abbrev pub Carries : List Feed → List Found → Result (List Feed) CarryRefusal → Type 0
Carries previous found (Ok carried) =
    AreCarried previous found carried × (length carried ≤ most_files)
Carries previous found (Err (TooMany n)) =
    (carried : List Feed) × AreCarried previous found carried × (length carried ≡ n)
    × (most_files < n)
Carries previous found (Err NoMemory) = Unit {0}

-- ---- the feeds of a job

-- a file that isn't read has failed, and has no records
abbrev pub EndsRefused : FeedKind → Feed → Type 0
EndsRefused Vertex feed = Unit {0}
EndsRefused Edge feed = Unit {0}
EndsRefused (Refused code column) feed = (feed.status ≡ Failed) × (feed.taken ≡ 0)

abbrev pub DifferentNames : List (List ℕ) → Type 0
DifferentNames names = IsDistinct (pointwise nat_eq) names

abbrev pub feed_names : List Feed → List (List ℕ)
feed_names feeds = map (λ feed. feed.name) feeds

abbrev pub found_names : List Found → List (List ℕ)
found_names found = map (λ file. file.name) found

-- what the feeds of a job always are
pub record AreFeeds (feeds : List Feed) : Type 0 where
  pub names : DifferentNames (feed_names feeds)
  pub refused : All (λ feed. EndsRefused feed.kind feed) feeds
