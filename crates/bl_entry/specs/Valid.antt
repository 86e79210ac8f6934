-- What a valid entry is: the ranges of its parts.
use Rattle.std.specs.Prelude.{◌≡◌, ℕ, ◌<◌, ◌^◌, true, List, length}
use Rattle.std.specs.List.{All}
use Rattle.bl_outside.specs.declared.digest.Digest.{Digest}
use Rattle.bl_outside.specs.Texts.{IsShortText}
use Rattle.bl_value.specs.Valid.{IsChange}
use Rattle.bl_files.specs.Sources.{is_kept_source}
use Rattle.bl_files.specs.declared.log.Log.{Log}
use Rattle.bl_files.specs.declared.feed_kind.FeedKind.{FeedKind}
use Rattle.bl_files.specs.declared.feed_kind.FeedKind.TheVariants as kind
use Rattle.bl_files.specs.declared.found.Found.{Found}
use Rattle.bl_files.specs.declared.plan_result.PlanResult.{PlanResult}
use Rattle.bl_files.specs.declared.plan_result.PlanResult.TheVariants as plan
use Rattle.bl_files.specs.declared.feed_end.FeedEnd.{FeedEnd}
use Rattle.bl_files.specs.declared.feed_end.FeedEnd.TheVariants as ends
use Rattle.bl_files.specs.declared.load_request.LoadRequest.{LoadRequest}
use Rattle.bl_entry.specs.declared.entry.Entry.{Entry}
use Rattle.bl_entry.specs.declared.entry.Entry.TheVariants.{Submit, Cancel, Start, Batch, FeedEnd as End}

-- the most rows of a batch that may follow
abbrev pub most_rows : ℕ
most_rows = 1000

abbrev pub IsDigest : Digest → Type 0
IsDigest digest = length digest.bytes ≡ 32

abbrev pub IsLog : Log → Type 0
IsLog log = (log.number < 2 ^ 64) × (log.column < 2 ^ 32)

abbrev pub IsKind : FeedKind → Type 0
IsKind kind.Vertex = Unit {0}
IsKind kind.Edge = Unit {0}
IsKind (kind.Refused code column) = column < 2 ^ 32

abbrev pub IsFound : Found → Type 0
IsFound found = IsShortText found.name × (IsKind found.kind × IsDigest found.digest)

-- fewer than 2 ^ 32 items, each of them valid
abbrev pub IsList : {A : Type 0} → (A → Type 0) → List A → Type 0
IsList Valid items = (length items < 2 ^ 32) × All Valid items

abbrev pub IsPlan : PlanResult → Type 0
IsPlan (plan.Feeds found) = IsList IsFound found
IsPlan plan.NoPrevious = Unit {0}
IsPlan plan.SourceNotFound = Unit {0}
IsPlan plan.ListFault = Unit {0}
IsPlan (plan.TooManyFiles number) = number < 2 ^ 64

abbrev pub IsEnd : FeedEnd → Type 0
IsEnd ends.Completed = Unit {0}
IsEnd (ends.Stopped log) = IsLog log
IsEnd ends.ReadError = Unit {0}
IsEnd ends.Modified = Unit {0}

-- the format is csv, and the parallelism one of four
abbrev pub IsRequest : LoadRequest → Type 0
IsRequest request =
    (IsShortText request.source × (is_kept_source request.source ≡ true))
    × ((request.format ≡ 0) × ((request.parallelism < 4)
    × IsList (λ id. id < 2 ^ 128) request.dependencies))

abbrev pub IsEntry : Entry → Type 0
IsEntry (Submit moment job id request) =
    (moment < 2 ^ 64) × ((job < 2 ^ 32) × ((id < 2 ^ 128) × IsRequest request))
IsEntry (Cancel moment job) = (moment < 2 ^ 64) × (job < 2 ^ 32)
IsEntry (Start moment job planned) = (moment < 2 ^ 64) × ((job < 2 ^ 32) × IsPlan planned)
IsEntry (Batch moment job feed from rows digest duplicates logs changes) =
    (moment < 2 ^ 64) × ((job < 2 ^ 32)
    × ((feed < 2 ^ 32) × ((from < 2 ^ 64)
    × ((rows < 2 ^ 32) × (IsDigest digest
    × ((duplicates < 2 ^ 32) × (IsList IsLog logs × IsList IsChange changes)))))))
IsEntry (End moment job feed how) =
    (moment < 2 ^ 64) × ((job < 2 ^ 32) × ((feed < 2 ^ 32) × IsEnd how))
