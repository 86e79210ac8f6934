-- The bytes of an entry, part by part. Numbers are big-endian, signed ones in two's complement.
use Rattle.std.specs.Prelude.{ℕ, ◌/◌, ◌%◌, ◌^◌, Bool as Truth, true, false, List, [], ◌∷◌, ◌++◌, length}
use Rattle.std.specs.Int.{w8, w16, w32, w64, to_be_bytes, cast_unsigned}
use Rattle.std.specs.List.{flat_map}
use Rattle.bl_outside.specs.declared.digest.Digest.{Digest}
use Rattle.bl_value.specs.declared.log_code.LogCode.{LogCode}
use Rattle.bl_value.specs.declared.log_code.LogCode.TheVariants.{ColumnCount, NotUtf8, RecordTooLarge, MissingId, IdTooLong, NotOfType, OutOfRange, TooManyValues, FromMissing, ToMissing, EdgeConflict, SingleConflict, Header, Compressed, ReadFault, FileTooLarge, FeedModified, SourceNotFound, ListFault, TooManyFiles, NoPreviousLoad}
use Rattle.bl_value.specs.declared.column.Side.{Side}
use Rattle.bl_value.specs.declared.column.Side.TheVariants as side
use Rattle.bl_value.specs.declared.value.Value.{Value}
use Rattle.bl_value.specs.declared.value.Value.TheVariants.{Bool, Byte, Short, Int, Long, Str, Date}
use Rattle.bl_value.specs.declared.change.Change.{Change}
use Rattle.bl_value.specs.declared.change.Change.TheVariants.{AddLabel, AddEdge, AddValue, RemoveValue}
use Rattle.bl_files.specs.declared.log.Log.{Log}
use Rattle.bl_files.specs.declared.feed_kind.FeedKind.{FeedKind}
use Rattle.bl_files.specs.declared.feed_kind.FeedKind.TheVariants as kind
use Rattle.bl_files.specs.declared.found.Found.{Found}
use Rattle.bl_files.specs.declared.plan_result.PlanResult.{PlanResult}
use Rattle.bl_files.specs.declared.plan_result.PlanResult.TheVariants as plan
use Rattle.bl_files.specs.declared.feed_end.FeedEnd.{FeedEnd}
use Rattle.bl_files.specs.declared.feed_end.FeedEnd.TheVariants as ends
use Rattle.bl_files.specs.declared.mode.Mode.{Mode}
use Rattle.bl_files.specs.declared.mode.Mode.TheVariants.{New, Resume, Auto}
use Rattle.bl_files.specs.declared.load_request.LoadRequest.{LoadRequest}
use Rattle.bl_entry.specs.declared.entry.Entry.{Entry}
use Rattle.bl_entry.specs.declared.entry.Entry.TheVariants.{Submit, Cancel, Start, Batch, FeedEnd as End}

-- ---- numbers, texts, lists

abbrev pub u8_bytes : ℕ → List ℕ
u8_bytes n = n ∷ []

abbrev pub u32_bytes : ℕ → List ℕ
u32_bytes n = to_be_bytes w32 n

abbrev pub u64_bytes : ℕ → List ℕ
u64_bytes n = to_be_bytes w64 n

-- the high half, and the low one
abbrev pub u128_bytes : ℕ → List ℕ
u128_bytes n = u64_bytes (n / 2 ^ 64) ++ u64_bytes (n % 2 ^ 64)

abbrev pub truth_bytes : Truth → List ℕ
truth_bytes false = 0 ∷ []
truth_bytes true = 1 ∷ []

-- the length, and the bytes
abbrev pub text_bytes : List ℕ → List ℕ
text_bytes text = u32_bytes (length text) ++ text

-- the number of items, and the items
abbrev pub list_bytes : {A : Type 0} → (A → List ℕ) → List A → List ℕ
list_bytes item_bytes items = u32_bytes (length items) ++ flat_map item_bytes items

abbrev pub digest_bytes : Digest → List ℕ
digest_bytes digest = digest.bytes

-- ---- logs

abbrev pub code_number : LogCode → ℕ
code_number ColumnCount = 1
code_number NotUtf8 = 2
code_number RecordTooLarge = 3
code_number MissingId = 4
code_number IdTooLong = 5
code_number NotOfType = 6
code_number OutOfRange = 7
code_number TooManyValues = 8
code_number FromMissing = 9
code_number ToMissing = 10
code_number EdgeConflict = 11
code_number SingleConflict = 12
code_number Header = 20
code_number Compressed = 21
code_number ReadFault = 22
code_number FileTooLarge = 23
code_number FeedModified = 24
code_number SourceNotFound = 30
code_number ListFault = 31
code_number TooManyFiles = 32
code_number NoPreviousLoad = 33

abbrev pub code_bytes : LogCode → List ℕ
code_bytes code = u8_bytes (code_number code)

abbrev pub log_bytes : Log → List ℕ
log_bytes log = code_bytes log.code ++ (u64_bytes log.number ++ u32_bytes log.column)

-- ---- changes

abbrev pub side_bytes : Side → List ℕ
side_bytes side.Vertex = u8_bytes 0
side_bytes side.Edge = u8_bytes 1

abbrev pub value_bytes : Value → List ℕ
value_bytes (Bool b) = u8_bytes 1 ++ truth_bytes b
value_bytes (Byte n) = u8_bytes 2 ++ to_be_bytes w8 (cast_unsigned w8 n)
value_bytes (Short n) = u8_bytes 3 ++ to_be_bytes w16 (cast_unsigned w16 n)
value_bytes (Int n) = u8_bytes 4 ++ to_be_bytes w32 (cast_unsigned w32 n)
value_bytes (Long n) = u8_bytes 5 ++ to_be_bytes w64 (cast_unsigned w64 n)
value_bytes (Str text) = u8_bytes 6 ++ text_bytes text
value_bytes (Date n) = u8_bytes 7 ++ to_be_bytes w64 (cast_unsigned w64 n)

abbrev pub change_bytes : Change → List ℕ
change_bytes (AddLabel id label) = u8_bytes 1 ++ (text_bytes id ++ text_bytes label)
change_bytes (AddEdge id label from to) =
    u8_bytes 2 ++ (text_bytes id ++ (text_bytes label ++ (text_bytes from ++ text_bytes to)))
change_bytes (AddValue s id key value) =
    u8_bytes 3 ++ (side_bytes s ++ (text_bytes id ++ (text_bytes key ++ value_bytes value)))
change_bytes (RemoveValue s id key value) =
    u8_bytes 4 ++ (side_bytes s ++ (text_bytes id ++ (text_bytes key ++ value_bytes value)))

-- ---- files, plans, ends

abbrev pub kind_bytes : FeedKind → List ℕ
kind_bytes kind.Vertex = u8_bytes 0
kind_bytes kind.Edge = u8_bytes 1
kind_bytes (kind.Refused code column) = u8_bytes 2 ++ (code_bytes code ++ u32_bytes column)

abbrev pub found_bytes : Found → List ℕ
found_bytes found = text_bytes found.name ++ (kind_bytes found.kind ++ digest_bytes found.digest)

abbrev pub plan_bytes : PlanResult → List ℕ
plan_bytes (plan.Feeds found) = u8_bytes 0 ++ list_bytes found_bytes found
plan_bytes plan.NoPrevious = u8_bytes 1
plan_bytes plan.SourceNotFound = u8_bytes 2
plan_bytes plan.ListFault = u8_bytes 3
plan_bytes (plan.TooManyFiles number) = u8_bytes 4 ++ u64_bytes number

abbrev pub end_bytes : FeedEnd → List ℕ
end_bytes ends.Completed = u8_bytes 0
end_bytes (ends.Stopped log) = u8_bytes 1 ++ log_bytes log
end_bytes ends.ReadError = u8_bytes 2
end_bytes ends.Modified = u8_bytes 3

-- ---- requests

abbrev pub mode_bytes : Mode → List ℕ
mode_bytes New = u8_bytes 0
mode_bytes Resume = u8_bytes 1
mode_bytes Auto = u8_bytes 2

abbrev pub request_bytes : LoadRequest → List ℕ
request_bytes request =
    text_bytes request.source ++ (u8_bytes request.format
    ++ (mode_bytes request.mode ++
    (truth_bytes request.fail_on_error ++ (truth_bytes request.update_single
    ++ (u8_bytes request.parallelism
    ++ (truth_bytes request.queue ++ list_bytes u128_bytes request.dependencies))))))

-- ---- entries

abbrev pub entry_bytes : Entry → List ℕ
entry_bytes (Submit moment job id request) =
    u8_bytes 1 ++ (u64_bytes moment ++ (u32_bytes job ++ (u128_bytes id ++ request_bytes request)))
entry_bytes (Cancel moment job) = u8_bytes 2 ++ (u64_bytes moment ++ u32_bytes job)
entry_bytes (Start moment job planned) =
    u8_bytes 3 ++ (u64_bytes moment ++ (u32_bytes job ++ plan_bytes planned))
entry_bytes (Batch moment job feed from rows digest duplicates logs changes) =
    u8_bytes 4 ++ (u64_bytes moment
    ++ (u32_bytes job ++ (u32_bytes feed
    ++ (u64_bytes from ++ (u32_bytes rows ++ (digest_bytes digest
    ++ (u32_bytes duplicates ++ (list_bytes log_bytes logs
    ++ list_bytes change_bytes changes))))))))
entry_bytes (End moment job feed how) =
    u8_bytes 5 ++ (u64_bytes moment ++ (u32_bytes job ++ (u32_bytes feed ++ end_bytes how)))
