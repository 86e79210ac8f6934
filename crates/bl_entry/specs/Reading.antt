-- Entries read from left to right: a part is a value and the bytes that follow it.
use Rattle.std.specs.Prelude.{◌≡◌, ℕ, zero, suc, ◌+◌, ◌*◌, ◌^◌, ℤ, pos, negsuc, nat_lt, nat_le, ◌==◌, Bool as Truth, true, false, ◌&&◌, if◌then◌else◌, List, [], ◌∷◌, length, take, drop, Result, Ok, Err, Some, None}
use Rattle.std.specs.declared.option.Option.{Option}
use Rattle.std.specs.List.{find}
use Rattle.std.specs.Str.{is_utf8}
use Rattle.std.specs.Int.{Width, w8, w16, w32, w64, byte_len, from_be_bytes, cast_signed}
use Rattle.bl_outside.specs.declared.digest.Digest.{Digest}
use Rattle.bl_value.specs.declared.log_code.LogCode.{LogCode}
use Rattle.bl_value.specs.declared.log_code.LogCode.TheVariants.{ColumnCount, NotUtf8, RecordTooLarge, MissingId, IdTooLong, NotOfType, OutOfRange, TooManyValues, FromMissing, ToMissing, EdgeConflict, SingleConflict, Header, Compressed, ReadFault, FileTooLarge, FeedModified, SourceNotFound, ListFault, TooManyFiles, NoPreviousLoad}
use Rattle.bl_value.specs.declared.column.Side.{Side}
use Rattle.bl_value.specs.declared.column.Side.TheVariants as side
use Rattle.bl_value.specs.declared.value.Value.{Value}
use Rattle.bl_value.specs.declared.value.Value.TheVariants.{Bool, Byte, Short, Int, Long, Str, Date}
use Rattle.bl_value.specs.declared.change.Change.{Change}
use Rattle.bl_value.specs.declared.change.Change.TheVariants.{AddLabel, AddEdge, AddValue, RemoveValue}
use Rattle.bl_files.specs.Sources.{is_kept_source}
use Rattle.bl_files.specs.declared.log.Log.{Log}
use Rattle.bl_files.specs.declared.feed_kind.FeedKind.{FeedKind}
use Rattle.bl_files.specs.declared.feed_kind.FeedKind.TheVariants as kind
use Rattle.bl_files.specs.declared.found.Found.{Found}
use Rattle.bl_files.specs.declared.plan_result.PlanResult.{PlanResult}
use Rattle.bl_files.specs.declared.plan_result.PlanResult.TheVariants as plan
use Rattle.bl_files.specs.declared.feed_end.FeedEnd.{FeedEnd}
use Rattle.bl_files.specs.declared.feed_end.FeedEnd.TheVariants as ends
use Rattle.bl_files.specs.declared.mode.Mode.{Mode}
use Rattle.bl_files.specs.declared.mode.Mode.TheVariants.{New, Resume, Auto}
use Rattle.bl_files.specs.declared.load_request.LoadRequest.{LoadRequest}
use Rattle.bl_entry.specs.declared.entry.Entry.{Entry}
use Rattle.bl_entry.specs.declared.entry.Entry.TheVariants.{Submit, Cancel, Start, Batch, FeedEnd as End}
use Rattle.bl_entry.specs.declared.refusal.EntryRefusal.{EntryRefusal}
use Rattle.bl_entry.specs.declared.refusal.EntryRefusal.TheVariants.{NotAnEntry, NoMemory}
use Rattle.bl_entry.specs.Encoding.{code_number}

-- what a reader answers of what is read, where memory is there
abbrev pub Gives : {X Y : Type 0} → (X → Y) → Result X EntryRefusal → Option Y → Type 0
Gives view (Ok x) read = read ≡ Some (view x)
Gives view (Err NotAnEntry) read = read ≡ None
Gives view (Err NoMemory) read = Unit {0}

infixl 10 ◌>>=◌
abbrev pub ◌>>=◌ : {A B : Type 0} → Option A → (A → Option B) → Option B
(Some x) >>= f = f x
None >>= f = None

abbrev pub Part : Type 0 → Type 0
Part X = List ℕ → Option (X × List ℕ)

-- one part after another
abbrev pub both_at : {A B : Type 0} → Part A → Part B → Part (A × B)
both_at a b bytes = a bytes >>= λ x. b x.1 >>= λ y. Some ((x.0, y.0), y.1)

-- a part made of another
abbrev pub made_at : {A X : Type 0} → (A → X) → Part A → Part X
made_at f a bytes = a bytes >>= λ x. Some (f x.0, x.1)

-- a part that passes a test
abbrev pub tested_at : {A : Type 0} → (A → Truth) → Part A → Part A
tested_at test a bytes = a bytes >>= λ x. if test x.0 then Some x else None

-- as many items
abbrev pub items_at : {A : Type 0} → Part A → ℕ → Part (List A)
items_at a zero bytes = Some ([], bytes)
items_at a (suc n) bytes = a bytes >>= λ x. items_at a n x.1 >>= λ xs. Some (x.0 ∷ xs.0, xs.1)

-- as many bytes
abbrev pub front_at : ℕ → Part (List ℕ)
front_at n bytes = if nat_lt (length bytes) n then None else Some (take n bytes, drop n bytes)

abbrev pub number_at : Width → Part ℕ
number_at w bytes = made_at (from_be_bytes w) (front_at (byte_len w)) bytes

-- the high half, and the low one
unfoldable pub long_at : Part ℕ
long_at bytes = made_at (λ x. x.0 * 2 ^ 64 + x.1) (both_at (number_at w64) (number_at w64)) bytes

abbrev pub signed_at : Width → Part ℤ
signed_at w bytes = made_at (cast_signed w) (number_at w) bytes

abbrev pub list_at : {A : Type 0} → Part A → Part (List A)
list_at a bytes = number_at w32 bytes >>= λ n. items_at a n.0 n.1

unfoldable pub truth_at : Part Truth
truth_at [] = None
truth_at (zero ∷ rest) = Some (false, rest)
truth_at (suc zero ∷ rest) = Some (true, rest)
truth_at (suc (suc b) ∷ rest) = None

unfoldable pub text_at : Part (List ℕ)
text_at bytes = number_at w32 bytes >>= λ n. tested_at is_utf8 (front_at n.0) n.1

unfoldable pub digest_at : Part Digest
digest_at bytes = made_at (λ b. record { bytes = b }) (front_at 32) bytes

-- a text of 1 to so many bytes
abbrev pub is_within : ℕ → List ℕ → Truth
is_within most text = nat_le 1 (length text) && nat_le (length text) most

unfoldable pub short_at : ℕ → Part (List ℕ)
short_at most bytes = tested_at (is_within most) text_at bytes

-- ---- logs

abbrev pub all_codes : List LogCode
all_codes =
    ColumnCount ∷ (NotUtf8 ∷ (RecordTooLarge
    ∷ (MissingId ∷ (IdTooLong ∷ (NotOfType
    ∷ (OutOfRange ∷ (TooManyValues ∷ (FromMissing ∷ (ToMissing ∷ (EdgeConflict ∷ (SingleConflict
    ∷ (Header ∷ (Compressed ∷ (ReadFault
    ∷ (FileTooLarge ∷ (FeedModified
    ∷ (SourceNotFound ∷ (ListFault ∷ (TooManyFiles ∷ (NoPreviousLoad ∷ []))))))))))))))))))))

unfoldable pub code_of : ℕ → Option LogCode
code_of number = find (λ code. code_number code == number) all_codes

unfoldable pub code_at : Part LogCode
code_at [] = None
code_at (number ∷ rest) = code_of number >>= λ code. Some (code, rest)

unfoldable pub log_at : Part Log
log_at bytes = made_at (λ x. record { code = x.0; number = x.1.0; column = x.1.1 })
    (both_at code_at (both_at (number_at w64) (number_at w32))) bytes

-- ---- changes

unfoldable pub side_at : Part Side
side_at [] = None
side_at (zero ∷ rest) = Some (side.Vertex, rest)
side_at (suc zero ∷ rest) = Some (side.Edge, rest)
side_at (suc (suc b) ∷ rest) = None

-- from year 0000 to year 9999
abbrev pub is_date : ℤ → Truth
is_date (pos n) = nat_le n 253402300799
is_date (negsuc n) = nat_le n 62167219199

unfoldable pub value_at : Part Value
value_at [] = None
value_at (zero ∷ rest) = None
value_at (suc zero ∷ rest) = made_at Bool truth_at rest
value_at (suc (suc zero) ∷ rest) = made_at Byte (signed_at w8) rest
value_at (suc (suc (suc zero)) ∷ rest) = made_at Short (signed_at w16) rest
value_at (suc (suc (suc (suc zero))) ∷ rest) = made_at Int (signed_at w32) rest
value_at (suc (suc (suc (suc (suc zero)))) ∷ rest) = made_at Long (signed_at w64) rest
value_at (suc (suc (suc (suc (suc (suc zero))))) ∷ rest) = made_at Str text_at rest
value_at (suc (suc (suc (suc (suc (suc (suc zero)))))) ∷ rest) =
    made_at Date (tested_at is_date (signed_at w64)) rest
value_at (suc (suc (suc (suc (suc (suc (suc (suc b))))))) ∷ rest) = None

-- the side, the id, the key and the value
unfoldable pub property_at : Part (Side × (List ℕ × (List ℕ × Value)))
property_at bytes = both_at side_at (both_at (short_at 1024) (both_at (short_at 256) value_at))
    bytes

unfoldable pub change_at : Part Change
change_at [] = None
change_at (zero ∷ rest) = None
change_at (suc zero ∷ rest) = made_at (λ x. AddLabel x.0 x.1)
    (both_at (short_at 1024) (short_at 1024)) rest
change_at (suc (suc zero) ∷ rest) =
    made_at (λ x. AddEdge x.0 x.1.0 x.1.1.0 x.1.1.1)
    (both_at (short_at 1024) (both_at (short_at 1024) (both_at (short_at 1024) (short_at 1024))))
    rest
change_at (suc (suc (suc zero)) ∷ rest) =
    made_at (λ x. AddValue x.0 x.1.0 x.1.1.0 x.1.1.1) property_at rest
change_at (suc (suc (suc (suc zero))) ∷ rest) =
    made_at (λ x. RemoveValue x.0 x.1.0 x.1.1.0 x.1.1.1) property_at rest
change_at (suc (suc (suc (suc (suc b)))) ∷ rest) = None

-- ---- files, plans, ends

unfoldable pub kind_at : Part FeedKind
kind_at [] = None
kind_at (zero ∷ rest) = Some (kind.Vertex, rest)
kind_at (suc zero ∷ rest) = Some (kind.Edge, rest)
kind_at (suc (suc zero) ∷ rest) =
    made_at (λ x. kind.Refused x.0 x.1) (both_at code_at (number_at w32)) rest
kind_at (suc (suc (suc b)) ∷ rest) = None

unfoldable pub found_at : Part Found
found_at bytes = made_at (λ x. record { name = x.0; kind = x.1.0; digest = x.1.1 })
    (both_at text_at (both_at kind_at digest_at)) bytes

unfoldable pub plan_at : Part PlanResult
plan_at [] = None
plan_at (zero ∷ rest) = made_at plan.Feeds (list_at found_at) rest
plan_at (suc zero ∷ rest) = Some (plan.NoPrevious, rest)
plan_at (suc (suc zero) ∷ rest) = Some (plan.SourceNotFound, rest)
plan_at (suc (suc (suc zero)) ∷ rest) = Some (plan.ListFault, rest)
plan_at (suc (suc (suc (suc zero))) ∷ rest) = made_at plan.TooManyFiles (number_at w64) rest
plan_at (suc (suc (suc (suc (suc b)))) ∷ rest) = None

unfoldable pub end_at : Part FeedEnd
end_at [] = None
end_at (zero ∷ rest) = Some (ends.Completed, rest)
end_at (suc zero ∷ rest) = made_at ends.Stopped log_at rest
end_at (suc (suc zero) ∷ rest) = Some (ends.ReadError, rest)
end_at (suc (suc (suc zero)) ∷ rest) = Some (ends.Modified, rest)
end_at (suc (suc (suc (suc b))) ∷ rest) = None

-- ---- requests

unfoldable pub mode_at : Part Mode
mode_at [] = None
mode_at (zero ∷ rest) = Some (New, rest)
mode_at (suc zero ∷ rest) = Some (Resume, rest)
mode_at (suc (suc zero) ∷ rest) = Some (Auto, rest)
mode_at (suc (suc (suc b)) ∷ rest) = None

-- a byte below a limit
unfoldable pub below_at : ℕ → Part ℕ
below_at limit [] = None
below_at limit (byte ∷ rest) = if nat_lt byte limit then Some (byte, rest) else None

unfoldable pub source_at : Part (List ℕ)
source_at bytes = tested_at is_kept_source text_at bytes

unfoldable pub request_at : Part LoadRequest
request_at bytes =
    made_at (λ x. record {
      source = x.0;
      format = x.1.0;
      mode = x.1.1.0;
      fail_on_error = x.1.1.1.0;
      update_single = x.1.1.1.1.0;
      parallelism = x.1.1.1.1.1.0;
      queue = x.1.1.1.1.1.1.0;
      dependencies = x.1.1.1.1.1.1.1;
    })
    (both_at source_at (both_at (below_at 1)
    (both_at mode_at (both_at truth_at
    (both_at truth_at (both_at (below_at 4) (both_at truth_at (list_at long_at))))))))
    bytes

-- ---- entries

unfoldable pub submit_at : Part Entry
submit_at bytes = made_at (λ x. Submit x.0 x.1.0 x.1.1.0 x.1.1.1)
    (both_at (number_at w64) (both_at (number_at w32) (both_at long_at request_at))) bytes

unfoldable pub cancel_at : Part Entry
cancel_at bytes = made_at (λ x. Cancel x.0 x.1) (both_at (number_at w64) (number_at w32)) bytes

unfoldable pub start_at : Part Entry
start_at bytes = made_at (λ x. Start x.0 x.1.0 x.1.1)
    (both_at (number_at w64) (both_at (number_at w32) plan_at)) bytes

unfoldable pub batch_at : Part Entry
batch_at bytes =
    made_at (λ x. Batch x.0 x.1.0 x.1.1.0 x.1.1.1.0 x.1.1.1.1.0 x.1.1.1.1.1.0 x.1.1.1.1.1.1.0
    x.1.1.1.1.1.1.1.0 x.1.1.1.1.1.1.1.1)
    (both_at (number_at w64) (both_at (number_at w32)
    (both_at (number_at w32) (both_at (number_at w64)
    (both_at (number_at w32) (both_at digest_at
    (both_at (number_at w32) (both_at (list_at log_at) (list_at change_at)))))))))
    bytes

unfoldable pub feed_end_at : Part Entry
feed_end_at bytes = made_at (λ x. End x.0 x.1.0 x.1.1.0 x.1.1.1)
    (both_at (number_at w64) (both_at (number_at w32) (both_at (number_at w32) end_at))) bytes

unfoldable pub entry_at : Part Entry
entry_at [] = None
entry_at (zero ∷ rest) = None
entry_at (suc zero ∷ rest) = submit_at rest
entry_at (suc (suc zero) ∷ rest) = cancel_at rest
entry_at (suc (suc (suc zero)) ∷ rest) = start_at rest
entry_at (suc (suc (suc (suc zero))) ∷ rest) = batch_at rest
entry_at (suc (suc (suc (suc (suc zero)))) ∷ rest) = feed_end_at rest
entry_at (suc (suc (suc (suc (suc (suc b))))) ∷ rest) = None

-- nothing may follow
unfoldable pub whole_at : List ℕ → Option Entry
whole_at bytes = entry_at bytes >>= λ x. if length x.1 == 0 then Some x.0 else None
