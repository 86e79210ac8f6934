-- Parameters of requests: numbers, and what a page is asked for (Neptune User Guide, "Neptune Streams API").
use Rattle.std.specs.Prelude.{ℕ, ◌-◌, ◌^◌, nat_le, nat_lt, Bool, true, false, ◌&&◌, if◌then◌else◌, codes, is_some, None, Some, List, length, Result, Ok, Err}
use Rattle.std.specs.declared.option.Option.{Option}
use Rattle.std.specs.Char.{is_ascii_digit}
use Rattle.std.specs.List.{list_all}
use Rattle.std.specs.Str.Parse.{digits_value}
use Rattle.bl_stream.specs.declared.page_ask.Iterator4.{Iterator4}
use Rattle.bl_stream.specs.declared.page_ask.Iterator4.TheVariants.{At, After, TrimHorizon, Latest}
use Rattle.bl_stream.specs.declared.page_ask.PageAsk.{PageAsk}
use Rattle.bl_feed.specs.LoadBodies.{is, needs}
use Rattle.bl_feed.specs.declared.iterator_type.IteratorType.{IteratorType}
use Rattle.bl_feed.specs.declared.iterator_type.IteratorType.TheVariants as type
use Rattle.bl_feed.specs.declared.stream_parameter.StreamParameter.{StreamParameter}
use Rattle.bl_feed.specs.declared.stream_parameter.StreamParameter.TheVariants as parameter

-- a number of 1 to 20 digits
abbrev pub is_number : List ℕ → Bool
is_number text = nat_lt 0 (length text) && (nat_le (length text) 20 && list_all is_ascii_digit text)

-- the number that such a text writes, where it lies in the range
abbrev pub number_in : ℕ → ℕ → List ℕ → Option ℕ
number_in least most text =
    if is_number text && (nat_le least (digits_value 10 text) && nat_le (digits_value 10 text) most) then Some (digits_value 10 text) else None

-- a number in a range, or the default where none is given
abbrev pub number_or : ℕ → ℕ → ℕ → Option (List ℕ) → Option ℕ
number_or default least most None = Some default
number_or default least most (Some text) = number_in least most text

-- the greatest number of a commit, and of an operation
abbrev pub greatest : ℕ
greatest = 2 ^ 64 - 1

-- where a page begins, by the name of it
abbrev pub type_named : List ℕ → Option IteratorType
type_named name =
    if is name (codes "AT_SEQUENCE_NUMBER") then Some type.AtSequenceNumber
    else if is name (codes "AFTER_SEQUENCE_NUMBER") then Some type.AfterSequenceNumber
    else if is name (codes "TRIM_HORIZON") then Some type.TrimHorizon
    else if is name (codes "LATEST") then Some type.Latest else None

-- without a name a page begins at the commit that is given, where one is
abbrev pub type_asked : Option (List ℕ) → Bool → Option IteratorType
type_asked (Some name) with_commit = type_named name
type_asked None true = Some type.AtSequenceNumber
type_asked None false = None

-- a page that begins at a pair, or after one
abbrev pub needs_commit : IteratorType → Bool
needs_commit type.AtSequenceNumber = true
needs_commit type.AfterSequenceNumber = true
needs_commit type.TrimHorizon = false
needs_commit type.Latest = false

-- the commit of that pair; elsewhere it is looked at and unused
abbrev pub commit_asked : Bool → Option (List ℕ) → Option ℕ
commit_asked true None = None
commit_asked false None = Some 0
commit_asked needed (Some text) = number_in 0 greatest text

abbrev pub iterator_at : IteratorType → ℕ → ℕ → Iterator4
iterator_at type.AtSequenceNumber commit op = At commit op
iterator_at type.AfterSequenceNumber commit op = After commit op
iterator_at type.TrimHorizon commit op = TrimHorizon
iterator_at type.Latest commit op = Latest

-- what a page is asked for by the values that are given, or the first parameter that is refused
abbrev pub page_asked : Option (List ℕ) → Option (List ℕ) → Option (List ℕ) → Option (List ℕ) → Result PageAsk StreamParameter
page_asked limit iterator_type commit_num op_num =
    needs parameter.Limit (number_or 10 1 100000 limit) (λ limit.
    needs parameter.IteratorType (type_asked iterator_type (is_some commit_num)) (λ begins.
    needs parameter.CommitNum (commit_asked (needs_commit begins) commit_num) (λ commit.
    needs parameter.OpNum (number_or 1 0 greatest op_num) (λ op.
    Ok (record { iterator = iterator_at begins commit op; limit = limit })))))

-- the name of a parameter
abbrev pub parameter_name : StreamParameter → List ℕ
parameter_name parameter.Limit = codes "limit"
parameter_name parameter.IteratorType = codes "iteratorType"
parameter_name parameter.CommitNum = codes "commitNum"
parameter_name parameter.OpNum = codes "opNum"
