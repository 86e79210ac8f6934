-- For private clauses: words that ask to show something, read from front to back.
use Rattle.std.specs.Prelude.{ℕ, Bool, true, false, ◌&&◌, not, is_some, if◌then◌else◌, codes, option_map, List, [], ◌∷◌, Some, None, Result, Ok, Err}
use Rattle.std.specs.declared.option.Option.{Option}
use Rattle.bl_stream.specs.declared.page_ask.PageAsk.{PageAsk}
use Rattle.bl_feed.specs.LoadBodies.{id_in}
use Rattle.bl_feed.specs.Parameters.{number_in, page_asked}
use Rattle.bl_feed.specs.declared.stream_parameter.StreamParameter.{StreamParameter}
use Rattle.bl_feed.specs.declared.stream_parameter.StreamParameter.TheVariants.{Limit, IteratorType, CommitNum, OpNum}
use Rattle.bl_cli.specs.declared.command.Look.{Look}
use Rattle.bl_cli.specs.declared.command.Look.TheVariants as look
use Rattle.bl_cli.specs.Options.{is_word}
use Rattle.bl_cli.specs.Commands.{option_name}

-- ---- options with a value each

abbrev pub parameter_named : List ℕ → Option StreamParameter
parameter_named word =
    if is_word word (codes "--limit") then Some Limit
    else if is_word word (codes "--type") then Some IteratorType
    else if is_word word (codes "--commit") then Some CommitNum else if is_word word (codes "--op") then Some OpNum else None

abbrev pub value_in : StreamParameter → List (List ℕ) → Option (List ℕ)
value_in it [] = None
value_in it (name ∷ []) = None
value_in it (name ∷ (value ∷ rest)) = if is_word name (option_name it) then Some value else value_in it rest

-- it isn't among others
abbrev pub is_new_one : Option StreamParameter → List (List ℕ) → Bool
is_new_one None others = false
is_new_one (Some it) others = not (is_some (value_in it others))

abbrev pub is_new : List ℕ → List (List ℕ) → Bool
is_new word others = is_new_one (parameter_named word) others

abbrev pub are_options : List (List ℕ) → Bool
are_options [] = true
are_options (name ∷ []) = false
are_options (name ∷ (value ∷ rest)) = is_new name rest && are_options rest

abbrev pub page_or_none : {E : Type 0} → Result PageAsk E → Option PageAsk
page_or_none (Ok ask) = Some ask
page_or_none (Err refused) = None

abbrev pub page_in : List (List ℕ) → Option PageAsk
page_in words =
    if are_options words then page_or_none (page_asked (value_in Limit words) (value_in IteratorType words) (value_in CommitNum words) (value_in OpNum words)) else None

-- ---- what is to be shown

abbrev pub status_in : List (List ℕ) → Option Look
status_in [] = Some look.Loads
status_in (id ∷ []) = Some (look.Load (id_in id))
status_in (id ∷ (more ∷ rest)) = None

abbrev pub page_shown : List (List ℕ) → Option Look
page_shown words = option_map (λ ask. look.Page ask) (page_in words)

abbrev pub look_in : List (List ℕ) → Option Look
look_in [] = None
look_in (word ∷ rest) =
    if is_word word (codes "status") then status_in rest else if is_word word (codes "stream") then page_shown rest else None

-- ---- how many turns a script makes behind each reply

abbrev pub turns_in : List (List ℕ) → Option ℕ
turns_in [] = Some 1
turns_in (name ∷ []) = None
turns_in (name ∷ (turns ∷ [])) = if is_word name (codes "--turns") then number_in 0 1000 turns else None
turns_in (name ∷ (turns ∷ (more ∷ rest))) = None

abbrev pub script_in : List (List ℕ) → Option ℕ
script_in [] = None
script_in (word ∷ rest) = if is_word word (codes "script") then turns_in rest else None

-- ---- help

abbrev pub is_help : List (List ℕ) → Bool
is_help [] = false
is_help (word ∷ []) = is_word word (codes "help")
is_help (word ∷ (more ∷ rest)) = false
