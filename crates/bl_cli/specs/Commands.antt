-- The words of the command line.
use Rattle.std.specs.Prelude.{◌≡◌, ◌≢◌, ◌⊎◌, ◌≤◌, ◌==◌, ℕ, if◌then◌else◌, codes, List, [], ◌∷◌, Some, None, Ok}
use Rattle.std.specs.declared.option.Option.{Option}
use Rattle.std.specs.List.{AllPairs, flat_map}
use Rattle.bl_entry.specs.Valid.{IsRequest}
use Rattle.bl_stream.specs.declared.page_ask.PageAsk.{PageAsk}
use Rattle.bl_feed.specs.LoadBodies.{id_in}
use Rattle.bl_feed.specs.Parameters.{number_in, page_asked}
use Rattle.bl_feed.specs.declared.stream_parameter.StreamParameter.{StreamParameter}
use Rattle.bl_feed.specs.declared.stream_parameter.StreamParameter.TheVariants.{Limit, IteratorType, CommitNum, OpNum}
use Rattle.bl_cli.specs.declared.command.Look.{Look}
use Rattle.bl_cli.specs.declared.command.Look.TheVariants as look
use Rattle.bl_cli.specs.declared.command.Command.{Command}
use Rattle.bl_cli.specs.declared.command.Command.TheVariants as command
use Rattle.bl_cli.specs.Words.{AsksForLoad, IsPlain}

-- ---- the options of `stream`

abbrev pub option_name : StreamParameter → List ℕ
option_name Limit = codes "--limit"
option_name IteratorType = codes "--type"
option_name CommitNum = codes "--commit"
option_name OpNum = codes "--op"

-- they are these four
abbrev pub place : StreamParameter → ℕ
place Limit = 1
place IteratorType = 2
place CommitNum = 3
place OpNum = 4

-- an option and its value
abbrev pub Given : Type 0
Given = StreamParameter × List ℕ

abbrev pub given_words : StreamParameter × List ℕ → List (List ℕ)
given_words given = option_name given.0 ∷ (given.1 ∷ [])

-- none is given twice
abbrev pub AreGivenOnce : List (StreamParameter × List ℕ) → Type 0
AreGivenOnce given = AllPairs (λ a b. place a.0 ≢ place b.0) given

-- the value of an option that is given
abbrev pub value_of : StreamParameter → List (StreamParameter × List ℕ) → Option (List ℕ)
value_of it [] = None
value_of it (given ∷ more) = if place given.0 == place it then Some given.1 else value_of it more

-- `stream`, and options in any order, each at most once, whose values ask for this page
pub record AsksForPage (words : List (List ℕ)) (ask : PageAsk) : Type 0 where
  pub given : List (StreamParameter × List ℕ)
  pub words_are : words ≡ codes "stream" ∷ flat_map given_words given
  pub once : AreGivenOnce given
  pub ask_is : page_asked (value_of Limit given) (value_of IteratorType given) (value_of CommitNum given) (value_of OpNum given) ≡ Ok ask

-- ---- all commands

-- `status`, `status` and a text that names an id, or `stream`
abbrev pub AsksToShow : List (List ℕ) → Look → Type 0
AsksToShow words look.Loads = words ≡ codes "status" ∷ []
AsksToShow words (look.Load id) = (text : List ℕ) × (words ≡ codes "status" ∷ (text ∷ [])) × (id ≡ id_in text)
AsksToShow words (look.Page ask) = AsksForPage words ask

-- `script`, and how many turns are made behind each reply: one, or as many as are asked for
abbrev pub AsksForScript : List (List ℕ) → ℕ → Type 0
AsksForScript words turns =
    ((words ≡ codes "script" ∷ []) × (turns ≡ 1))
    ⊎ ((text : List ℕ) × (words ≡ codes "script" ∷ (codes "--turns" ∷ (text ∷ []))) × (number_in 0 1000 text ≡ Some turns))

abbrev pub AsksFor : List (List ℕ) → Command → Type 0
AsksFor words (command.Load load) = AsksForLoad words load
AsksFor words (command.Script turns) = AsksForScript words turns
AsksFor words (command.Show what) = AsksToShow words what
AsksFor words command.Help = words ≡ codes "help" ∷ []

-- The words are outside the grammar.
abbrev pub AskForNothing : List (List ℕ) → Type 0
AskForNothing words = (asked : Command) → ¬ AsksFor words asked

-- ---- what is asked for lies in its ranges

abbrev pub IsLook : Look → Type 0
IsLook look.Loads = Unit {0}
IsLook (look.Load id) = Unit {0}
IsLook (look.Page ask) = (1 ≤ ask.limit) × (ask.limit ≤ 100000)

abbrev pub IsCommand : Command → Type 0
IsCommand (command.Load load) = IsRequest load.request × IsPlain load.request
IsCommand (command.Script turns) = Unit {0}
IsCommand (command.Show what) = IsLook what
IsCommand command.Help = Unit {0}
