-- What a page is, and why there is none.
use Rattle.std.specs.Prelude.{◌≡◌, ℕ, ◌≤◌, IsTrue, List, [], length, None, Some, Result, Ok, Err}
use Rattle.std.specs.declared.option.Option.{Option}
use Rattle.std.specs.List.{All}
use Rattle.bl_outside.specs.Counts.{Rose}
use Rattle.bl_change.specs.EventTexts.{IsEvent}
use Rattle.bl_change.specs.declared.event.Event.{Event}
use Rattle.bl_stream.specs.Events.{RisesAbove}
use Rattle.bl_stream.specs.Slices.{Bounds, is_wanted, slice}
use Rattle.bl_stream.specs.declared.commit.Commit.{Commit}
use Rattle.bl_stream.specs.declared.page_ask.Iterator4.{Iterator4}
use Rattle.bl_stream.specs.declared.page_ask.Iterator4.TheVariants.{At, After, TrimHorizon, Latest}
use Rattle.bl_stream.specs.declared.page_ask.PageAsk.{PageAsk}
use Rattle.bl_stream.specs.declared.page.Page.{Page}
use Rattle.bl_stream.specs.declared.page.PageRefusal.{PageRefusal}
use Rattle.bl_stream.specs.declared.page.PageRefusal.TheVariants.{NoRecords, StoreFault, BadStore, NoMemory}

-- Where the commits are told, each of the stream is there.
abbrev pub HasEach : Option (List Commit) → Bounds → Type 0
HasEach None stream = Unit {0}
HasEach (Some commits) None = Unit {0}
HasEach (Some commits) (Some bounds) = bounds.1 ≤ length commits

-- The events that a page may have, whatever the reader tells: 1 to `limit` of them, each in its ranges, in the stream and asked for, in strictly rising order.
pub record IsPage (stream : Bounds) (ask : PageAsk) (events : List Event) : Type 0 where
  pub some : 1 ≤ length events
  pub count : length events ≤ ask.limit
  pub valid : All IsEvent events
  pub rising : RisesAbove 0 0 events
  pub asked : All (λ event. IsTrue (is_wanted stream ask.iterator event)) events

-- The answer, where the commits are told.
abbrev pub Pages : Option (List Commit) → Bounds → PageAsk → Result Page PageRefusal → Type 0
Pages None stream ask result = Unit {0}
Pages (Some commits) stream ask (Ok page) = page.events ≡ slice stream ask commits
Pages (Some commits) stream ask (Err NoRecords) = slice stream ask commits ≡ []
Pages (Some commits) stream ask (Err StoreFault) = Unit {0}
Pages (Some commits) stream ask (Err (BadStore place)) = Unit {0}
Pages (Some commits) stream ask (Err NoMemory) = Unit {0}

-- No commit of the stream is behind the one that the iterator names.
abbrev pub IsAtEnd : Bounds → Iterator4 → Type 0
IsAtEnd None iterator = Unit {0}
IsAtEnd (Some bounds) (At commit op) = bounds.1 ≤ commit
IsAtEnd (Some bounds) (After commit op) = bounds.1 ≤ commit
IsAtEnd (Some bounds) TrimHorizon = ⊥
IsAtEnd (Some bounds) Latest = ⊥

-- Why a page is refused: there is none but where the iterator is at the end, and the count rose where the store is at fault.
abbrev pub IsCause : Bounds → Iterator4 → ℕ → ℕ → PageRefusal → Type 0
IsCause stream iterator before now NoRecords = IsAtEnd stream iterator
IsCause stream iterator before now StoreFault = Rose before now
IsCause stream iterator before now (BadStore place) = Rose before now
IsCause stream iterator before now NoMemory = Unit {0}
