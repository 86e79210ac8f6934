-- For private clauses: where a page begins, and how it is filled commit by commit.
use Rattle.std.specs.Prelude.{◌≡◌, IfSome, ℕ, ◌+◌, ◌-◌, ◌<◌, ◌≤◌, nat_lt, nat_le, if◌then◌else◌, List, ◌++◌, length, take, drop, None, Some}
use Rattle.std.specs.declared.option.Option.{Option}
use Rattle.std.specs.List.{All}
use Rattle.bl_change.specs.EventTexts.{IsEvent}
use Rattle.bl_change.specs.declared.event.Event.{Event}
use Rattle.bl_stream.specs.Events.{events_from, RisesAbove}
use Rattle.bl_outside.specs.Counts.{Rose}
use Rattle.bl_stream.specs.Slices.{Filled, with_events, page_bytes, slice}
use Rattle.bl_stream.specs.Pages.{IsAtEnd, IsPage}
use Rattle.bl_stream.specs.declared.page_ask.PageAsk.{PageAsk}
use Rattle.bl_stream.specs.declared.page.PageRefusal.{PageRefusal}
use Rattle.bl_stream.specs.declared.page.PageRefusal.TheVariants.{NoRecords, StoreFault, BadStore, NoMemory}
use Rattle.bl_stream.specs.declared.commit.Commit.{Commit}
use Rattle.bl_stream.specs.declared.page_ask.Iterator4.{Iterator4}
use Rattle.bl_stream.specs.declared.page_ask.Iterator4.TheVariants.{At, After, TrimHorizon, Latest}
use Rattle.bl_stream.specs.declared.start.Start.{Start}
use Rattle.bl_stream.specs.declared.start.Before.{Before}
use Rattle.bl_stream.specs.declared.start.Before.TheVariants.{Operations, AllButOne}

-- The commit from which on events are read, and what of it comes before them.
abbrev pub start_at : ℕ → Before → Start
start_at number before = record { number = number; before = before }

abbrev pub from_place : ℕ × ℕ → ℕ → ℕ → Option Start
from_place bounds commit before =
    if nat_lt commit bounds.0 then Some (start_at bounds.0 (Operations 0))
    else if nat_le commit bounds.1 then Some (start_at commit (Operations before)) else None

abbrev pub start_of : ℕ × ℕ → Iterator4 → Option Start
start_of bounds (At commit op) = from_place bounds commit (op - 1)
start_of bounds (After commit op) = from_place bounds commit op
start_of bounds TrimHorizon = Some (start_at bounds.0 (Operations 0))
start_of bounds Latest = Some (start_at bounds.1 AllButOne)

-- how many of so many operations come before
abbrev pub skipped : Before → ℕ → ℕ
skipped (Operations before) count = before
skipped AllButOne count = count - 1

-- A page that is being filled may have an event, and has all its room before the first.
pub record IsOpen (page : Filled) : Type 0 where
  pub limit : 1 ≤ page.limit
  pub count : length page.events ≤ page.limit
  pub room : length page.events ≡ 0 → page.room ≡ page_bytes

-- the events of the commits behind this one, up to the newest
abbrev pub behind : ℕ → ℕ → List Commit → List Event
behind number newest commits = events_from (number + 1) (take (newest - number) (drop number commits))

-- A page was filled with all that is behind a commit, where the commits are told.
abbrev pub HasTaken : Option (List Commit) → ℕ → ℕ → Filled → Filled → Type 0
HasTaken None number newest old new = Unit {0}
HasTaken (Some commits) number newest old new = new ≡ with_events old (behind number newest commits)

-- The events that were added to a page, of commits behind this one up to the newest, told or not.
pub record Adds (number newest : ℕ) (old new : Filled) : Type 0 where
  pub added : List Event
  pub events : new.events ≡ old.events ++ added
  pub valid : All IsEvent added
  pub rising : RisesAbove number 0 added
  pub after : All (λ event. number < event.commit) added
  pub within : All (λ event. event.commit ≤ newest) added

-- A page that was filled, or found nothing: it is the slice where the commits are told, and is a page where it has an event.
pub record IsFilled (told : Option (List Commit)) (bounds : ℕ × ℕ) (ask : PageAsk) (page : Filled) : Type 0 where
  pub limit : page.limit ≡ ask.limit
  pub slice_is : IfSome told (λ commits. page.events ≡ slice (Some bounds) ask commits)
  pub page_is : 1 ≤ length page.events → length page.events ≤ ask.limit → IsPage (Some bounds) ask page.events
  pub none : length page.events ≡ 0 → IsAtEnd (Some bounds) ask.iterator

-- it is refused for a fault of the store, or memory ran out
abbrev pub IsFault : ℕ → ℕ → PageRefusal → Type 0
IsFault before now NoRecords = ⊥
IsFault before now StoreFault = Rose before now
IsFault before now (BadStore place) = Rose before now
IsFault before now NoMemory = Unit {0}
