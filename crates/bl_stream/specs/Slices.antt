-- What a page has: a slice of the events of a stream (Neptune User Guide, "Neptune Streams API").
use Rattle.std.specs.Prelude.{ℕ, ◌-◌, ◌==◌, nat_le, nat_lt, Bool, true, false, not, ◌&&◌, ◌||◌, if◌then◌else◌, List, [], ◌∷◌, ◌++◌, length, None, Some}
use Rattle.std.specs.declared.option.Option.{Option}
use Rattle.std.specs.List.{filter, fold}
use Rattle.bl_change.specs.EventText.{event_text}
use Rattle.bl_change.specs.declared.event.Event.{Event}
use Rattle.bl_stream.specs.Events.{events}
use Rattle.bl_stream.specs.declared.commit.Commit.{Commit}
use Rattle.bl_stream.specs.declared.page_ask.Iterator4.{Iterator4}
use Rattle.bl_stream.specs.declared.page_ask.Iterator4.TheVariants.{At, After, TrimHorizon, Latest}
use Rattle.bl_stream.specs.declared.page_ask.PageAsk.{PageAsk}

-- a stream: the numbers of its first and its newest commit, or none
abbrev pub Bounds : Type 0
Bounds = Option (ℕ × ℕ)

-- the event's pair of commit and operation is below this one
abbrev pub is_below : ℕ → ℕ → Event → Bool
is_below commit op event = nat_lt event.commit commit || (event.commit == commit && nat_lt event.op op)

-- it is above this one
abbrev pub is_above : ℕ → ℕ → Event → Bool
is_above commit op event = nat_lt commit event.commit || (event.commit == commit && nat_lt op event.op)

-- The event is one from which on, or behind which, the iterator asks. The latest one is the last of the newest commit.
abbrev pub is_asked : Iterator4 → ℕ → Event → Bool
is_asked (At commit op) newest event = not (is_below commit op event)
is_asked (After commit op) newest event = is_above commit op event
is_asked TrimHorizon newest event = true
is_asked Latest newest event = event.commit == newest && event.last

-- the event is in the stream, and is asked for
abbrev pub is_wanted : Bounds → Iterator4 → Event → Bool
is_wanted None iterator event = false
is_wanted (Some bounds) iterator event = (nat_le bounds.0 event.commit && nat_le event.commit bounds.1) && is_asked iterator bounds.1 event

-- the most events that may be asked for
abbrev pub most_events : ℕ
most_events = 100000

-- the bytes of the texts of its events with which a page ends
abbrev pub page_bytes : ℕ
page_bytes = 10485760

-- a page so far: how many events it may have, its events, and the bytes that are left for their texts
pub record Filled : Type 0 where
  pub limit : ℕ
  pub events : List Event
  pub room : ℕ

abbrev pub nothing : ℕ → Filled
nothing limit = record { limit = limit; events = []; room = page_bytes }

-- It has as many events as were asked for, or their texts have reached the bytes of a page.
abbrev pub is_full : Filled → Bool
is_full page = nat_le page.limit (length page.events) || page.room == 0

-- the page with one more event, unless it is full
abbrev pub with_event : Filled → Event → Filled
with_event page event =
    if is_full page then page
    else record { limit = page.limit; events = page.events ++ event ∷ []; room = page.room - length (event_text event) }

-- the page with these events, up to the one with which it is full
abbrev pub with_events : Filled → List Event → Filled
with_events page added = fold with_event page added

-- all events that are asked for, from the first on
abbrev pub wanted : Bounds → Iterator4 → List Commit → List Event
wanted stream iterator commits = filter (is_wanted stream iterator) (events commits)

-- the events of the page that is asked for
abbrev pub slice : Bounds → PageAsk → List Commit → List Event
slice stream ask commits = (with_events (nothing ask.limit) (wanted stream ask.iterator commits)).events
