use Rattle.std.proofs.Common.{◌≡◌, ◌++◌, false, map, drop}
use Rattle.serde_json.specs.View.{items_of}
use Rattle.serde_json.specs.Written.{items_text}
use Rattle.bl_change.specs.EventText.{event_data}
use Rattle.bl_feed.proofs.page_body.push_records.Given as goal

-- with the records that are left the text is what it is to be
abbrev pub invariant-loop-event : goal.invariant-loop-event
invariant-loop-event l =
    l.text ++ items_text l.later (items_of (map event_data (drop l.event-index l.events))) ≡ l.initial.text ++ items_text false (items_of (map event_data l.events))
