use Rattle.std.proofs.Common.{◌≡◌, map, take}
use Rattle.serde_json.specs.View.{view}
use Rattle.bl_feed.specs.StatusBodies.{entry_data}
use Rattle.bl_feed.proofs.error_page.entries_json.Given as goal

-- those of the entries so far
abbrev pub invariant-loop-entry : goal.invariant-loop-entry
invariant-loop-entry l = map view l.values.items ≡ map (entry_data l.job) (take l.entry-index l.entries)
