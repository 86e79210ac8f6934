use Rattle.std.proofs.Common.{◌≡◌, ◌+◌, ◌-◌, ◌≤◌, length}
use Rattle.std.specs.List.{All}
use Rattle.std.specs.Vec.Iter.{into_iter_items}
use Rattle.bl_value.specs.Valid.{IsChange}
use Rattle.bl_stream.specs.Events.{events_of}
use Rattle.bl_stream.specs.Slices.{with_events}
use Rattle.bl_stream.proofs.filling.Filling.add_changes.Given as goal

-- with the events of the changes that are left the page is what it is to be
abbrev pub invariant-loop-change : goal.invariant-loop-change
invariant-loop-change l = record {
  left : l.left ≡ length (into_iter_items l.change-iterator);
  count : l.left ≤ l.operations;
  filled : with_events l.self (events_of l.number (l.operations - l.left + 1) l.moment (into_iter_items l.change-iterator)) ≡ with_events l.fn.self (events_of l.number (l.operations - length l.fn.changes + 1) l.moment l.fn.changes);
  valid : All IsChange (into_iter_items l.change-iterator);
}
