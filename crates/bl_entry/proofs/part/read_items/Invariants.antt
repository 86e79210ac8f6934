use Rattle.std.proofs.Common.{◌≡◌, ◌-◌}
use Rattle.bl_entry.specs.Reading.{items_at}
use Rattle.bl_entry.proofs.Loop.{with_front}
use Rattle.bl_entry.proofs.part.read_items.Given as goal

-- what was read and what is still to be read are all
abbrev pub invariant-loop : goal.invariant-loop
invariant-loop g l = with_front g.T.Part.at l.items (items_at g.T.Part.at (l.count - l.counter) l.rest) ≡ items_at g.T.Part.at l.count l.input
