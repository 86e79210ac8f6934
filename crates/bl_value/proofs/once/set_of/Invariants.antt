use Rattle.std.proofs.Common.{take}
use Rattle.bl_value.specs.Once.{HasEach}
use Rattle.bl_value.proofs.once.set_of.Given as goal

-- the set has the items so far
abbrev pub invariant-loop-item : goal.invariant-loop-item
invariant-loop-item g l = HasEach g.T.Ord.cmp l.seen (take l.item-index l.items)
