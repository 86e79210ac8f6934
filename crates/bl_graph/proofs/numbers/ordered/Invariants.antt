use Rattle.std.proofs.Common.{◌≡◌, take}
use Rattle.bl_graph.specs.Held.{numbers_in}
use Rattle.bl_graph.proofs.numbers.ordered.Given as goal

-- the numbers so far are there
abbrev pub invariant-loop-number : goal.invariant-loop-number
invariant-loop-number l = numbers_in l.all.keys ≡ numbers_in (take l.number-index l.numbers)
