use Rattle.std.proofs.Common.{◌≡◌}
use Rattle.std.specs.Cmp.{nat_cmp_total}
use Rattle.bl_outside.proofs.Finite.{add_all}
use Rattle.bl_graph.specs.Held.{numbers_in}
use Rattle.bl_graph.proofs.numbers.copy_of.Given as goal

-- with the numbers that are left it is the whole set
abbrev pub invariant-loop-number : goal.invariant-loop-number
invariant-loop-number l = add_all nat_cmp_total l.number-iterator (numbers_in l.copy.keys) ≡ numbers_in l.numbers.keys
