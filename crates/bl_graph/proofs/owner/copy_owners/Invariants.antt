use Rattle.std.proofs.Common.{◌≡◌, ◌++◌}
use Rattle.bl_graph.proofs.owner.copy_owners.Given as goal

-- with the owners that are left it is all of them
abbrev pub invariant-loop-id : goal.invariant-loop-id
invariant-loop-id g l = l.copy.entries ++ l.id-iterator ≡ l.owners.entries
