use Rattle.std.proofs.Common.{◌≡◌}
use Rattle.std.specs.Cmp.{nat_cmp_total}
use Rattle.bl_outside.proofs.Finite.{put_all}
use Rattle.bl_graph.specs.Numbered.{by_number}
use Rattle.bl_graph.proofs.copied.copy_map.Given as goal

-- with the entries that are left it is the whole map
abbrev pub invariant-loop-key : goal.invariant-loop-key
invariant-loop-key g l = put_all nat_cmp_total l.key-iterator (by_number l.copy.entries) ≡ by_number l.map.entries
