use Rattle.std.proofs.Common.{◌≡◌, ◌+◌, ◌<◌, ℕ, get_or}
use Rattle.std.specs.declared.cmp.Ordering.TheVariants.{Less}
use Rattle.std.specs.Ordering.{nat_cmp}
use Rattle.std.specs.Cmp.Lexicographic.{slice_cmp}
use Rattle.bl_files.specs.declared.found.Found.{Found}
use Rattle.bl_files.proofs.plan_result.names_rise.Given as goal

-- each name so far is below the next
abbrev pub invariant-loop-i : goal.invariant-loop-i
invariant-loop-i l = (k : ℕ) (d : Found) → k + 1 < l.i → slice_cmp nat_cmp (get_or l.found k d).name (get_or l.found (k + 1) d).name ≡ Less
