use Rattle.std.proofs.Common.{ℕ, ◌<◌, get_or}
use Rattle.bl_files.specs.declared.log.Log.{Log}
use Rattle.bl_world.proofs.fitting.numbers_rise.Given as goal

abbrev pub invariant-loop-i : goal.invariant-loop-i
invariant-loop-i l = (j k : ℕ) (d : Log) → j < k → k < l.i → (get_or l.logs j d).number < (get_or l.logs k d).number
