use Rattle.bl_bench.specs.Committing.{Grows}
use Rattle.bl_bench.proofs.loading.take_all.Given as goal

-- each batch is an entry
abbrev pub invariant-loop-number : goal.invariant-loop-number
invariant-loop-number l = Grows l.number l.initial.engine l.engine
