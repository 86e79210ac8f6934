use Rattle.std.proofs.Common.{subst, arith}
use Rattle.std.proofs.lemmas.List.{replicate_more}
use Rattle.bl_outside.specs.contracts.memory_disk.MemoryDiskDisk.TheImpl as memory
use Rattle.bl_journal.specs.Journals.{Ends}
use Rattle.bl_bench.specs.Counting.{alike, body}
use Rattle.bl_bench.proofs.journal.append_frames.Goals as goal

pub loop-init : goal.loop-init
loop-init c = (c.requires, omega (arith))

pub append-requires-clause-at_end : goal.append-requires-clause-at_end
append-requires-clause-at_end c = λ sound. (alike c.loop.counter, c.loop.invariant.0)

pub loop-preserved : goal.loop-preserved
loop-preserved c = (
  subst (λ it. Ends memory.ghosts c.append.new.self it) (replicate_more c.loop.counter body)
      (c.in_ok-append.ensures.acknowledged (alike c.loop.counter) c.loop.invariant.0),
  omega (arith, c.loop.invariant.1, c.in_ok-append.ensures.place.1),
)

pub returns-clause-ends : goal.returns-clause-ends
returns-clause-ends c = subst (λ n. Ends memory.ghosts c.loop.journal (alike n)) (omega (arith)) c.loop.invariant.0

pub returns-clause-place : goal.returns-clause-place
returns-clause-place c = omega (arith, c.loop.invariant.1)
