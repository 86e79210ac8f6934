use Rattle.std.proofs.Common.{◌≡◌, ◌+◌, ◌*◌}
use Rattle.bl_outside.specs.contracts.memory_disk.MemoryDiskDisk.TheImpl as memory
use Rattle.bl_journal.specs.Journals.{Ends}
use Rattle.bl_bench.specs.Counting.{alike}
use Rattle.bl_bench.proofs.journal.append_frames.Given as goal

-- the journal has as many frames as the turns that were taken
abbrev pub invariant-loop : goal.invariant-loop
invariant-loop l = Ends memory.ghosts l.journal (alike l.counter) × (l.journal.place ≡ l.initial.journal.place + 105 * l.counter)
