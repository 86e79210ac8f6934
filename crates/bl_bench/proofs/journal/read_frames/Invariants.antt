use Rattle.std.proofs.Common.{◌≡◌, [], List, ℕ, length, sum_by, None}
use Rattle.bl_outside.specs.contracts.memory_disk.MemoryDiskDisk.TheImpl as memory
use Rattle.bl_journal.specs.Frames.{Found, prefixed}
use Rattle.bl_journal.specs.Journals.{IsAtGate, Stands}
use Rattle.bl_bench.proofs.journal.read_frames.Given as goal

-- what was read, and what lies ahead
abbrev pub invariant-loop-frames : goal.invariant-loop-frames
invariant-loop-frames l =
    IsAtGate memory.ghosts l.journal
    × ((bodies : List (List ℕ)) → Stands (memory.ghosts.seen l.initial.journal.disk) l.initial.journal.place [] (bodies, None)
    → (done : List (List ℕ)) × (ahead : Found) × Stands (memory.ghosts.seen l.journal.disk) l.journal.place done ahead
    × ((bodies, None) ≡ prefixed done ahead) × (l.frames ≡ length done) × (l.bytes ≡ sum_by length done))
