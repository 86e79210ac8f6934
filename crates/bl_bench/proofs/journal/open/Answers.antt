use Rattle.std.proofs.Common.{inl, refl, subst, IfSome}
use Rattle.bl_outside.specs.contracts.memory_disk.MemoryDiskDisk.TheImpl as memory
use Rattle.bl_journal.specs.Journals.{Begins}
use Rattle.bl_bench.specs.Counting.{Counted, alike}
use Rattle.bl_bench.proofs.Counting.{ahead_again, bytes_alike, frames_alike}
use Rattle.bl_bench.proofs.journal.open.Goals as goal

opened : (c : goal.After-drop-journal-inside-4) → IfSome c.read_frames.result (Counted (alike c.args.frames))
opened c =
    let begins : Begins (memory.ghosts.seen c.in_ok-filled.filled.disk) (memory.ghosts.seen c.in-Ok.journal.disk) =
    subst (λ disk. Begins (memory.ghosts.seen disk) (memory.ghosts.seen c.in-Ok.journal.disk)) c.into_disk.ensures
    (c.in-Ok.ensures.opens.begins (inl (record { honest = tt; told = refl }))) in
    c.read_frames.ensures (alike c.args.frames)
    (ahead_again (memory.ghosts.seen c.in_ok-filled.filled.disk) (memory.ghosts.seen c.in-Ok.journal.disk) c.in_ok-filled.filled.place c.in-Ok.journal.place
    (alike c.args.frames) c.in_ok-filled.ensures.ends.stands begins c.in-Ok.ensures.place)

pub returns-clause-frames : goal.returns-clause-frames
returns-clause-frames c = frames_alike c.args.frames c.read_frames.result (opened c)

pub returns-clause-bytes : goal.returns-clause-bytes
returns-clause-bytes c = bytes_alike c.args.frames c.read_frames.result (opened c)
