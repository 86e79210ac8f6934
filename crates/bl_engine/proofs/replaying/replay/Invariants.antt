use Rattle.std.proofs.Common.{◌≡◌, ◌↔◌, ◌+◌, ◌<◌, ◌≤◌, ◌-◌, ◌^◌, List, []}
use Rattle.bl_journal.specs.Frames.{Found}
use Rattle.bl_journal.specs.Journals.{IsAtGate, IsSettled, IsSound, Since, Stands}
use Rattle.bl_entry.specs.declared.entry.Entry.{Entry}
use Rattle.bl_world.specs.Worlds.{IsWorldOf}
use Rattle.bl_engine.specs.Openings.{Replays}
use Rattle.bl_engine.proofs.replaying.replay.Given as goal

abbrev pub invariant-frames : goal.invariant-frames
invariant-frames g l = record {
  replays : (all : Found) → Stands (g.D.Disk.seen l.initial.journal.disk) 15 [] all → Replays all (g.D.Disk.seen l.journal.disk) l.journal.place l.world;
  leads : (entries : List Entry) × IsWorldOf entries l.world;
  steps : l.steps ≡ l.initial.steps + l.world.entries;
  at_gate : IsAtGate g.D.Disk l.initial.journal → IsAtGate g.D.Disk l.journal;
  settled : IsSettled g.D.Disk l.initial.journal.disk → IsSettled g.D.Disk l.journal.disk;
  since : IsSound g.D.Disk l.initial.journal.disk → Since g.D.Disk l.initial.journal.disk l.journal.disk (g.D.Disk.may_leave l.initial.journal.disk);
  sound : IsSound g.D.Disk l.initial.journal.disk ↔ IsSound g.D.Disk l.journal.disk;
  later : g.D.Disk.faults l.initial.journal.disk ≤ g.D.Disk.faults l.journal.disk;
  count : l.world.entries + 15 ≤ l.journal.place;
  bound : l.journal.place < 2 ^ 64;
}

abbrev pub decreases-frames : goal.decreases-frames
decreases-frames g l = 2 ^ 64 - l.journal.place
