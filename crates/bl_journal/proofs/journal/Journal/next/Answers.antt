use Rattle.std.proofs.Common.{◌+◌, ℕ, List, Ok, Some, subst, arith}
use Rattle.bl_journal.specs.Frames.{Found}
use Rattle.bl_journal.specs.Journals.{JournalRecord, Stands, IsAtGate, NextIs}
use Rattle.bl_journal.proofs.Reading.{body_stands, body_at_gate}
use Rattle.bl_journal.proofs.Standing.{sound_after, settled_after}
use Rattle.bl_journal.proofs.journal.Journal.next.Goals as goal

pub returns-in-Some-clause-stands : goal.returns-in-Some-clause-stands
returns-in-Some-clause-stands g c =
    let old : JournalRecord g.row.D.Denot = record { disk = c.self.inside.disk; place = c.self.inside.place } in
    let new : JournalRecord g.row.D.Denot = record { disk = c.frame_at.new.disk; place = c.self.inside.place + (5 + c.len.result) } in
    let bound = rw c.in-Some.is at c.in_ok-frame_at.ensures.bound in
    let frame = rw c.in-Some.is at c.in_ok-frame_at.ensures.frame in
    subst (λ (j : JournalRecord g.row.D.Denot). (done : List (List ℕ)) (ahead : Found) → Stands (g.D.Disk.seen j.disk) j.place done ahead → NextIs (g.D.Disk.seen new.disk) new.place done ahead (Ok (Some c.in-Some.body))) c.self.view_is
    (body_stands g.D.Disk old new c.frame_at.ensures.seen c.in-Some.body frame (omega (arith, c.len.ensures), bound.0, omega (arith, bound.1, c.len.ensures)))

pub returns-in-Some-clause-at_gate : goal.returns-in-Some-clause-at_gate
returns-in-Some-clause-at_gate g c =
    let old : JournalRecord g.row.D.Denot = record { disk = c.self.inside.disk; place = c.self.inside.place } in
    let new : JournalRecord g.row.D.Denot = record { disk = c.frame_at.new.disk; place = c.self.inside.place + (5 + c.len.result) } in
    let bound = rw c.in-Some.is at c.in_ok-frame_at.ensures.bound in
    let frame = rw c.in-Some.is at c.in_ok-frame_at.ensures.frame in
    let e = c.frame_at.ensures in
    subst (λ (j : JournalRecord g.row.D.Denot). IsAtGate g.D.Disk j → IsAtGate g.D.Disk new) c.self.view_is
    (body_at_gate g.D.Disk old new e.seen c.in-Some.body frame (omega (arith, c.len.ensures), bound.0, omega (arith, bound.1, c.len.ensures))
    (sound_after g.D.Disk old.disk new.disk e.seen e.honest).1 (λ s. settled_after g.D.Disk old.disk new.disk s e.seen e.honest e.crash))
