use Rattle.std.proofs.Common.{take, drop, refl, ap, sym, subst, ◌∙◌}
use Rattle.std.proofs.lemmas.Bool.{false≢true}
use Rattle.bl_outside.specs.Disks.{OfContent}
use Rattle.bl_journal.specs.Frames.{length_behind}
use Rattle.bl_journal.proofs.Gates.{gate_fault, gate_some}
use Rattle.bl_journal.proofs.journal.length_at.Goals as goal

pub returns-then-not-is_whole-clause-gate : goal.returns-then-not-is_whole-clause-gate
returns-then-not-is_whole-clause-gate g c =
    let read = subst (λ seen. OfContent seen (λ content. take 5 (drop c.args.gate content)) c.in_ok-front.front) c.size.ensures.seen c.in_ok-front.ensures.bytes in
    gate_fault c.args.gate (g.D.Disk.seen c.args.disk.now) c.in_ok-size.size c.in-Some.length c.in_ok-front.front c.in_ok-size.ensures.size read (ap length_behind (sym c.as_slice.ensures) ∙ sym c.in-Some.ensures)
    (λ whole. false≢true (c.if-not-is_whole.ensures.1 whole))

pub returns-clause-gate : goal.returns-clause-gate
returns-clause-gate g c =
    let read = subst (λ seen. OfContent seen (λ content. take 5 (drop c.args.gate content)) c.in_ok-front.front) c.size.ensures.seen c.in_ok-front.ensures.bytes in
    gate_some c.args.gate (g.D.Disk.seen c.args.disk.now) c.in_ok-size.size c.in-Some.length c.in_ok-front.front c.in_ok-size.ensures.size read (ap length_behind (sym c.as_slice.ensures) ∙ sym c.in-Some.ensures)
    (c.if-not-is_whole.ensures.0 refl)
