use Rattle.std.proofs.Common.{Some, subst, refl}
use Rattle.bl_snapshot.specs.TwoSlots.{GateIs}
use Rattle.bl_snapshot.proofs.Calls.{closing, created_shut, closed_shut, still_shut}
use Rattle.bl_outside.proofs.Told.{settled_after}
use Rattle.bl_snapshot.proofs.Readings.{gate_told}
use Rattle.bl_snapshot.proofs.slot_file.close_file.Goals as goal

pub returns-in_err-write_through-in-Open-clause-any_moment : goal.returns-in_err-write_through-in-Open-clause-any_moment
returns-in_err-write_through-in-Open-clause-any_moment g c found h =
    let honest = h.settled.honest in
    let e = c.gate_of.ensures in
    let gate = subst (GateIs (Some h.content)) c.in-Open.is (gate_told (g.D.Disk.seen c.args.disk.now) h.content c.in_ok-gate_of.field-0 h.told c.in_ok-gate_of.ensures.gate) in
    closing g.D.Disk c.args.disk.now found h c.gate_of.new.disk c.write_through-in-Open.new.disk (e.crash honest) (e.any_moment honest) gate.0 gate.1
    (c.write_through-in-Open.ensures.any_moment (e.honest.1 honest))

pub returns-in_ok-write_through-in-Open-clause-any_moment : goal.returns-in_ok-write_through-in-Open-clause-any_moment
returns-in_ok-write_through-in-Open-clause-any_moment g c found h =
    let honest = h.settled.honest in
    let e = c.gate_of.ensures in
    let gate = subst (GateIs (Some h.content)) c.in-Open.is (gate_told (g.D.Disk.seen c.args.disk.now) h.content c.in_ok-gate_of.field-0 h.told c.in_ok-gate_of.ensures.gate) in
    closing g.D.Disk c.args.disk.now found h c.gate_of.new.disk c.write_through-in-Open.new.disk (e.crash honest) (e.any_moment honest) gate.0 gate.1
    (c.write_through-in-Open.ensures.any_moment (e.honest.1 honest))

pub returns-in_ok-write_through-in-Unfinished-clause-shut : goal.returns-in_ok-write_through-in-Unfinished-clause-shut
returns-in_ok-write_through-in-Unfinished-clause-shut g c sound =
    let t = c.requires sound in
    let e = c.gate_of.ensures in
    let honest = e.honest.1 sound.honest in
    let gate = subst (GateIs (Some t.1.content)) c.in-Unfinished.is (gate_told (g.D.Disk.seen c.args.disk.now) t.1.content c.in_ok-gate_of.field-0 t.1.told c.in_ok-gate_of.ensures.gate) in
    created_shut g.D.Disk c.args.disk.now t.0 t.1 c.gate_of.new.disk c.write_through.new.disk e.seen
    (record { honest = c.write_through.ensures.honest.1 honest; only = c.in_ok-write_through-in-Unfinished.ensures.durable honest }) gate (c.in_ok-write_through-in-Unfinished.ensures.written honest)

pub returns-in_ok-write_through-in-Open-clause-shut : goal.returns-in_ok-write_through-in-Open-clause-shut
returns-in_ok-write_through-in-Open-clause-shut g c sound =
    let t = c.requires sound in
    let e = c.gate_of.ensures in
    let honest = e.honest.1 sound.honest in
    let gate = subst (GateIs (Some t.1.content)) c.in-Open.is (gate_told (g.D.Disk.seen c.args.disk.now) t.1.content c.in_ok-gate_of.field-0 t.1.told c.in_ok-gate_of.ensures.gate) in
    closed_shut g.D.Disk c.args.disk.now t.0 t.1 c.gate_of.new.disk c.write_through-in-Open.new.disk e.seen
    (record { honest = c.write_through-in-Open.ensures.honest.1 honest; only = c.in_ok-write_through-in-Open.ensures.durable honest }) gate.0 gate.1 (c.in_ok-write_through-in-Open.ensures.written honest)

pub returns-in-Closed-clause-shut : goal.returns-in-Closed-clause-shut
returns-in-Closed-clause-shut g c sound =
    let t = c.requires sound in
    let e = c.gate_of.ensures in
    let gate = subst (GateIs (Some t.1.content)) c.in-Closed.is (gate_told (g.D.Disk.seen c.args.disk.now) t.1.content c.in_ok-gate_of.field-0 t.1.told c.in_ok-gate_of.ensures.gate) in
    still_shut g.D.Disk c.args.disk.now t.0 t.1 c.args.disk.now c.gate_of.new.disk refl
    (settled_after g.D.Disk c.args.disk.now c.gate_of.new.disk t.1.settled e.seen e.honest e.crash) e.seen gate.0 gate.1
