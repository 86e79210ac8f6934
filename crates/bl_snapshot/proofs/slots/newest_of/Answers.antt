use Rattle.std.proofs.Common.{sym, ◌∙◌, ap, subst}
use Rattle.bl_snapshot.specs.TwoSlots.{IsKnownAs, FaultIs, works_left, entries_in}
use Rattle.bl_snapshot.proofs.Known.{handed_on, faults, fault_right, newest_left, newest_right, known_by, untouched_then, settled_then}
use Rattle.bl_snapshot.proofs.slots.newest_of.Goals as goal

pub returns-in_err-at_left-clause-fault : goal.returns-in_err-at_left-clause-fault
returns-in_err-at_left-clause-fault g c =
    let left = g.D.Disk.seen c.args.left.now in
    let right = g.D.Disk.seen c.args.right.now in
    let fault = c.in_err-at_left.field-0.0 in
    handed_on (FaultIs left right) c.from_residual.result fault c.from_residual.ensures.1 (faults left right fault c.in_err-at_left.ensures.fault)

pub returns-in_err-newest-clause-fault : goal.returns-in_err-newest-clause-fault
returns-in_err-newest-clause-fault g c =
    let left = g.D.Disk.seen c.args.left.now in
    let right = g.D.Disk.seen c.args.right.now in
    let both = c.in_ok-at_left.ensures in
    let fault = c.in_err-newest.field-0.0 in
    handed_on (FaultIs left right) c.from_residual-in_err-newest.result fault c.from_residual-in_err-newest.ensures.1
    (fault_right left right c.in_ok-at_left.at_left c.in_ok-at_left.at_right fault both.left both.right
    (λ content told is. c.in_err-newest.ensures.snapshot content (c.numbers_of_both.ensures.right_untouched.seen ∙ told) is))

pub returns-then-works_left-clause-newest : goal.returns-then-works_left-clause-newest
returns-then-works_left-clause-newest g c =
    let of = g.D.Disk in
    let right = of.seen c.args.right.now in
    let both = c.in_ok-at_left.ensures in
    newest_right (of.seen c.args.left.now) right c.in_ok-at_left.at_left c.in_ok-at_left.at_right c.in_ok-newest.newest both.left both.right
    (ap (λ e. works_left e (entries_in c.in_ok-at_left.at_right)) (sym c.entries_in_slot-left_open.ensures) ∙ ap (λ e. works_left c.entries_in_slot-left_open.result e) (sym c.entries_in_slot-right_open.ensures) ∙ sym c.works_left.ensures ∙ c.if-works_left.true)
    (λ content told is. c.in_ok-newest.ensures.snapshot content (c.numbers_of_both.ensures.right_untouched.seen ∙ told) is)
    c.in_ok-newest.ensures.entries

pub returns-clause-newest : goal.returns-clause-newest
returns-clause-newest g c =
    let of = g.D.Disk in
    let both = c.in_ok-at_left.ensures in
    newest_left (of.seen c.args.left.now) (of.seen c.args.right.now) c.in_ok-at_left.at_left c.in_ok-at_left.at_right c.in_ok-newest-2.newest both.left both.right
    (ap (λ e. works_left e (entries_in c.in_ok-at_left.at_right)) (sym c.entries_in_slot-left_open.ensures) ∙ ap (λ e. works_left c.entries_in_slot-left_open.result e) (sym c.entries_in_slot-right_open.ensures) ∙ sym c.works_left.ensures ∙ c.if-works_left.false)
    (λ content told is. c.in_ok-newest-2.ensures.snapshot content (c.numbers_of_both.ensures.left_untouched.seen ∙ told) is)
    c.in_ok-newest-2.ensures.entries

pub returns-then-works_left-clause-left_known : goal.returns-then-works_left-clause-left_known
returns-then-works_left-clause-left_known g c =
    let of = g.D.Disk in
    let both = c.numbers_of_both.ensures in
    subst (λ e. IsKnownAs of c.numbers_of_both.new.left e) (sym c.entries_in_slot-left_open.ensures)
    (known_by of c.args.left.now c.numbers_of_both.new.left c.in_ok-at_left.at_left c.in_ok-at_left.ensures.left both.left_untouched.seen both.left_untouched.honest c.in_ok-at_left.ensures.left_settled)

pub returns-clause-right_known : goal.returns-clause-right_known
returns-clause-right_known g c =
    let of = g.D.Disk in
    let both = c.numbers_of_both.ensures in
    subst (λ e. IsKnownAs of c.numbers_of_both.new.right e) (sym c.entries_in_slot-right_open.ensures)
    (known_by of c.args.right.now c.numbers_of_both.new.right c.in_ok-at_left.at_right c.in_ok-at_left.ensures.right both.right_untouched.seen both.right_untouched.honest c.in_ok-at_left.ensures.right_settled)

pub returns-then-works_left-clause-right_known : goal.returns-then-works_left-clause-right_known
returns-then-works_left-clause-right_known g c =
    let of = g.D.Disk in
    let old = c.args.right.now in
    let mid = c.numbers_of_both.new.right in
    let new = c.snapshot_in.new.disk in
    let first = c.numbers_of_both.ensures.right_untouched in
    let whole = untouched_then of old mid new first c.snapshot_in.ensures.untouched in
    subst (λ e. IsKnownAs of new e) (sym c.entries_in_slot-right_open.ensures)
    (known_by of old new c.in_ok-at_left.at_right c.in_ok-at_left.ensures.right whole.seen whole.honest (settled_then of old mid new first c.in_ok-at_left.ensures.right_settled c.snapshot_in.ensures.untouched))
