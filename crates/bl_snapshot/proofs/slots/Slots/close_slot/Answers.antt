use Rattle.std.proofs.Common.{None, sym, ◌∙◌}
use Rattle.bl_snapshot.specs.TwoSlots.{SlotsRecord}
use Rattle.bl_snapshot.proofs.Sides.{closes_left, closes_right}
use Rattle.bl_snapshot.proofs.slots.Slots.close_slot.Goals as goal

pub returns-in_err-close_file-clause-any_moment : goal.returns-in_err-close_file-clause-any_moment
returns-in_err-close_file-clause-any_moment g c =
    let was = c.self.inside in
    let s : SlotsRecord g.row.D.Denot = record { left = was.left; right = was.right; left_open = was.left_open; right_open = was.right_open } in
    closes_left g.D.Disk c.args.self.now (record { left = c.close_file.new.disk; right = was.right; left_open = was.left_open; right_open = was.right_open }) s c.self.view_is
    (sym c.works_left.ensures ∙ c.if-works_left.true) c.close_file.ensures.any_moment

pub returns-then-works_left-clause-any_moment : goal.returns-then-works_left-clause-any_moment
returns-then-works_left-clause-any_moment g c =
    let was = c.self.inside in
    let s : SlotsRecord g.row.D.Denot = record { left = was.left; right = was.right; left_open = was.left_open; right_open = was.right_open } in
    closes_left g.D.Disk c.args.self.now (record { left = c.close_file.new.disk; right = was.right; left_open = None; right_open = was.right_open }) s c.self.view_is
    (sym c.works_left.ensures ∙ c.if-works_left.true) c.close_file.ensures.any_moment

pub returns-in_err-close_file-2-clause-any_moment : goal.returns-in_err-close_file-2-clause-any_moment
returns-in_err-close_file-2-clause-any_moment g c =
    let was = c.self.inside in
    let s : SlotsRecord g.row.D.Denot = record { left = was.left; right = was.right; left_open = was.left_open; right_open = was.right_open } in
    closes_right g.D.Disk c.args.self.now (record { left = was.left; right = c.close_file-2.new.disk; left_open = was.left_open; right_open = was.right_open }) s c.self.view_is
    (sym c.works_left.ensures ∙ c.if-works_left.false) c.close_file-2.ensures.any_moment

pub returns-clause-any_moment : goal.returns-clause-any_moment
returns-clause-any_moment g c =
    let was = c.self.inside in
    let s : SlotsRecord g.row.D.Denot = record { left = was.left; right = was.right; left_open = was.left_open; right_open = was.right_open } in
    closes_right g.D.Disk c.args.self.now (record { left = was.left; right = c.close_file-2.new.disk; left_open = was.left_open; right_open = None }) s c.self.view_is
    (sym c.works_left.ensures ∙ c.if-works_left.false) c.close_file-2.ensures.any_moment
