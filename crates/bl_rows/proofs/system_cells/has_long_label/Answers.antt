use Rattle.std.proofs.Common.{sym, ◌∙◌, leb-true}
use Rattle.bl_rows.proofs.ShortLabels.{short_cell}
use Rattle.bl_rows.proofs.system_cells.has_long_label.Goals as goal

pub returns-then-is_short : goal.returns-then-is_short
returns-then-is_short c = sym (short_cell c.args.label_cell.now (leb-true _ 1024 (sym c.is_short.ensures ∙ c.if-is_short.true)))
