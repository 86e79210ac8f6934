use Rattle.std.proofs.Common.{sym, ◌∙◌}
use Rattle.std.proofs.lemmas.Str.{IsUtf8-from_is_utf8}
use Rattle.bl_value.proofs.array.read_values.Goals as goal

pub values_by-requires-clause-utf8 : goal.values_by-requires-clause-utf8
values_by-requires-clause-utf8 c = λ is. IsUtf8-from_is_utf8 c.args.cell.now (sym c.is_utf8.ensures ∙ is)
