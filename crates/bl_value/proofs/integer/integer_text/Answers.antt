use Rattle.bl_value.proofs.Integers.{integer_utf8}
use Rattle.std.proofs.Common.{◌∙◌, sym}
use Rattle.bl_value.proofs.integer.integer_text.Goals as goal

pub from_utf8_unchecked-requires : goal.from_utf8_unchecked-requires
from_utf8_unchecked-requires c = integer_utf8 c.args.text.now (sym c.is_integer.ensures ∙ c.if-not-is_integer.false)
