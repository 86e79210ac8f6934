use Rattle.std.proofs.Common.{false}
use Rattle.bl_header.proofs.NameParts.{take-before_colon}
use Rattle.bl_header.proofs.field.name_part.Goals as goal

pub returns : goal.returns
returns c = rw c.name_length.ensures.value (take-before_colon false c.args.field.now)
