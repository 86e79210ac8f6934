use Rattle.std.proofs.Common.{◌≡◌, ◌++◌, length}
use Rattle.bl_header.specs.Fields.{unescaped}
use Rattle.bl_header.proofs.field.unescaped.Given as goal

abbrev pub invariant-loop-rest : goal.invariant-loop-rest
invariant-loop-rest l = l.text ++ unescaped l.rest ≡ unescaped l.name

abbrev pub decreases-loop-rest : goal.decreases-loop-rest
decreases-loop-rest l = length l.rest
