use Rattle.std.proofs.Common.{◌≡◌, drop}
use Rattle.bl_session.specs.Parameters.{value_of}
use Rattle.bl_session.proofs.parameters.value_of.Given as goal

-- the value stands behind the pairs so far
abbrev pub invariant-loop-key : goal.invariant-loop-key
invariant-loop-key l = value_of l.name (drop l.key-index l.query) ≡ value_of l.name l.query
