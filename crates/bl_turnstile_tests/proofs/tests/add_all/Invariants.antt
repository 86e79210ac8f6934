use Rattle.bl_turnstile.specs.Passes.{IsPassOf}
use Rattle.bl_turnstile_tests.proofs.tests.add_all.Given as goal

abbrev pub invariant-loop-number : goal.invariant-loop-number
invariant-loop-number g l = IsPassOf l.log l.pass
