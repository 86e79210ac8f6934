use Rattle.std.proofs.Common.{◌≡◌, ◌++◌, map}
use Rattle.form_urlencoded.specs.Parse.{pairs_left}
use Rattle.bl_http.specs.Targets.{meant, parameters}
use Rattle.bl_http.proofs.target.parameters.Given as goal

-- the pairs so far and those that are left are all
abbrev pub invariant-loop-pair : goal.invariant-loop-pair
invariant-loop-pair l = l.pairs ++ map meant (pairs_left l.pair-iterator) ≡ parameters l.query
