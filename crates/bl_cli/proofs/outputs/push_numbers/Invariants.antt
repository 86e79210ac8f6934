use Rattle.std.proofs.Common.{◌≡◌, ◌++◌, drop}
use Rattle.std.specs.List.{flat_map}
use Rattle.bl_cli.specs.Outputs.{number_behind}
use Rattle.bl_cli.proofs.outputs.push_numbers.Given as goal

abbrev pub invariant-loop-number : goal.invariant-loop-number
invariant-loop-number l = l.text ++ flat_map number_behind (drop l.number-index l.numbers) ≡ l.initial.text ++ flat_map number_behind l.numbers
