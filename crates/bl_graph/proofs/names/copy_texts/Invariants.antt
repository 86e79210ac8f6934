use Rattle.std.proofs.Common.{◌≡◌, ◌++◌}
use Rattle.bl_graph.proofs.names.copy_texts.Given as goal

-- with the texts that are left it is all of them
abbrev pub invariant-loop-text : goal.invariant-loop-text
invariant-loop-text l = l.copy.keys ++ l.text-iterator ≡ l.texts.keys
