use Rattle.std.proofs.Common.{◌≡◌, ◌≢◌, ◌++◌, []}
use Rattle.std.specs.List.{All}
use Rattle.bl_outside.specs.Texts.{IsShortText}
use Rattle.bl_system.proofs.real_folder.proper.Given as goal

abbrev pub invariant-loop-name : goal.invariant-loop-name
invariant-loop-name l = record {
  names : l.list ++ l.name-iterator ≡ l.names.keys;
  texts : All IsShortText l.list;
  named : All (λ name. name ≢ []) l.list;
}
