-- What is valid can be printed.
use Rattle.std.specs.Prelude.{List}
use Rattle.std.specs.List.{All}
use Rattle.std.proofs.lemmas.List.Elements.{All-weaker}
use Rattle.bl_value.specs.Valid.{IsChange, IsPrintable, IsPrintableValue, IsValue}
use Rattle.bl_value.specs.declared.value.Value.{Value}
use Rattle.bl_value.specs.declared.value.Value.TheVariants.{Bool, Byte, Short, Int, Long, Str, Date}
use Rattle.bl_value.specs.declared.change.Change.{Change}
use Rattle.bl_value.specs.declared.change.Change.TheVariants.{AddLabel, AddEdge, AddValue, RemoveValue}
use Rattle.bl_world.specs.Worlds.{IsChanges}
use Rattle.bl_world.specs.declared.job_commit.JobCommit.{JobCommit}

value_prints : (value : Value) → IsValue value → IsPrintableValue value
value_prints (Str text) is = is.utf8
value_prints (Date seconds) is = is
value_prints (Bool b) is = tt
value_prints (Byte n) is = tt
value_prints (Short n) is = tt
value_prints (Int n) is = tt
value_prints (Long n) is = tt

change_prints : (change : Change) → IsChange change → IsPrintable change
change_prints (AddLabel id label) is = (is.0.utf8, is.1.utf8)
change_prints (AddEdge id label from to) is = (is.0.utf8, is.1.0.utf8, is.1.1.0.utf8, is.1.1.1.utf8)
change_prints (AddValue side id key value) is = (is.0.utf8, is.1.0.utf8, value_prints value is.1.1)
change_prints (RemoveValue side id key value) is = (is.0.utf8, is.1.0.utf8, value_prints value is.1.1)

pub commits_print : (commits : List JobCommit) → All (λ commit. IsChanges commit.changes) commits → All (λ commit. All IsPrintable commit.changes) commits
commits_print commits are =
    All-weaker (λ (commit : JobCommit). IsChanges commit.changes) (λ (commit : JobCommit). All IsPrintable commit.changes)
    (λ commit is. All-weaker IsChange IsPrintable change_prints commit.changes is.valid) commits are
