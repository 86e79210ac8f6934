-- What is promised of values: those of a graph, and those that changes carry, are valid.
use Rattle.std.specs.Prelude.{◌≡◌, ℕ, Bool, true, List}
use Rattle.std.specs.List.{All}
use Rattle.bl_outside.specs.OrderedSet as set
use Rattle.bl_value.specs.Valid.{IsChange, IsValue}
use Rattle.bl_value.specs.ValidRows.{IsRow}
use Rattle.bl_value.specs.declared.value.Value.{Value}
use Rattle.bl_value.specs.declared.column.Side.{Side}
use Rattle.bl_value.specs.declared.change.Change.{Change}
use Rattle.bl_value.specs.declared.row.Row.{Row}
use Rattle.bl_graph.specs.declared.verdict.Verdict.{Verdict}
use Rattle.bl_graph.specs.declared.verdict.Verdict.TheVariants.{Changes, Duplicate, Refused}
use Rattle.bl_graph.specs.Graph.{Graph, values_at}
use Rattle.bl_graph.specs.Replay.{after}
use Rattle.bl_graph.specs.Admission.{admit}

-- each value of the graph is in the range of its type
abbrev pub HasValidValues : Graph → Type 0
HasValidValues graph = (side : Side) (id key : List ℕ) (value : Value) →
    set.contains (values_at graph side id key) value ≡ true → IsValue value

-- the changes of a verdict are valid, if there are any
abbrev pub AreValidChanges : Verdict → Type 0
AreValidChanges (Changes changes) = All IsChange changes
AreValidChanges Duplicate = Unit {0}
AreValidChanges (Refused code column) = Unit {0}

-- The changes of a valid row are valid, the removals among them.
abbrev pub RowsGiveValidChanges : Type 0
RowsGiveValidChanges = (graph : Graph) (update_single : Bool) (row : Row) → IsRow row →
    HasValidValues graph → AreValidChanges (admit graph update_single row)

-- Valid changes leave valid values in a graph that has no others.
abbrev pub ValidChangesKeepValues : Type 0
ValidChangesKeepValues = (graph : Graph) (changes : List Change) → HasValidValues graph →
    All IsChange changes → HasValidValues (after graph changes)
