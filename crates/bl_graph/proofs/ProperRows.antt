-- Valid rows are proper.
use Rattle.std.specs.Prelude.{List}
use Rattle.std.proofs.lemmas.List.Elements.{All-weaker}
use Rattle.bl_value.specs.declared.row.Property.{Property}
use Rattle.bl_value.specs.declared.row.Row.{Row}
use Rattle.bl_value.specs.declared.row.Row.TheVariants.{Vertex, Edge, Bad}
use Rattle.bl_value.specs.ValidRows.{IsProperty, AreProperties, IsRow}
use Rattle.bl_graph.specs.Admitted.{IsProper, AreProper, IsProperRow}

are_proper : (properties : List Property) → AreProperties properties → AreProper properties
are_proper properties valid = record {
  each = All-weaker IsProperty IsProper (λ property is. record { differ = is.differ; one = is.one }) properties valid.each;
  differ = valid.differ;
}

pub valid_is_proper : (row : Row) → IsRow row → IsProperRow row
valid_is_proper (Vertex id labels properties) valid = (valid.1.differ, are_proper properties valid.2)
valid_is_proper (Edge id label from to properties) valid = (are_proper properties valid.4, valid.5)
valid_is_proper (Bad code column) valid = tt
