-- How many values and bytes a row may count.
use Rattle.std.specs.Prelude.{◌≡◌, ◌≤◌, ◌<◌, ℕ, ◌+◌, ◌*◌, List, length, sum_by}
use Rattle.std.specs.List.{All}
use Rattle.std.proofs.Common.{arith}
use Rattle.std.proofs.Math.Nat.{mul-le-mul_right}
use Rattle.std.proofs.lemmas.List.Elements.{All-weaker}
use Rattle.std.proofs.lemmas.List.Sums.{sum_by-le}
use Rattle.bl_value.specs.ValidRows.{AreProperties, IsProperty, IsRow}
use Rattle.bl_value.specs.declared.row.Property.{Property}
use Rattle.bl_value.specs.declared.row.Row.{Row}
use Rattle.bl_value.specs.declared.row.Row.TheVariants.{Vertex, Edge, Bad}
use Rattle.bl_rows.specs.Contents.{Fields, IsShort}
use Rattle.bl_chain.specs.BatchSizes.{field_bytes, property_values, row_values}
use Rattle.bl_load.specs.Gathering.{most_field_bytes}

many : (n : ℕ) → n < 4294967296 → n * 4294967295 ≤ 18446744065119617025
many n few = mul-le-mul_right 4294967295 (let h : n ≤ 4294967295 = omega arith in h)

values_bound : (properties : List Property) → AreProperties properties → property_values properties ≤ 18446744065119617025
values_bound properties are =
    let each : property_values properties ≤ length properties * 4294967295 =
    sum_by-le (λ (p : Property). length p.values) 4294967295 properties
    (All-weaker IsProperty (λ (p : Property). length p.values ≤ 4294967295) (λ p is. let few : length p.values < 4294967296 = is.few in omega arith) properties are.each) in
    let most : length properties * 4294967295 ≤ 18446744065119617025 = many (length properties) are.few in
    omega arith

pub row_bound : (row : Row) → IsRow row → row_values row ≤ 18446744069414584320
row_bound (Vertex id labels properties) is =
    let few : length labels < 4294967296 = is.1.few in
    let values : property_values properties ≤ 18446744065119617025 = values_bound properties is.2 in
    omega arith
row_bound (Edge id label from to properties) is =
    let values : property_values properties ≤ 18446744065119617025 = values_bound properties is.4 in
    omega arith
row_bound (Bad code column) is = omega arith

pub field_bound : (fields : Fields) → IsShort fields → field_bytes fields ≤ most_field_bytes
field_bound fields short =
    let each : field_bytes fields ≤ length fields * 4294967295 =
    sum_by-le (λ (field : List ℕ). length field) 4294967295 fields
    (All-weaker (λ (field : List ℕ). length field < 4294967296) (λ (field : List ℕ). length field ≤ 4294967295) (λ field is. let h : length field < 4294967296 = is in omega arith) fields short.each) in
    let most : length fields * 4294967295 ≤ 18446744065119617025 = many (length fields) short.few in
    omega arith
