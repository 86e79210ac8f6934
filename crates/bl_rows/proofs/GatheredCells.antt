-- The system cells that were gathered are the record's, and what they tell is what the rules tell.
use Rattle.std.specs.Prelude.{◌≡◌, ◌+◌, ◌==◌, ◌&&◌, ℕ, Bool, true, false, not, cond, List, [], ◌∷◌, length, None, Some, refl}
use Rattle.std.specs.declared.option.Option.{Option}
use Rattle.std.proofs.Common.{◌∙◌, ap, sym, subst}
use Rattle.bl_value.specs.Cells.{without_spaces}
use Rattle.bl_value.specs.declared.column.Side.{Side}
use Rattle.bl_value.specs.declared.column.Side.TheVariants as side
use Rattle.bl_value.specs.declared.column.Columns.{Columns}
use Rattle.bl_value.specs.declared.column.ColumnUse.{ColumnUse}
use Rattle.bl_value.specs.declared.log_code.LogCode.{LogCode}
use Rattle.bl_value.specs.declared.log_code.LogCode.TheVariants.{MissingId, IdTooLong}
use Rattle.bl_value.specs.declared.row.Property.{Property as RowProperty}
use Rattle.bl_value.specs.declared.row.Row.{Row}
use Rattle.bl_rows.specs.Contents.{Fields}
use Rattle.bl_rows.specs.FirstFaults.{Tells, Told, cells_told, first_of, first_told, long_code, many_told, missing_code, refused_code, row_by, told, told_or, values_in_all, whole_code}
use Rattle.bl_rows.specs.Rows.{is_from_use, is_id_use, is_label_use, is_long, is_missing, is_to_use, label_count, properties_of, system_cell, value_count}
use Rattle.bl_rows.specs.SystemCells.{AreCellsOf, Gathered, gather, row_of_cells, system_told, told_at}
use Rattle.bl_rows.specs.declared.refused.Refused.{Refused}
use Rattle.bl_rows.specs.declared.refused.Refused.TheVariants.{Fault, NoMemory}

record Are (side : Side) (uses : List ColumnUse) (fields : Fields) (cells : Gathered) : Type 0 where
  id : cells.id ≡ system_cell is_id_use uses fields
  label : cells.label ≡ system_cell is_label_use uses fields
  from : cells.from ≡ system_cell is_from_use uses fields
  to : cells.to ≡ system_cell is_to_use uses fields

are : (side : Side) (number : ℕ) (uses : List ColumnUse) (fields : Fields) → Are side uses fields (gather side number uses fields)
are side number [] fields = record { id = refl; label = refl; from = refl; to = refl }
are side number (role ∷ uses) [] = record { id = refl; label = refl; from = refl; to = refl }
are side number (role ∷ uses) (field ∷ fields) =
    let more = are side (number + 1) uses fields in
    record {
      id = ap (λ rest. cond (is_id_use role) (without_spaces field) rest) more.id;
      label = ap (λ rest. cond (is_label_use role) (without_spaces field) rest) more.label;
      from = ap (λ rest. cond (is_from_use role) (without_spaces field) rest) more.from;
      to = ap (λ rest. cond (is_to_use role) (without_spaces field) rest) more.to;
    }

pub cells_of : (columns : Columns) (fields : Fields) (cells : Gathered) → cells ≡ gather columns.side 1 columns.uses fields → AreCellsOf columns fields cells
cells_of columns fields cells is =
    let all = are columns.side 1 columns.uses fields in
    record {
      id = ap (λ (c : Gathered). c.id) is ∙ all.id;
      label = ap (λ (c : Gathered). c.label) is ∙ all.label;
      from = ap (λ (c : Gathered). c.from) is ∙ all.from;
      to = ap (λ (c : Gathered). c.to) is ∙ all.to;
    }

told_by : (code : LogCode) (test : Bool) (number : ℕ) (later : Option ℕ) (others : Option Told) → told_at code later ≡ others
    → told_at code (cond test (Some number) later) ≡ told_or (cond test (Some code) None) number others
told_by code true number later others is = refl
told_by code false number later others is = is

missing_told : (side : Side) (number : ℕ) (uses : List ColumnUse) (fields : Fields) → told_at MissingId (gather side number uses fields).missing ≡ first_told (missing_code side) number uses fields
missing_told side number [] fields = refl
missing_told side number (role ∷ uses) [] = refl
missing_told side number (role ∷ uses) (field ∷ fields) =
    told_by MissingId (is_missing side role field) number (gather side (number + 1) uses fields).missing (first_told (missing_code side) (number + 1) uses fields) (missing_told side (number + 1) uses fields)

long_told : (side : Side) (number : ℕ) (uses : List ColumnUse) (fields : Fields) → told_at IdTooLong (gather side number uses fields).long ≡ first_told (long_code side) number uses fields
long_told side number [] fields = refl
long_told side number (role ∷ uses) [] = refl
long_told side number (role ∷ uses) (field ∷ fields) =
    told_by IdTooLong (is_long side role field) number (gather side (number + 1) uses fields).long (first_told (long_code side) (number + 1) uses fields) (long_told side (number + 1) uses fields)

-- what the gathered cells tell is what the rules tell
pub gathered_told : (columns : Columns) (fields : Fields) (cells : Gathered) → cells ≡ gather columns.side 1 columns.uses fields
    → first_of (told_at MissingId cells.missing) (told_at IdTooLong cells.long) ≡ system_told columns fields
gathered_told columns fields cells is =
    ap (λ (c : Gathered). first_of (told_at MissingId c.missing) (told_at IdTooLong c.long)) is
    ∙ (λ i. first_of (missing_told columns.side 1 columns.uses fields i) (long_told columns.side 1 columns.uses fields i))

pub neither : (first second : Option Told) → first ≡ None → second ≡ None → first_of first second ≡ None
neither first second one two = ap (λ f. first_of f second) one ∙ two

nothing : (first second : Option Told) → first_of first second ≡ None → (first ≡ None) × (second ≡ None)
nothing (Some one) second is = cc is
nothing None second is = (refl, is)

-- where the rules about the whole record, its system cells and its values tell nothing, the last rule is left
pub last_rule : (columns : Columns) (fields : Fields) → whole_code columns fields ≡ None → system_told columns fields ≡ None → first_told refused_code 1 columns.uses fields ≡ None
    → told columns fields ≡ many_told (value_count columns fields)
last_rule columns fields whole system values =
    let apart = nothing (first_told (missing_code columns.side) 1 columns.uses fields) (first_told (long_code columns.side) 1 columns.uses fields) system in
    rw (whole, apart.0, apart.1, values) refl

front : (whole : Option LogCode) (missing long values many : Option Told) (fault : Told) → told_or whole 0 (first_of missing long) ≡ Some fault
    → first_of (told_or whole 0 (first_of missing (first_of long values))) many ≡ Some fault
front (Some code) missing long values many fault is = is
front None (Some one) long values many fault is = is
front None None (Some one) values many fault is = is
front None None None values many fault is = cc is

-- a fault of the record as a whole or of its system cells is told
pub tells_front : (columns : Columns) (fields : Fields) (refused : Refused) → Tells (told_or (whole_code columns fields) 0 (system_told columns fields)) refused → Tells (told columns fields) refused
tells_front columns fields NoMemory tells = tt
tells_front columns fields (Fault code column) tells =
    front (whole_code columns fields) (first_told (missing_code columns.side) 1 columns.uses fields) (first_told (long_code columns.side) 1 columns.uses fields)
    (first_told refused_code 1 columns.uses fields) (many_told (value_count columns fields)) (code, column) tells

-- and so is one of its values behind them
pub tells_value : (columns : Columns) (fields : Fields) (refused : Refused) → whole_code columns fields ≡ None → system_told columns fields ≡ None
    → Tells (first_told refused_code 1 columns.uses fields) refused → Tells (told columns fields) refused
tells_value columns fields NoMemory whole system tells = tt
tells_value columns fields (Fault code column) whole system tells =
    let apart = nothing (first_told (missing_code columns.side) 1 columns.uses fields) (first_told (long_code columns.side) 1 columns.uses fields) system in
    rw (whole, apart.0, apart.1, tells) refl

row_by_cells : (side : Side) (uses : List ColumnUse) (fields : Fields) (cells : Gathered) (properties : List RowProperty) → Are side uses fields cells
    → row_of_cells side cells properties ≡ row_by side uses fields properties
row_by_cells side.Vertex uses fields cells properties are_of = rw (are_of.id, are_of.label) refl
row_by_cells side.Edge uses fields cells properties are_of = rw (are_of.id, are_of.label, are_of.from, are_of.to) refl

-- the row with the record's cells and properties
pub row_is_by : (columns : Columns) (fields : Fields) (cells : Gathered) (properties : List RowProperty) → AreCellsOf columns fields cells → properties ≡ properties_of columns fields
    → row_of_cells columns.side cells properties ≡ row_by columns.side columns.uses fields (properties_of columns fields)
row_is_by columns fields cells properties cells_are is =
    row_by_cells columns.side columns.uses fields cells properties (record { id = cells_are.id; label = cells_are.label; from = cells_are.from; to = cells_are.to })
    ∙ ap (λ all. row_by columns.side columns.uses fields all) is

-- what the gathered cells tell of a record without a fault as a whole
pub tells_system : (columns : Columns) (fields : Fields) (cells : Gathered) (refused : Refused) → whole_code columns fields ≡ None → cells ≡ gather columns.side 1 columns.uses fields
    → Tells (first_of (told_at MissingId cells.missing) (told_at IdTooLong cells.long)) refused → Tells (told_or (whole_code columns fields) 0 (system_told columns fields)) refused
tells_system columns fields cells refused whole is tells =
    subst (λ found. Tells found refused) (gathered_told columns fields cells is ∙ sym (ap (λ code. told_or code 0 (system_told columns fields)) whole)) tells

pub none_system : (columns : Columns) (fields : Fields) (cells : Gathered) → cells ≡ gather columns.side 1 columns.uses fields
    → first_of (told_at MissingId cells.missing) (told_at IdTooLong cells.long) ≡ None → system_told columns fields ≡ None
none_system columns fields cells is none = sym (gathered_told columns fields cells is) ∙ none

-- what the last rule tells, by the cells and the properties
pub many_is : (columns : Columns) (fields : Fields) (label_cell : List ℕ) (properties : List RowProperty) → label_cell ≡ system_cell is_label_use columns.uses fields
    → properties ≡ properties_of columns fields → whole_code columns fields ≡ None → system_told columns fields ≡ None → first_told refused_code 1 columns.uses fields ≡ None
    → many_told (label_count columns.side label_cell + values_in_all properties) ≡ told columns fields
many_is columns fields label_cell properties label_is properties_is whole system values =
    (λ i. many_told (label_count columns.side (label_is i) + values_in_all (properties_is i))) ∙ sym (last_rule columns fields whole system values)
