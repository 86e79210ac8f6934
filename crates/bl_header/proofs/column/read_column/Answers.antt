use Rattle.std.proofs.Common.{◌≡◌, ◌∙◌, ℕ, ◌<◌, List, [], length, map, take, slice_index_or, Bool, if◌then◌else◌, Some, None, ap, sym, refl}
use Rattle.std.specs.declared.option.Option.{Option}
use Rattle.std.specs.List.{list_any}
use Rattle.std.proofs.lemmas.List.{get_or_default}
use Rattle.bl_value.specs.Cells.{without_spaces}
use Rattle.bl_value.specs.declared.column.ColumnUse.{ColumnUse}
use Rattle.bl_value.specs.declared.column.Side.{Side}
use Rattle.bl_header.specs.Faults.{Fault, repeated}
use Rattle.bl_header.specs.Fields.{column_use}
use Rattle.bl_header.specs.FirstFaults.{fault_at, field_at, own_fault, use_in}
use Rattle.bl_value.specs.ValidColumns.{is_same_use}
use Rattle.bl_header.proofs.Repeats.{fault_behind}
use Rattle.bl_header.proofs.column.read_column.Goals as goal

abbrev one_repeated : Bool → Option Fault
one_repeated test = if test then Some repeated else None

-- the field that was read is that at the place
there : (fields : List (List ℕ)) (place : ℕ) (item field : List ℕ) → place < length fields → item ≡ slice_index_or fields place item → field ≡ without_spaces item → field ≡ field_at fields place
there fields place item field within is e = e ∙ ap without_spaces (is ∙ get_or_default fields place item [] within)

found : (side : Side) (uses : List ColumnUse) (fields : List (List ℕ)) (place : ℕ) (field : List ℕ) (it : ColumnUse) (given : Option Fault) → field ≡ field_at fields place → map Some uses ≡ map (use_in side) (take place fields) → own_fault side field ≡ None → column_use side field ≡ Some it → (if list_any (λ other. is_same_use other it) uses then Some repeated else None) ≡ given → fault_at side fields place ≡ given
found side uses fields place field it given at e none is last =
    fault_behind side uses fields place it e (ap (own_fault side) (sym at) ∙ none) (ap (column_use side) (sym at) ∙ is) ∙ last

pub returns-then-is_repeated-clause-err : goal.returns-then-is_repeated-clause-err
returns-then-is_repeated-clause-err c =
    let at = there c.args.fields.now c.args.place c.index-fields-place.result c.without_spaces-field.result.now c.requires.within c.index-fields-place.is (c.without_spaces-field.ensures ∙ ap without_spaces c.as_slice.ensures) in
    let last = ap one_repeated (sym c.is_repeated.ensures ∙ c.if-is_repeated.true) in
    (refl, found c.args.side c.args.left.now c.args.fields.now c.args.place c.without_spaces-field.result.now c.in_ok-found.found (Some repeated) at c.requires.left c.in_ok-found.ensures.sound c.in_ok-found.ensures.ok last)

pub returns-else-is_repeated-clause-sound : goal.returns-else-is_repeated-clause-sound
returns-else-is_repeated-clause-sound c =
    let at = there c.args.fields.now c.args.place c.index-fields-place.result c.without_spaces-field.result.now c.requires.within c.index-fields-place.is (c.without_spaces-field.ensures ∙ ap without_spaces c.as_slice.ensures) in
    let last = ap one_repeated (sym c.is_repeated.ensures ∙ c.if-is_repeated.false) in
    found c.args.side c.args.left.now c.args.fields.now c.args.place c.without_spaces-field.result.now c.in_ok-found.found None at c.requires.left c.in_ok-found.ensures.sound c.in_ok-found.ensures.ok last
