-- From the faults of the columns, one by one, to the least fault of the header.
use Rattle.std.proofs.Common.{◌≡◌, ℕ, ◌+◌, ◌-◌, ◌<◌, ◌≤◌, ◌⊎◌, true, List, length, take, sym, subst, Some, arith, inl, inr}
use Rattle.bl_header.specs.declared.refusal.HeaderRefusal.{HeaderRefusal}
use Rattle.bl_header.specs.declared.refusal.HeaderRefusal.TheVariants.{NoId, HalfEdge, UnknownSystem, UnknownType, FloatColumn, SingleArray, EdgeNotSingle, Repeated, BadName, TooManyColumns, NoMemory}
use Rattle.bl_header.specs.Faults.{Fault, bad_name, unknown_system, unknown_type, float_column, single_array, edge_not_single, repeated, has_fault, side_of, place_of, Holds, HasNoFault, IsFirstFault}
use Rattle.bl_header.specs.FirstFaults.{fault_at, field_at, IsCleanBefore, IsLeftmost}
use Rattle.bl_header.specs.Headers.{IsRefusal, IsSound}
use Rattle.bl_value.specs.declared.column.Side.{Side}
use Rattle.bl_header.proofs.FirstFaults.{given_first, given_true, none_given}

-- no fault holds of a column left of a clean place
none_before : (fields : List (List ℕ)) (place column : ℕ) (fault : Fault) → IsCleanBefore (side_of fields) fields place → column ≤ place → ¬ (Holds fields column fault)
none_before fields place column fault clean left holds =
    let before : column - 1 < place = omega arith in
    let no = none_given (has_fault (side_of fields) (take (column - 1) fields) (field_at fields (column - 1))) (clean (column - 1) before) fault in
    absurd (cc (no, holds.has))

pub no_fault : (fields : List (List ℕ)) → IsCleanBefore (side_of fields) fields (length fields) → HasNoFault fields
no_fault fields clean column fault holds = none_before fields (length fields) column fault clean holds.within holds

-- a fault of one column with another in front
other_first : (fields : List (List ℕ)) (place : ℕ) (fault other : Fault) → fault_at (side_of fields) fields place ≡ Some fault → place_of other < place_of fault → (column : ℕ) → column ≡ place + 1 → ¬ (Holds fields column other)
other_first fields place fault other some before column is holds =
    let at : column - 1 ≡ place = omega arith in
    let has = subst (λ k. has_fault (side_of fields) (take k fields) (field_at fields k) other ≡ true) at holds.has in
    let no = given_first (has_fault (side_of fields) (take place fields) (field_at fields place)) fault other some before in
    absurd (cc (no, has))

precedes : (fields : List (List ℕ)) (place : ℕ) (fault : Fault) → fault_at (side_of fields) fields place ≡ Some fault → IsCleanBefore (side_of fields) fields place → (column : ℕ) (other : Fault) → (column < place + 1) ⊎ ((column ≡ place + 1) × (place_of other < place_of fault)) → ¬ (Holds fields column other)
precedes fields place fault some clean column other (inl before) = none_before fields place column other clean (omega arith)
precedes fields place fault some clean column other (inr same) = other_first fields place fault other some same.1 column same.0

-- the first fault of a column with none in front is the least of all
pub first_fault : (fields : List (List ℕ)) (place : ℕ) (fault : Fault) → place < length fields → IsCleanBefore (side_of fields) fields place → fault_at (side_of fields) fields place ≡ Some fault → IsFirstFault fields (place + 1) fault
first_fault fields place fault within clean some =
    let at : place ≡ place + 1 - 1 = omega arith in
    let has = given_true (has_fault (side_of fields) (take place fields) (field_at fields place)) fault some in
    record {
      holds = record {
        counted = omega arith;
        within = omega arith;
        has = subst (λ k. has_fault (side_of fields) (take k fields) (field_at fields k) fault ≡ true) at has;
      };
      first = λ column other before. precedes fields place fault some clean column other before;
    }

-- the refusal of the leftmost column with a fault is that of the header
pub refused : (fields : List (List ℕ)) (refusal : HeaderRefusal) → length fields ≤ 1024 → IsLeftmost (side_of fields) fields refusal → IsRefusal fields refusal
refused fields (BadName column) few left = (few, subst (λ k. IsFirstFault fields k bad_name) (sym left.3.0) (first_fault fields left.0 bad_name left.1 left.2 left.3.1))
refused fields (UnknownSystem column) few left = (few, subst (λ k. IsFirstFault fields k unknown_system) (sym left.3.0) (first_fault fields left.0 unknown_system left.1 left.2 left.3.1))
refused fields (UnknownType column) few left = (few, subst (λ k. IsFirstFault fields k unknown_type) (sym left.3.0) (first_fault fields left.0 unknown_type left.1 left.2 left.3.1))
refused fields (FloatColumn column) few left = (few, subst (λ k. IsFirstFault fields k float_column) (sym left.3.0) (first_fault fields left.0 float_column left.1 left.2 left.3.1))
refused fields (SingleArray column) few left = (few, subst (λ k. IsFirstFault fields k single_array) (sym left.3.0) (first_fault fields left.0 single_array left.1 left.2 left.3.1))
refused fields (EdgeNotSingle column) few left = (few, subst (λ k. IsFirstFault fields k edge_not_single) (sym left.3.0) (first_fault fields left.0 edge_not_single left.1 left.2 left.3.1))
refused fields (Repeated column) few left = (few, subst (λ k. IsFirstFault fields k repeated) (sym left.3.0) (first_fault fields left.0 repeated left.1 left.2 left.3.1))
refused fields NoId few left = absurd left.3
refused fields HalfEdge few left = absurd left.3
refused fields (TooManyColumns number) few left = absurd left.3
refused fields NoMemory few left = tt

pub sound : (side : Side) (fields seen : List (List ℕ)) → side ≡ side_of fields → seen ≡ fields → length fields ≤ 1024 → IsCleanBefore side seen (length seen) → IsSound fields
sound side fields seen s e few clean =
    let here : IsCleanBefore side fields (length fields) = subst (λ xs. IsCleanBefore side xs (length xs)) e clean in
    record { few = few; no_fault = no_fault fields (subst (λ x. IsCleanBefore x fields (length fields)) s here) }

pub refused_seen : (side : Side) (fields seen : List (List ℕ)) (refusal : HeaderRefusal) → side ≡ side_of fields → seen ≡ fields → length fields ≤ 1024 → IsLeftmost side seen refusal → IsRefusal fields refusal
refused_seen side fields seen refusal s e few left =
    let here : IsLeftmost side fields refusal = subst (λ xs. IsLeftmost side xs refusal) e left in
    refused fields refusal few (subst (λ x. IsLeftmost x fields refusal) s here)
