-- The first fault of a column has its test true, and each fault before it has its test false.
use Rattle.std.proofs.Common.{◌≡◌, ◌∙◌, ◌<◌, Bool, true, false, not, ◌||◌, List, [], ◌∷◌, refl, sym, subst, Some, None, nat_lt, lit<}
use Rattle.std.specs.List.{list_all}
use borrow.Author.Tests.{lt-ltb}
use Rattle.std.proofs.lemmas.List.Sums.{AllPass-from_list_all}
use Rattle.bl_header.specs.Faults.{Fault, bad_name, unknown_system, unknown_type, float_column, single_array, edge_not_single, repeated, place_of}
use Rattle.bl_header.specs.FirstFaults.{first_of}

-- the test that has these answers, in the order of the faults
abbrev test_of : (a b c d e f g : Bool) → Fault → Bool
test_of a b c d e f g bad_name = a
test_of a b c d e f g unknown_system = b
test_of a b c d e f g unknown_type = c
test_of a b c d e f g float_column = d
test_of a b c d e f g single_array = e
test_of a b c d e f g edge_not_single = f
test_of a b c d e f g repeated = g

-- each test is the one that has its answers
abbrev answers_of : (Fault → Bool) → Fault → Bool
answers_of test = test_of (test bad_name) (test unknown_system) (test unknown_type) (test float_column) (test single_array) (test edge_not_single) (test repeated)

same_test : (test : Fault → Bool) (fault : Fault) → answers_of test fault ≡ test fault
same_test test bad_name = refl
same_test test unknown_system = refl
same_test test unknown_type = refl
same_test test float_column = refl
same_test test single_array = refl
same_test test edge_not_single = refl
same_test test repeated = refl

none_true : (a b c d e f g : Bool) (fault : Fault) → first_of (test_of a b c d e f g) ≡ None → test_of a b c d e f g fault ≡ false
none_true true b c d e f g fault none = absurd (cc)
none_true false true c d e f g fault none = absurd (cc)
none_true false false true d e f g fault none = absurd (cc)
none_true false false false true e f g fault none = absurd (cc)
none_true false false false false true f g fault none = absurd (cc)
none_true false false false false false true g fault none = absurd (cc)
none_true false false false false false false true fault none = absurd (cc)
none_true false false false false false false false bad_name none = refl
none_true false false false false false false false unknown_system none = refl
none_true false false false false false false false unknown_type none = refl
none_true false false false false false false false float_column none = refl
none_true false false false false false false false single_array none = refl
none_true false false false false false false false edge_not_single none = refl
none_true false false false false false false false repeated none = refl

-- where no fault is given, each test is false
pub none_given : (test : Fault → Bool) → first_of test ≡ None → (fault : Fault) → test fault ≡ false
none_given test none fault = sym (same_test test fault) ∙ none_true (test bad_name) (test unknown_system) (test unknown_type) (test float_column) (test single_array) (test edge_not_single) (test repeated) fault none

some_true : (a b c d e f g : Bool) (fault : Fault) → first_of (test_of a b c d e f g) ≡ Some fault → test_of a b c d e f g fault ≡ true
some_true true b c d e f g fault some = let is : bad_name ≡ fault = cc in subst (λ x. test_of true b c d e f g x ≡ true) is refl
some_true false true c d e f g fault some = let is : unknown_system ≡ fault = cc in subst (λ x. test_of false true c d e f g x ≡ true) is refl
some_true false false true d e f g fault some = let is : unknown_type ≡ fault = cc in subst (λ x. test_of false false true d e f g x ≡ true) is refl
some_true false false false true e f g fault some = let is : float_column ≡ fault = cc in subst (λ x. test_of false false false true e f g x ≡ true) is refl
some_true false false false false true f g fault some = let is : single_array ≡ fault = cc in subst (λ x. test_of false false false false true f g x ≡ true) is refl
some_true false false false false false true g fault some = let is : edge_not_single ≡ fault = cc in subst (λ x. test_of false false false false false true g x ≡ true) is refl
some_true false false false false false false true fault some = let is : repeated ≡ fault = cc in subst (λ x. test_of false false false false false false true x ≡ true) is refl
some_true false false false false false false false fault some = absurd (cc)

-- the fault that is given has its test true
pub given_true : (test : Fault → Bool) (fault : Fault) → first_of test ≡ Some fault → test fault ≡ true
given_true test fault some = sym (same_test test fault) ∙ some_true (test bad_name) (test unknown_system) (test unknown_type) (test float_column) (test single_array) (test edge_not_single) (test repeated) fault some

-- a fault that comes before has its test false
abbrev passes : (Fault → Bool) → Fault → Fault → Bool
passes test fault other = not (nat_lt (place_of other) (place_of fault)) || not (test other)

abbrev faults : List Fault
faults = bad_name ∷ (unknown_system ∷ (unknown_type ∷ (float_column ∷ (single_array ∷ (edge_not_single ∷ (repeated ∷ []))))))

all_pass : (a b c d e f g : Bool) (fault : Fault) → first_of (test_of a b c d e f g) ≡ Some fault → list_all (passes (test_of a b c d e f g) fault) faults ≡ true
all_pass true b c d e f g fault some = let is : bad_name ≡ fault = cc in subst (λ x. list_all (passes (test_of true b c d e f g) x) faults ≡ true) is refl
all_pass false true c d e f g fault some = let is : unknown_system ≡ fault = cc in subst (λ x. list_all (passes (test_of false true c d e f g) x) faults ≡ true) is refl
all_pass false false true d e f g fault some = let is : unknown_type ≡ fault = cc in subst (λ x. list_all (passes (test_of false false true d e f g) x) faults ≡ true) is refl
all_pass false false false true e f g fault some = let is : float_column ≡ fault = cc in subst (λ x. list_all (passes (test_of false false false true e f g) x) faults ≡ true) is refl
all_pass false false false false true f g fault some = let is : single_array ≡ fault = cc in subst (λ x. list_all (passes (test_of false false false false true f g) x) faults ≡ true) is refl
all_pass false false false false false true g fault some = let is : edge_not_single ≡ fault = cc in subst (λ x. list_all (passes (test_of false false false false false true g) x) faults ≡ true) is refl
all_pass false false false false false false true fault some = let is : repeated ≡ fault = cc in subst (λ x. list_all (passes (test_of false false false false false false true) x) faults ≡ true) is refl
all_pass false false false false false false false fault some = absurd (cc)

each : (test : Fault → Bool) → list_all test faults ≡ true → (fault : Fault) → test fault ≡ true
each test all bad_name = AllPass-from_list_all test faults all 0 bad_name (lit< tt)
each test all unknown_system = AllPass-from_list_all test faults all 1 bad_name (lit< tt)
each test all unknown_type = AllPass-from_list_all test faults all 2 bad_name (lit< tt)
each test all float_column = AllPass-from_list_all test faults all 3 bad_name (lit< tt)
each test all single_array = AllPass-from_list_all test faults all 4 bad_name (lit< tt)
each test all edge_not_single = AllPass-from_list_all test faults all 5 bad_name (lit< tt)
each test all repeated = AllPass-from_list_all test faults all 6 bad_name (lit< tt)

passed : (test before : Bool) → before ≡ true → (not before || not test) ≡ true → test ≡ false
passed false before is ok = refl
passed true before is ok = absurd (cc)

-- the fault that is given has each test before it false
pub given_first : (test : Fault → Bool) (fault other : Fault) → first_of test ≡ Some fault → place_of other < place_of fault → test other ≡ false
given_first test fault other some before =
    let all : list_all (passes (answers_of test) fault) faults ≡ true = all_pass (test bad_name) (test unknown_system) (test unknown_type) (test float_column) (test single_array) (test edge_not_single) (test repeated) fault some in
    sym (same_test test other) ∙ passed (answers_of test other) (nat_lt (place_of other) (place_of fault)) (lt-ltb (place_of other) (place_of fault) before) (each (passes (answers_of test) fault) all other)
