-- The records of a text of CSV, from a state on, one record at a time.
use Rattle.std.proofs.Common.{◌≡◌, ◌<◌, ◌≤◌, ◌+◌, ◌⊎◌, ◌++◌, ℕ, zero, suc, Bool, true, false, Option, None, Some, List, [], ◌∷◌, length, sum_by, refl, ap, inl, inr, add-one, arith}
use Rattle.std.proofs.lemmas.List.{length-append}
use Rattle.std.proofs.lemmas.List.Sums.{sum_by_push}
use Rattle.csv.specs.Machine.{Read, ends_at_end, field_after, fields_after, is_end, next_record, step}
use Rattle.csv.specs.Reading.{records_from, records_next}
use Rattle.csv.specs.declared.parser.Action.{Action}
use Rattle.csv.specs.declared.parser.Action.TheVariants.{Copy, EndField, EndRecord, Skip}
use Rattle.csv.specs.declared.parser.Config.{Config}
use Rattle.csv.specs.declared.parser.State.{State}
use Rattle.csv.specs.declared.parser.State.TheVariants.{StartRecord}

-- less is left after a record than before it, or nothing
abbrev pub Shrinks : ℕ → Read → Type 0
Shrinks size next = (length next.2 < size) ⊎ ((next.1 ≡ StartRecord) × (next.2 ≡ []))

abbrev IfRead : Option Read → ℕ → Type 0
IfRead None size = Unit {0}
IfRead (Some next) size = Shrinks size next

if_read-more : (read : Option Read) (size : ℕ) → IfRead read size → IfRead read (suc size)
if_read-more None size h = tt
if_read-more (Some next) size (inl h) = inl (omega arith)
if_read-more (Some next) size (inr h) = inr h

next-shrinks : (cfg : Config) (s : State) (fields : List (List ℕ)) (field xs : List ℕ) → IfRead (next_record cfg s fields field xs) (length xs)
unfolding next_record
next-shrinks cfg s fields field [] = by (ends_at_end s) refl
  where
    by : (b : Bool) → ends_at_end s ≡ b → IfRead (next_record cfg s fields field []) 0
    by true e = rw e (inr (refl, refl))
    by false e = rw e tt
next-shrinks cfg s fields field (c ∷ rest) =
    by (is_end (step cfg s c).1) refl (next-shrinks cfg (step cfg s c).0 (fields_after (step cfg s c).1 fields field) (field_after (step cfg s c).1 c field) rest)
  where
    by : (b : Bool) → is_end (step cfg s c).1 ≡ b
        → IfRead (next_record cfg (step cfg s c).0 (fields_after (step cfg s c).1 fields field) (field_after (step cfg s c).1 c field) rest) (length rest)
        → IfRead (next_record cfg s fields field (c ∷ rest)) (suc (length rest))
    by true e h = rw e (inl (omega arith))
    by false e h = rw e (if_read-more _ (length rest) h)

-- a record leaves less, or nothing
pub record-shrinks : (cfg : Config) (s : State) (xs : List ℕ) (next : Read) → next_record cfg s [] [] xs ≡ Some next → Shrinks (length xs) next
record-shrinks cfg s xs next e = rw e at (next-shrinks cfg s [] [] xs)

-- no text has no record
pub no-records : (cfg : Config) (n : ℕ) → records_from cfg n StartRecord [] ≡ []
unfolding records_from next_record
no-records cfg zero = refl
no-records cfg (suc n) = refl

-- how many records are asked for makes no difference where those are more than the bytes
pub enough : (cfg : Config) (n m : ℕ) (s : State) (xs : List ℕ) → length xs < n → length xs < m → records_from cfg n s xs ≡ records_from cfg m s xs
unfolding records_from
enough cfg zero m s xs h k = absurd (omega arith)
enough cfg (suc n) zero s xs h k = absurd (omega arith)
enough cfg (suc n) (suc m) s xs h k = by (next_record cfg s [] [] xs) refl (enough cfg n m)
  where
    by : (read : Option Read) → next_record cfg s [] [] xs ≡ read
        → ((s2 : State) (ys : List ℕ) → length ys < n → length ys < m → records_from cfg n s2 ys ≡ records_from cfg m s2 ys)
        → records_next (records_from cfg n) read ≡ records_next (records_from cfg m) read
    by None e more = refl
    by (Some next) e more = elim (record-shrinks cfg s xs next e) [
      | inl less ↦ ap (λ rows. next.0 ∷ rows) (more next.1 next.2 (omega arith) (omega arith))
      | inr done ↦ rw (done.0, done.1, no-records cfg n, no-records cfg m) refl
    ]

-- all records from a state on
abbrev pub all_from : Config → State → List ℕ → List (List (List ℕ))
all_from cfg s xs = records_from cfg (length xs + 1) s xs

-- all of them are the first, and all from where it leaves
pub all-first : (cfg : Config) (s : State) (xs : List ℕ) → all_from cfg s xs ≡ records_next (all_from cfg) (next_record cfg s [] [] xs)
unfolding records_from
all-first cfg s xs = rw (add-one (length xs)) (by (next_record cfg s [] [] xs) refl)
  where
    by : (read : Option Read) → next_record cfg s [] [] xs ≡ read → records_next (records_from cfg (length xs)) read ≡ records_next (all_from cfg) read
    by None e = refl
    by (Some next) e = elim (record-shrinks cfg s xs next e) [
      | inl less ↦ ap (λ rows. next.0 ∷ rows) (enough cfg (length xs) (length next.2 + 1) next.1 next.2 less (omega arith))
      | inr done ↦ rw (done.0, done.1, no-records cfg (length xs), no-records cfg (0 + 1)) refl
    ]

-- no more records are given than are asked for
pub few-records : (cfg : Config) (n : ℕ) (s : State) (xs : List ℕ) → length (records_from cfg n s xs) ≤ n
unfolding records_from
few-records cfg zero s xs = omega arith
few-records cfg (suc n) s xs = by (next_record cfg s [] [] xs) (few-records cfg n)
  where
    by : (read : Option Read) → ((s2 : State) (ys : List ℕ) → length (records_from cfg n s2 ys) ≤ n) → length (records_next (records_from cfg n) read) ≤ suc n
    by None more = omega arith
    by (Some next) more = omega (arith, more next.1 next.2)

-- the fields and their bytes, counted together
abbrev pub size_of : List (List ℕ) → ℕ
size_of fields = length fields + sum_by length fields

size-push : (fields : List (List ℕ)) (field : List ℕ) → size_of (fields ++ field ∷ []) ≡ size_of fields + length field + 1
size-push fields field = omega (arith, length-append fields (field ∷ []), sum_by_push length fields field)

-- a byte adds at most one to them
step-size : (act : Action) (c : ℕ) (fields : List (List ℕ)) (field : List ℕ)
    → size_of (fields_after act fields field) + length (field_after act c field) ≤ size_of fields + length field + 1
step-size Skip c fields field = omega arith
step-size Copy c fields field = omega (arith, length-append field (c ∷ []))
step-size EndField c fields field = omega (arith, size-push fields field)
step-size EndRecord c fields field = omega (arith, size-push fields field)

abbrev IfSized : Option Read → ℕ → Type 0
IfSized None size = Unit {0}
IfSized (Some next) size = size_of next.0 ≤ size

if_sized-more : (read : Option Read) (n m : ℕ) → n ≤ m → IfSized read n → IfSized read m
if_sized-more None n m le h = tt
if_sized-more (Some next) n m le h = omega arith

next-sized : (cfg : Config) (s : State) (fields : List (List ℕ)) (field xs : List ℕ)
    → IfSized (next_record cfg s fields field xs) (size_of fields + length field + length xs + 1)
unfolding next_record
next-sized cfg s fields field [] = by (ends_at_end s) refl
  where
    by : (b : Bool) → ends_at_end s ≡ b → IfSized (next_record cfg s fields field []) (size_of fields + length field + 0 + 1)
    by true e = rw e (omega (arith, size-push fields field))
    by false e = rw e tt
next-sized cfg s fields field (c ∷ rest) =
    by (is_end (step cfg s c).1) refl (step-size (step cfg s c).1 c fields field)
    (next-sized cfg (step cfg s c).0 (fields_after (step cfg s c).1 fields field) (field_after (step cfg s c).1 c field) rest)
  where
    by : (b : Bool) → is_end (step cfg s c).1 ≡ b
        → size_of (fields_after (step cfg s c).1 fields field) + length (field_after (step cfg s c).1 c field) ≤ size_of fields + length field + 1
        → IfSized (next_record cfg (step cfg s c).0 (fields_after (step cfg s c).1 fields field) (field_after (step cfg s c).1 c field) rest)
        (size_of (fields_after (step cfg s c).1 fields field) + length (field_after (step cfg s c).1 c field) + length rest + 1)
        → IfSized (next_record cfg s fields field (c ∷ rest)) (size_of fields + length field + suc (length rest) + 1)
    by true e grown h = rw e (omega (arith, grown))
    by false e grown h = rw e (if_sized-more _ _ _ (omega (arith, grown)) h)

-- a record has no more fields and bytes than the text has bytes, and one
pub record-sized : (cfg : Config) (s : State) (xs : List ℕ) (next : Read) → next_record cfg s [] [] xs ≡ Some next → size_of next.0 ≤ length xs + 1
record-sized cfg s xs next e = if_sized-more (Some next) _ (length xs + 1) (omega arith) (rw e at (next-sized cfg s [] [] xs))
