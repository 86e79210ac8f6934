-- What a reader of records has left, before and after one of them.
use Rattle.std.proofs.Common.{◌≡◌, ◌∙◌, ◌<◌, ◌≤◌, ◌+◌, ◌^◌, ℕ, Bool, true, false, not, cond, Option, None, Some, List, [], ◌∷◌, length, sum_by, refl, sym, ap, subst, inl, inr, arith}
use Rattle.std.specs.List.{All}
use Rattle.std.proofs.lemmas.Bool.{not-false, not-true}
use Rattle.std.proofs.lemmas.List.Elements.{All-from_get_or}
use Rattle.std.proofs.lemmas.List.Sums.{get_or-le-sum_by}
use Rattle.csv.specs.Machine.{Read, next_record}
use Rattle.csv.specs.Reading.{default_config, is_bom, records_next, strip_bom}
use Rattle.csv.specs.declared.parser.State.{State}
use Rattle.csv.specs.declared.parser.State.TheVariants.{StartRecord}
use Rattle.bl_rows.specs.Contents.{Fields, IsShort, contents}
use Rattle.bl_rows.specs.File.{IsSmall}
use Rattle.bl_rows.specs.RecordReaders.{GivesNext, HasLeftBy, Held, IsSound, IsSoundUnless, Takes, TakesNext, left_unless, records_after, records_left, rows_in, rows_left}
use Rattle.bl_rows.specs.declared.records.RecordReader.TheInside.{Inside}
use Rattle.bl_rows.proofs.CsvRecords.{all-first, few-records, record-shrinks, record-sized}

-- a file without its mark is no larger
pub strip-small : (bytes : List ℕ) → length (strip_bom bytes) ≤ length bytes
unfolding strip_bom
strip-small [] = omega arith
strip-small (a ∷ []) = omega arith
strip-small (a ∷ b ∷ []) = omega arith
strip-small (a ∷ b ∷ c ∷ rest) = by (is_bom a b c)
  where
    by : (mark : Bool) → length (cond mark rest (a ∷ b ∷ c ∷ rest)) ≤ length (a ∷ b ∷ c ∷ rest)
    by true = omega arith
    by false = omega arith

-- a small file has few records
pub contents-few : (bytes : List ℕ) → IsSmall bytes → length (contents bytes) ≤ 268435457
unfolding contents
contents-few bytes small = omega (arith, few-records default_config (length (strip_bom bytes) + 1) StartRecord (strip_bom bytes), strip-small bytes)

each-below : (fields : Fields) (n : ℕ) → sum_by length fields < n → All (λ field. length field < n) fields
each-below fields n small = All-from_get_or (λ field. length field < n) fields [] (λ i within. omega (arith, get_or-le-sum_by length fields i [] within))

-- a record of a small text is short, and leaves a small one
pub next-short : (state : State) (left : List ℕ) (next : Read) → IsSmall left → next_record default_config state [] [] left ≡ Some next → IsShort next.0 × IsSmall next.2
next-short state left next small is =
    let sized = record-sized default_config state left next is in (
      record { few = omega (arith, sized); each = each-below next.0 (2 ^ 32) (omega (arith, sized)) },
      elim (record-shrinks default_config state left next is) [
        | inl less ↦ omega (arith, less)
        | inr done ↦ rw done.1 (omega arith)
      ],
    )

-- at the start all records are left
pub contents-start : (bytes : List ℕ) → contents bytes ≡ records_after StartRecord (strip_bom bytes)
unfolding contents records_after
contents-start bytes = refl

after-first : (state : State) (left : List ℕ) → records_after state left ≡ records_next records_after (next_record default_config state [] [] left)
unfolding records_after
after-first state left = all-first default_config state left

none_left : (next : Option Read) (found : Bool) (row : Fields) (reader : Held) → Takes next found row reader → found ≡ false → records_next records_after next ≡ []
none_left None found row reader took none = refl
none_left (Some next) found row reader took none = cc (took.0, none)

-- what a sound reader has left, it has left by its state
known_by : (lost ended : Bool) (reader : Held) (rows : List Fields) → lost ≡ false → IsSoundUnless lost ended reader → left_unless lost (rows_left ended reader) ≡ Some rows
    → HasLeftBy ended reader rows
known_by true ended reader rows is sound left = absurd cc
known_by false ended reader rows is sound left =
    let same : rows_left ended reader ≡ rows = cc in
    subst (HasLeftBy ended reader) same sound

known : (it : Inside) (rows : List Fields) → it.lost ≡ false → IsSound it → records_left it ≡ Some rows → HasLeftBy it.ended it.reader rows
known it rows is sound left = known_by it.lost it.ended it.reader rows is sound left

-- and the other way round
rows_by : (ended : Bool) (reader : Held) (rows : List Fields) → HasLeftBy ended reader rows → rows_left ended reader ≡ rows
rows_by true reader rows has = sym has
rows_by false reader rows (state, left, stands, is, small) = (λ i. rows_in (stands.left_is i) (stands.state_is i)) ∙ sym is

pub sound_by : (ended : Bool) (reader : Held) (rows : List Fields) → HasLeftBy ended reader rows → HasLeftBy ended reader (rows_left ended reader)
sound_by ended reader rows has = subst (HasLeftBy ended reader) (sym (rows_by ended reader rows has)) has

pub left_by : (ended : Bool) (reader : Held) (rows : List Fields) → HasLeftBy ended reader rows → Some (rows_left ended reader) ≡ Some rows
left_by ended reader rows has = ap Some (rows_by ended reader rows has)

-- a reader that has ended has none left
pub gives-ended : (it : Inside) (rows : List Fields) → it.lost ≡ false → it.ended ≡ true → IsSound it → records_left it ≡ Some rows → GivesNext rows (records_left it) None
gives-ended it rows kept ended sound left =
    let empty : rows ≡ [] = rw ended at (known it rows kept sound left) in
    subst (λ rs. GivesNext rs (records_left it) None) (sym empty) (refl, left ∙ ap Some empty)

-- a reader that found no record had none left
pub gives-none : (it : Inside) (rows : List Fields) (found : Bool) (row : Fields) (reader : Held) → it.lost ≡ false → it.ended ≡ false → IsSound it → records_left it ≡ Some rows
    → TakesNext it.reader found row reader → not found ≡ true → GivesNext rows (Some (rows_left (not found) reader)) None
gives-none it rows found row reader kept open_still sound left reads none =
    let (state, bytes, stands, is, small) = rw open_still at (known it rows kept sound left) in
    let empty : rows ≡ [] = is ∙ after-first state bytes ∙ none_left _ found row reader (reads state bytes stands) (not-true found none) in
    subst (λ rs. GivesNext rs (Some (rows_left (not found) reader)) None) (sym empty) (refl, ap (λ ended. Some (rows_left ended reader)) none)

others_left : (state : State) (left : List ℕ) (next : Option Read) (found : Bool) (row : Fields) (reader : Held) → IsSmall left
    → next_record default_config state [] [] left ≡ next → Takes next found row reader → found ≡ true
    → (rest : List Fields) × (records_next records_after next ≡ row ∷ rest) × HasLeftBy false reader rest × IsShort row
others_left state left None found row reader small is took some = cc (took, some)
others_left state left (Some next) found row reader small is took some =
    let (short, rest_small) = next-short state left next small is in
    (records_after next.1 next.2, rw took.1 refl, (next.1, next.2, took.2, refl, rest_small), rw took.1 short)

-- what is left behind a record that was found
record Behind (reader : Held) (ended : Bool) (rows : List Fields) (row : Fields) : Type 0 where
  rest : List Fields
  is : rows ≡ row ∷ rest
  has : HasLeftBy ended reader rest
  short : IsShort row

behind : (it : Inside) (rows : List Fields) (found : Bool) (row : Fields) (reader : Held) → it.lost ≡ false → it.ended ≡ false → IsSound it → records_left it ≡ Some rows
    → TakesNext it.reader found row reader → not found ≡ false → Behind reader (not found) rows row
behind it rows found row reader kept open_still sound left reads some =
    let (state, bytes, stands, is, small) = rw open_still at (known it rows kept sound left) in
    let (rest, first, has_rest, short) = others_left state bytes _ found row reader small refl (reads state bytes stands) (not-false found some) in
    record { rest = rest; is = is ∙ after-first state bytes ∙ first; has = subst (λ ended. HasLeftBy ended reader rest) (sym some) has_rest; short = short }

-- a reader that found a record has the others left
pub gives-some : (it : Inside) (rows : List Fields) (found : Bool) (row fields : Fields) (reader : Held) → it.lost ≡ false → it.ended ≡ false → IsSound it → records_left it ≡ Some rows
    → TakesNext it.reader found row reader → not found ≡ false → fields ≡ row → GivesNext rows (Some (rows_left (not found) reader)) (Some fields)
gives-some it rows found row fields reader kept open_still sound left reads some same =
    let rest = behind it rows found row reader kept open_still sound left reads some in
    subst (λ rs. GivesNext rs (Some (rows_left (not found) reader)) (Some fields)) (sym rest.is) (ap Some same, left_by (not found) reader rest.rest rest.has, rest.short)

-- and is sound
pub sound-some : (it : Inside) (found : Bool) (row : Fields) (reader : Held) → it.lost ≡ false → it.ended ≡ false → IsSound it
    → TakesNext it.reader found row reader → not found ≡ false → HasLeftBy (not found) reader (rows_left (not found) reader)
sound-some it found row reader kept open_still sound reads some =
    let rest = behind it (rows_left it.ended it.reader) found row reader kept open_still sound (ap (λ lost. left_unless lost (rows_left it.ended it.reader)) kept) reads some in
    sound_by (not found) reader rest.rest rest.has
