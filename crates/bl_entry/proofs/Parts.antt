-- The parts of entries are read as they are written.
use Rattle.std.proofs.Common.{◌≡◌, ℕ, ℤ, pos, negsuc, zero, suc, ◌^◌, ◌<◌, ◌≤◌, Bool, true, false, ◌&&◌, cond, leb, List, [], ◌∷◌, ◌++◌, length, Option, Some, None, FitsSigned, refl, sym, ap, subst, ◌∙◌, append_assoc, arith}
use Rattle.std.specs.Prelude.{nat_eq, ◌==◌}
use Rattle.std.specs.List.{find}
use Rattle.std.specs.Str.{is_utf8}
use Rattle.std.specs.Int.{w8, w16, w32, w64, to_be_bytes, cast_unsigned}
use Rattle.std.proofs.lemmas.Int.{ints}
use Rattle.std.proofs.lemmas.Bool.{leb-true, le-leb, eqb-true}
use Rattle.std.proofs.lemmas.Str.{IsUtf8-from_is_utf8, is_utf8-from_IsUtf8}
use Rattle.bl_outside.specs.declared.digest.Digest.{Digest}
use Rattle.bl_value.specs.declared.log_code.LogCode.{LogCode}
use Rattle.bl_value.specs.declared.log_code.LogCode.TheVariants.{ColumnCount, NotUtf8, RecordTooLarge, MissingId, IdTooLong, NotOfType, OutOfRange, TooManyValues, FromMissing, ToMissing, EdgeConflict, SingleConflict, Header, Compressed, ReadFault, FileTooLarge, FeedModified, SourceNotFound, ListFault, TooManyFiles, NoPreviousLoad}
use Rattle.bl_value.specs.declared.column.Side.{Side}
use Rattle.bl_value.specs.declared.column.Side.TheVariants as side
use Rattle.bl_value.specs.declared.value.Value.{Value}
use Rattle.bl_value.specs.declared.value.Value.TheVariants as value
use Rattle.bl_value.specs.declared.change.Change.{Change}
use Rattle.bl_value.specs.declared.change.Change.TheVariants.{AddLabel, AddEdge, AddValue, RemoveValue}
use Rattle.bl_outside.specs.Texts.{IsShortText}
use Rattle.bl_value.specs.Valid.{IsId, IsKey, IsDate, IsValue, IsChange}
use Rattle.bl_files.specs.declared.log.Log.{Log}
use Rattle.bl_entry.specs.Encoding.{text_bytes, truth_bytes, digest_bytes, code_number, code_bytes, log_bytes, side_bytes, value_bytes, change_bytes}
use Rattle.bl_entry.specs.Valid.{IsDigest, IsLog}
use Rattle.bl_entry.specs.Reading.{◌>>=◌, both_at, tested_at, front_at, number_at, signed_at, truth_at, text_at, digest_at, is_within, short_at, all_codes, code_of, code_at, log_at, side_at, is_date, value_at, property_at, change_at}
use Rattle.bl_entry.proofs.Parses.{IsBytes, IsBytes-rest, bind_some, guard_is, some_is, Takes, Takes-then, Parses, both_parses, made_parses, tagged_takes, tagged_again, alone_takes, tested_parses, valid_parses, front_takes, front_again, number_parses}
use Rattle.bl_entry.proofs.Numbers.{wide8, wide16, wide32, wide64, signed_parses}

abbrev Anything : {A : Type 0} → A → Type 0
Anything x = Unit {0}

pub truth_parses : Parses truth_bytes Anything truth_at
unfolding truth_at
truth_parses = record { takes = takes; again = again }
  where
    takes : (bytes : List ℕ) (x : Bool) (rest : List ℕ) → IsBytes bytes → truth_at bytes ≡ Some (x, rest) → Takes bytes (truth_bytes x) rest × Unit {0}
    takes [] x rest fits e = absurd cc
    takes (zero ∷ bytes) x rest fits e = alone_takes truth_bytes Anything 0 false refl tt bytes x rest fits e
    takes (suc zero ∷ bytes) x rest fits e = alone_takes truth_bytes Anything 1 true refl tt bytes x rest fits e
    takes (suc (suc b) ∷ bytes) x rest fits e = absurd cc

    again : (x : Bool) (rest : List ℕ) → Unit {0} → truth_at (truth_bytes x ++ rest) ≡ Some (x, rest)
    again false rest valid = refl
    again true rest valid = refl

pub digest_parses : Parses digest_bytes IsDigest digest_at
unfolding digest_at
digest_parses =
    record {
      takes = λ bytes x rest fits e.
          let s = bind_some (front_at 32 bytes) (λ b. Some (record { bytes = b.0 }, b.1)) (x, rest) e in
          let t = front_takes 32 bytes s.0.0 s.0.1 fits s.1 in
          let made : Digest × List ℕ = (record { bytes = s.0.0 }, s.0.1) in
          subst (λ (y : Digest × List ℕ). Takes bytes y.0.bytes y.1 × IsDigest y.0) (some_is made (x, rest) s.2) (t.0, t.1.0);
      again = λ x rest valid. ap (λ (r : Option (List ℕ × List ℕ)). r >>= λ b. Some (record { bytes = b.0 }, b.1)) (front_again 32 x.bytes rest valid);
    }

pub text_parses : Parses text_bytes IsShortText text_at
unfolding text_at
text_parses =
    record {
      takes = λ bytes x rest fits e.
          let s = bind_some (number_at w32 bytes) (λ n. tested_at is_utf8 (front_at n.0) n.1) (x, rest) e in
          let count = (number_parses w32 wide32).takes bytes s.0.0 s.0.1 fits s.1 in
          let t = bind_some (front_at s.0.0 s.0.1) (λ y. cond (is_utf8 y.0) (Some y) None) (x, rest) s.2 in
          let g = guard_is (is_utf8 t.0.0) t.0 (x, rest) t.2 in
          let front = front_takes s.0.0 s.0.1 t.0.0 t.0.1 count.0.rest_fits t.1 in
          subst (λ (y : List ℕ × List ℕ). Takes bytes (text_bytes y.0) y.1 × IsShortText y.0) g.1 (
            subst (λ (n : ℕ). Takes bytes (to_be_bytes w32 n ++ t.0.0) t.0.1) (sym front.1.0) (Takes-then bytes (to_be_bytes w32 s.0.0) s.0.1 t.0.0 t.0.1 count.0 front.0),
            record { utf8 = IsUtf8-from_is_utf8 t.0.0 g.0; short = subst (λ (n : ℕ). n < 2 ^ 32) (sym front.1.0) count.1 },
          );
      again = λ x rest valid.
          ap text_at (append_assoc (to_be_bytes w32 (length x)) x rest)
          ∙ ap (λ (r : Option (ℕ × List ℕ)). r >>= λ n. tested_at is_utf8 (front_at n.0) n.1) ((number_parses w32 wide32).again (length x) (x ++ rest) valid.short)
          ∙ ap (λ (r : Option (List ℕ × List ℕ)). r >>= λ y. cond (is_utf8 y.0) (Some y) None) (front_again (length x) x rest refl)
          ∙ ap (λ b. cond b (Some (x, rest)) None) (is_utf8-from_IsUtf8 x valid.utf8);
    }

both_true : (a b : Bool) → (a && b) ≡ true → (a ≡ true) × (b ≡ true)
both_true true b h = (refl, h)
both_true false b h = absurd cc

true_both : (a b : Bool) → a ≡ true → b ≡ true → (a && b) ≡ true
true_both true b h k = k
true_both false b h k = absurd cc

within_is : (most : ℕ) (text : List ℕ) → is_within most text ≡ true → (1 ≤ length text) × (length text ≤ most)
within_is most text h = let both = both_true (leb 1 (length text)) (leb (length text) most) h in (leb-true _ _ both.0, leb-true _ _ both.1)

is_within_of : (most : ℕ) (text : List ℕ) → 1 ≤ length text → length text ≤ most → is_within most text ≡ true
is_within_of most text some short = true_both (leb 1 (length text)) (leb (length text) most) (le-leb _ _ some) (le-leb _ _ short)

pub id_parses : Parses text_bytes IsId (short_at 1024)
unfolding short_at
id_parses =
    valid_parses IsId (λ x h. let w = within_is 1024 x h.1 in record { utf8 = h.0.utf8; some = w.0; short = w.1 })
    (λ x h. (record { utf8 = h.utf8; short = omega (arith, h.short) }, is_within_of 1024 x h.some h.short)) (tested_parses (is_within 1024) text_parses)

pub key_parses : Parses text_bytes IsKey (short_at 256)
unfolding short_at
key_parses =
    valid_parses IsKey (λ x h. let w = within_is 256 x h.1 in record { utf8 = h.0.utf8; some = w.0; short = w.1 })
    (λ x h. (record { utf8 = h.utf8; short = omega (arith, h.short) }, is_within_of 256 x h.some h.short)) (tested_parses (is_within 256) text_parses)

-- ---- logs

found_code : (n : ℕ) (codes : List LogCode) (code : LogCode) → find (λ c. code_number c == n) codes ≡ Some code → code_number code ≡ n
found_code n [] code e = absurd cc
found_code n (c ∷ codes) code e = by (nat_eq (code_number c) n) refl e (found_code n codes code)
  where
    by : (b : Bool) → nat_eq (code_number c) n ≡ b → cond b (Some c) (find (λ c. code_number c == n) codes) ≡ Some code → (find (λ c. code_number c == n) codes ≡ Some code → code_number code ≡ n) → code_number code ≡ n
    by true is e rest = ap code_number (sym (some_is c code e)) ∙ eqb-true _ _ is
    by false is e rest = rest e

code_again : (code : LogCode) → code_of (code_number code) ≡ Some code
unfolding code_of
code_again ColumnCount = refl
code_again NotUtf8 = refl
code_again RecordTooLarge = refl
code_again MissingId = refl
code_again IdTooLong = refl
code_again NotOfType = refl
code_again OutOfRange = refl
code_again TooManyValues = refl
code_again FromMissing = refl
code_again ToMissing = refl
code_again EdgeConflict = refl
code_again SingleConflict = refl
code_again Header = refl
code_again Compressed = refl
code_again ReadFault = refl
code_again FileTooLarge = refl
code_again FeedModified = refl
code_again SourceNotFound = refl
code_again ListFault = refl
code_again TooManyFiles = refl
code_again NoPreviousLoad = refl

code_of_is : (n : ℕ) (code : LogCode) → code_of n ≡ Some code → code_number code ≡ n
unfolding code_of
code_of_is n code e = found_code n all_codes code e

pub code_parses : Parses code_bytes Anything code_at
unfolding code_at
code_parses = record { takes = takes; again = λ x rest valid. ap (λ (r : Option LogCode). r >>= λ code. Some (code, rest)) (code_again x) }
  where
    takes : (bytes : List ℕ) (x : LogCode) (rest : List ℕ) → IsBytes bytes → code_at bytes ≡ Some (x, rest) → Takes bytes (code_bytes x) rest × Unit {0}
    takes [] x rest fits e = absurd cc
    takes (number ∷ bytes) x rest fits e =
        let s = bind_some (code_of number) (λ code. Some (code, bytes)) (x, rest) e in
        let made : LogCode × List ℕ = (s.0, bytes) in
        subst (λ (y : LogCode × List ℕ). Takes (number ∷ bytes) (code_bytes y.0) y.1 × Unit {0}) (some_is made (x, rest) s.2)
        (record { parts = ap (λ (n : ℕ). n ∷ bytes) (sym (code_of_is number s.0 s.1)); rest_fits = IsBytes-rest number bytes fits }, tt)

pub log_parses : Parses log_bytes IsLog log_at
unfolding log_at
log_parses =
    made_parses (λ (x : LogCode × (ℕ × ℕ)). record { code = x.0; number = x.1.0; column = x.1.1 }) (λ (l : Log). (l.code, (l.number, l.column))) IsLog (λ l valid. ((tt, (valid.0, valid.1)), refl)) (λ y valid. ((valid.1.0, valid.1.1), refl))
    (both_parses code_parses (both_parses (number_parses w64 wide64) (number_parses w32 wide32)))

-- ---- changes

pub side_parses : Parses side_bytes Anything side_at
unfolding side_at
side_parses = record { takes = takes; again = again }
  where
    takes : (bytes : List ℕ) (x : Side) (rest : List ℕ) → IsBytes bytes → side_at bytes ≡ Some (x, rest) → Takes bytes (side_bytes x) rest × Unit {0}
    takes [] x rest fits e = absurd cc
    takes (zero ∷ bytes) x rest fits e = alone_takes side_bytes Anything 0 side.Vertex refl tt bytes x rest fits e
    takes (suc zero ∷ bytes) x rest fits e = alone_takes side_bytes Anything 1 side.Edge refl tt bytes x rest fits e
    takes (suc (suc b) ∷ bytes) x rest fits e = absurd cc

    again : (x : Side) (rest : List ℕ) → Unit {0} → side_at (side_bytes x ++ rest) ≡ Some (x, rest)
    again side.Vertex rest valid = refl
    again side.Edge rest valid = refl

date_is : (n : ℤ) → is_date n ≡ true → IsDate n
date_is (pos n) h = let le : n ≤ 253402300799 = leb-true _ _ h in (omega (arith, ints), omega (arith, ints))
date_is (negsuc n) h = let le : n ≤ 62167219199 = leb-true _ _ h in (omega (arith, ints), omega (arith, ints))

is_date_of : (n : ℤ) → IsDate n → is_date n ≡ true
is_date_of (pos n) h = le-leb _ _ (omega (arith, ints))
is_date_of (negsuc n) h = le-leb _ _ (omega (arith, ints))

date_fits : (n : ℤ) → IsDate n → FitsSigned w64 n
date_fits n h = omega (arith, ints)

pub value_parses : Parses value_bytes IsValue value_at
unfolding value_at
value_parses = record { takes = takes; again = again }
  where
    date : Parses (λ z. to_be_bytes w64 (cast_unsigned w64 z)) IsDate (tested_at is_date (signed_at w64))
    date = valid_parses IsDate (λ n h. date_is n h.1) (λ n h. (date_fits n h, is_date_of n h)) (tested_parses is_date (signed_parses w64 wide64))

    takes : (bytes : List ℕ) (x : Value) (rest : List ℕ) → IsBytes bytes → value_at bytes ≡ Some (x, rest) → Takes bytes (value_bytes x) rest × IsValue x
    takes [] x rest fits e = absurd cc
    takes (zero ∷ bytes) x rest fits e = absurd cc
    takes (suc zero ∷ bytes) x rest fits e = tagged_takes value.Bool value_bytes IsValue 1 truth_parses (λ y. refl) (λ y h. h) bytes x rest fits e
    takes (suc (suc zero) ∷ bytes) x rest fits e = tagged_takes value.Byte value_bytes IsValue 2 (signed_parses w8 wide8) (λ y. refl) (λ y h. h) bytes x rest fits e
    takes (suc (suc (suc zero)) ∷ bytes) x rest fits e = tagged_takes value.Short value_bytes IsValue 3 (signed_parses w16 wide16) (λ y. refl) (λ y h. h) bytes x rest fits e
    takes (suc (suc (suc (suc zero))) ∷ bytes) x rest fits e = tagged_takes value.Int value_bytes IsValue 4 (signed_parses w32 wide32) (λ y. refl) (λ y h. h) bytes x rest fits e
    takes (suc (suc (suc (suc (suc zero)))) ∷ bytes) x rest fits e = tagged_takes value.Long value_bytes IsValue 5 (signed_parses w64 wide64) (λ y. refl) (λ y h. h) bytes x rest fits e
    takes (suc (suc (suc (suc (suc (suc zero))))) ∷ bytes) x rest fits e = tagged_takes value.Str value_bytes IsValue 6 text_parses (λ y. refl) (λ y h. h) bytes x rest fits e
    takes (suc (suc (suc (suc (suc (suc (suc zero)))))) ∷ bytes) x rest fits e = tagged_takes value.Date value_bytes IsValue 7 date (λ y. refl) (λ y h. h) bytes x rest fits e
    takes (suc (suc (suc (suc (suc (suc (suc (suc b))))))) ∷ bytes) x rest fits e = absurd cc

    again : (x : Value) (rest : List ℕ) → IsValue x → value_at (value_bytes x ++ rest) ≡ Some (x, rest)
    again (value.Bool b) rest valid = tagged_again value.Bool value_bytes IsValue 1 truth_parses b rest valid
    again (value.Byte n) rest valid = tagged_again value.Byte value_bytes IsValue 2 (signed_parses w8 wide8) n rest valid
    again (value.Short n) rest valid = tagged_again value.Short value_bytes IsValue 3 (signed_parses w16 wide16) n rest valid
    again (value.Int n) rest valid = tagged_again value.Int value_bytes IsValue 4 (signed_parses w32 wide32) n rest valid
    again (value.Long n) rest valid = tagged_again value.Long value_bytes IsValue 5 (signed_parses w64 wide64) n rest valid
    again (value.Str text) rest valid = tagged_again value.Str value_bytes IsValue 6 text_parses text rest valid
    again (value.Date n) rest valid = tagged_again value.Date value_bytes IsValue 7 date n rest valid

abbrev IsProperty : Side × (List ℕ × (List ℕ × Value)) → Type 0
IsProperty x = Unit {0} × (IsId x.1.0 × (IsKey x.1.1.0 × IsValue x.1.1.1))

abbrev property_bytes : Side × (List ℕ × (List ℕ × Value)) → List ℕ
property_bytes x = side_bytes x.0 ++ (text_bytes x.1.0 ++ (text_bytes x.1.1.0 ++ value_bytes x.1.1.1))

property_parses : Parses property_bytes IsProperty property_at
unfolding property_at
property_parses = both_parses side_parses (both_parses id_parses (both_parses key_parses value_parses))

pub change_parses : Parses change_bytes IsChange change_at
unfolding change_at
change_parses = record { takes = takes; again = again }
  where
    label : Parses (λ (x : List ℕ × List ℕ). text_bytes x.0 ++ text_bytes x.1) (λ x. IsId x.0 × IsId x.1) (both_at (short_at 1024) (short_at 1024))
    label = both_parses id_parses id_parses

    edge : Parses (λ (x : List ℕ × (List ℕ × (List ℕ × List ℕ))). text_bytes x.0 ++ (text_bytes x.1.0 ++ (text_bytes x.1.1.0 ++ text_bytes x.1.1.1))) (λ x. IsId x.0 × (IsId x.1.0 × (IsId x.1.1.0 × IsId x.1.1.1))) (both_at (short_at 1024) (both_at (short_at 1024) (both_at (short_at 1024) (short_at 1024))))
    edge = both_parses id_parses (both_parses id_parses (both_parses id_parses id_parses))

    takes : (bytes : List ℕ) (x : Change) (rest : List ℕ) → IsBytes bytes → change_at bytes ≡ Some (x, rest) → Takes bytes (change_bytes x) rest × IsChange x
    takes [] x rest fits e = absurd cc
    takes (zero ∷ bytes) x rest fits e = absurd cc
    takes (suc zero ∷ bytes) x rest fits e = tagged_takes (λ x. AddLabel x.0 x.1) change_bytes IsChange 1 label (λ y. refl) (λ y h. h) bytes x rest fits e
    takes (suc (suc zero) ∷ bytes) x rest fits e = tagged_takes (λ x. AddEdge x.0 x.1.0 x.1.1.0 x.1.1.1) change_bytes IsChange 2 edge (λ y. refl) (λ y h. h) bytes x rest fits e
    takes (suc (suc (suc zero)) ∷ bytes) x rest fits e = tagged_takes (λ x. AddValue x.0 x.1.0 x.1.1.0 x.1.1.1) change_bytes IsChange 3 property_parses (λ y. refl) (λ y h. h.1) bytes x rest fits e
    takes (suc (suc (suc (suc zero))) ∷ bytes) x rest fits e = tagged_takes (λ x. RemoveValue x.0 x.1.0 x.1.1.0 x.1.1.1) change_bytes IsChange 4 property_parses (λ y. refl) (λ y h. h.1) bytes x rest fits e
    takes (suc (suc (suc (suc (suc b)))) ∷ bytes) x rest fits e = absurd cc

    again : (x : Change) (rest : List ℕ) → IsChange x → change_at (change_bytes x ++ rest) ≡ Some (x, rest)
    again (AddLabel id name) rest valid = tagged_again (λ x. AddLabel x.0 x.1) change_bytes IsChange 1 label (id, name) rest valid
    again (AddEdge id name from to) rest valid = tagged_again (λ x. AddEdge x.0 x.1.0 x.1.1.0 x.1.1.1) change_bytes IsChange 2 edge (id, (name, (from, to))) rest valid
    again (AddValue s id key v) rest valid = tagged_again (λ x. AddValue x.0 x.1.0 x.1.1.0 x.1.1.1) change_bytes IsChange 3 property_parses (s, (id, (key, v))) rest (tt, valid)
    again (RemoveValue s id key v) rest valid = tagged_again (λ x. RemoveValue x.0 x.1.0 x.1.1.0 x.1.1.1) change_bytes IsChange 4 property_parses (s, (id, (key, v))) rest (tt, valid)
