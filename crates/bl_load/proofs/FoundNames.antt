-- Files that are found, one name after another.
use Rattle.std.specs.Prelude.{◌≡◌, ◌⊎◌, ◌≤◌, ◌<◌, ℕ, ◌+◌, nat_eq, Bool, true, false, List, [], ◌∷◌, ◌++◌, map, take, drop, length, refl, Some, None, IsSome}
use Rattle.std.specs.declared.option.Option.{Option}
use Rattle.std.specs.declared.cmp.Ordering.{Ordering}
use Rattle.std.specs.declared.cmp.Ordering.TheVariants.{Less, Equal, Greater}
use Rattle.std.specs.List.{All, AllByRecursion, AllZip, Contains, IsDistinct}
use Rattle.std.specs.List.Sorted.{IsPermutation, IsSorted, IsStrictlySortedBy}
use Rattle.std.specs.Ordering.{is_eq, nat_cmp, ordering_reverse}
use Rattle.std.specs.Cmp.Lexicographic.{pointwise, slice_cmp}
use Rattle.std.proofs.Common.{sym, ap, subst, ◌∙◌, arith, inl, inr, get_or, append_assoc, is_lt}
use Rattle.std.proofs.lemmas.Bool.{true≢false}
use Rattle.std.proofs.lemmas.Cmp.{nat_list_cmp_total}
use Rattle.std.proofs.lemmas.List.{append-nil, drop_all, drop_more, get_or-map, length-append, length-map, map-append, take_more}
use Rattle.std.proofs.lemmas.List.Elements.{All-contains, All-push}
use Rattle.std.proofs.lemmas.Map.Keys.{Less-from_sorted, apart_from_distinct, sorted_from_all_adjacent}
use Rattle.std.proofs.lemmas.Map.Text.{is_eq-slice_cmp}
use Rattle.bl_files.specs.Carried.{found_names}
use Rattle.bl_files.specs.Codes.{has_file_code}
use Rattle.bl_files.specs.Plans.{HaveFileCodes, NamesRise}
use Rattle.bl_files.specs.declared.found.Found.{Found}
use Rattle.bl_entry.specs.Valid.{IsFound}
use Rattle.bl_load.specs.Finding.{AddsFound, AreRising, MayBeListed, MayBePlanned}

-- ---- names in order that differ rise

less_name : (a b : List ℕ) → is_lt (slice_cmp nat_cmp b a) ≡ false → pointwise nat_eq a b ≡ false → slice_cmp nat_cmp a b ≡ Less
less_name a b up apart = by (slice_cmp nat_cmp a b) refl where
  by : (o : Ordering) → slice_cmp nat_cmp a b ≡ o → o ≡ Less
  by Less is = refl
  by Equal is = absurd (true≢false (sym (sym (is_eq-slice_cmp a b) ∙ ap is_eq is) ∙ apart))
  by Greater is = absurd (true≢false (sym (ap is_lt (nat_list_cmp_total.antisymm b a ∙ ap ordering_reverse is)) ∙ up))

pub rising_names : (names : List (List ℕ)) → IsSorted (slice_cmp nat_cmp) names → IsDistinct (pointwise nat_eq) names → AreRising names
unfolding IsStrictlySortedBy
rising_names [] up apart = tt
rising_names (name ∷ names) up apart =
    sorted_from_all_adjacent nat_list_cmp_total (name ∷ names) name (λ k within.
    less_name (get_or (name ∷ names) k name) (get_or (name ∷ names) (k + 1) name) (up k name (omega arith) within) (apart_from_distinct (pointwise nat_eq) (name ∷ names) k (k + 1) name apart (omega arith) within))

-- ---- one is left out

skip_all : {X : Type 0} (P : X → Type 0) (xs : List X) (n : X) (rest : List X) → AllByRecursion P (xs ++ n ∷ rest) → AllByRecursion P (xs ++ rest)
skip_all P [] n rest h = h.1
skip_all P (x ∷ xs) n rest h = (h.0, skip_all P xs n rest h.1)

without : {X : Type 0} (c : X → X → Ordering) (xs : List X) (n : X) (rest : List X) → IsStrictlySortedBy c (xs ++ n ∷ rest) → IsStrictlySortedBy c (xs ++ rest)
unfolding IsStrictlySortedBy
without c [] n rest h = h.1
without c (x ∷ xs) n rest h = (skip_all (λ y. c x y ≡ Less) xs n rest h.0, without c xs n rest h.1)

-- ---- what was found so far

pub record AreFoundSoFar (names : List (List ℕ)) (i : ℕ) (found : List Found) : Type 0 where
  pub few : length found ≤ i
  pub valid : All IsFound found
  pub codes : HaveFileCodes found
  pub rising : AreRising (found_names found ++ drop i names)

pub found_more : (names : List (List ℕ)) (i : ℕ) (name : List ℕ) (old new : List Found) (done : Bool) → i < length names → get_or names i name ≡ name → AreFoundSoFar names i old → AddsFound name old new done → AreFoundSoFar names (i + 1) new
found_more names i name old new done within is so_far adds = by adds where
  first : drop i names ≡ name ∷ drop (i + 1) names
  first = drop_more names i name within ∙ ap (λ n. n ∷ drop (i + 1) names) is

  all_rising : AreRising (found_names old ++ name ∷ drop (i + 1) names)
  all_rising = subst (λ l. AreRising (found_names old ++ l)) first so_far.rising

  by : AddsFound name old new done → AreFoundSoFar names (i + 1) new
  by (inl same) =
      subst (λ l. AreFoundSoFar names (i + 1) l) (sym same)
      (record { few = (let few : length old ≤ i = so_far.few in omega arith); valid = so_far.valid; codes = so_far.codes; rising = without (slice_cmp nat_cmp) (found_names old) name (drop (i + 1) names) all_rising })
  by (inr added) =
      let file : Found = added.0 in
      let listed : MayBeListed name file = added.1 in
      let e : length (old ++ file ∷ []) ≡ length old + 1 = length-append old (file ∷ []) in
      let few : length old ≤ i = so_far.few in
      let names_are : found_names (old ++ file ∷ []) ++ drop (i + 1) names ≡ found_names old ++ name ∷ drop (i + 1) names =
      ap (λ l. l ++ drop (i + 1) names) (map-append (λ (f : Found). f.name) old (file ∷ []))
      ∙ append_assoc (found_names old) (file.name ∷ []) (drop (i + 1) names)
      ∙ ap (λ n. found_names old ++ n ∷ drop (i + 1) names) listed.name_is in
      subst (λ l. AreFoundSoFar names (i + 1) l) (sym added.2)
      (record {
        few = omega arith;
        valid = All-push IsFound old file so_far.valid listed.valid;
        codes = All-push (λ (f : Found). has_file_code f.kind ≡ true) old file so_far.codes listed.code;
        rising = subst AreRising (sym names_are) all_rising;
      })

name_at : (found : List Found) (k : ℕ) (d : Found) → k < length found → get_or (found_names found) k d.name ≡ (get_or found k d).name
name_at found k d within = get_or-map (λ (f : Found). f.name) found k d d.name within

names_rise : (found : List Found) → AreRising (found_names found) → NamesRise found
names_rise found up k d within =
    let count : length (found_names found) ≡ length found = length-map found (λ (f : Found). f.name) in
    sym (λ i. slice_cmp nat_cmp (name_at found k d (omega arith) i) (name_at found (k + 1) d within i))
    ∙ Less-from_sorted (slice_cmp nat_cmp) (found_names found) k (k + 1) d.name up (omega arith) (omega arith)

pub found_all : (names : List (List ℕ)) (found : List Found) → AreFoundSoFar names (length names) found → MayBePlanned names found
found_all names found so_far =
    record {
      few = so_far.few;
      valid = so_far.valid;
      codes = so_far.codes;
      rise = names_rise found (subst AreRising (ap (λ l. found_names found ++ l) (drop_all (length names) names (omega arith)) ∙ append-nil (found_names found)) so_far.rising);
    }

-- ---- one name more of told files

zip_push : {A B : Type 0} (R : A → B → Type 0) (xs : List A) (ys : List B) (x : A) (y : B) → AllZip R xs ys → R x y → AllZip R (xs ++ x ∷ []) (ys ++ y ∷ [])
zip_push R [] [] x y all one = (one, tt)
zip_push R [] (b ∷ ys) x y all one = absurd all
zip_push R (a ∷ xs) [] x y all one = absurd all
zip_push R (a ∷ xs) (b ∷ ys) x y all one = (all.0, zip_push R xs ys x y all.1 one)

pub zip_more : {A B : Type 0} (R : A → B → Type 0) (xs : List A) (i : ℕ) (x : A) (old new : List B) (y : B) → i < length xs → get_or xs i x ≡ x → AllZip R (take i xs) old → R x y → new ≡ old ++ y ∷ [] → AllZip R (take (i + 1) xs) new
zip_more R xs i x old new y within is all one new_is =
    let front : take (i + 1) xs ≡ take i xs ++ x ∷ [] = take_more xs i x within ∙ ap (λ a. take i xs ++ a ∷ []) is in
    subst (λ l. AllZip R l new) (sym front) (subst (λ l. AllZip R (take i xs ++ x ∷ []) l) (sym new_is) (zip_push R (take i xs) old x y all one))
