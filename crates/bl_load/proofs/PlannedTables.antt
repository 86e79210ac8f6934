-- A plan of names is one of the files that are told of its source.
use Rattle.std.specs.Prelude.{◌≡◌, ◌≤◌, ◌<◌, ℕ, ◌+◌, Bool, false, List, [], ◌∷◌, length, refl, Contains}
use Rattle.std.specs.Ordering.{nat_cmp}
use Rattle.std.specs.Cmp.Lexicographic.{slice_cmp}
use Rattle.std.specs.List.{AllZip}
use Rattle.std.proofs.Common.{sym, ap, subst, ◌∙◌, arith, inl, inr, get_or}
use Rattle.std.proofs.lemmas.Bool.{true≢false}
use Rattle.std.proofs.lemmas.List.{get_or-map, length-map}
use Rattle.std.proofs.lemmas.Map.Keys.{Less-from_sorted}
use Rattle.bl_outside.proofs.Names.{distinct_texts}
use Rattle.bl_outside.specs.Folders.{Files}
use Rattle.bl_files.proofs.Members.{first_member, later_member, member_cases, no_member}
use Rattle.bl_files.specs.Carried.{HasKept, found_names, most_files}
use Rattle.bl_files.specs.Plans.{NamesRise}
use Rattle.bl_files.specs.declared.feed.Feed.{Feed}
use Rattle.bl_files.specs.declared.found.Found.{Found}
use Rattle.bl_files.specs.declared.plan_result.PlanResult.{PlanResult}
use Rattle.bl_files.specs.declared.plan_result.PlanResult.TheVariants as plan
use Rattle.bl_chain.specs.Folders.{AreTablesAt, AreTablesOf, HaveNames}
use Rattle.bl_chain.specs.NextEntries.{IsFoundPlan}
use Rattle.bl_chain.specs.Tables.{Table}
use Rattle.bl_chain.specs.Turns.{IsFoundAs, IsPlanOf}
use Rattle.bl_chain.proofs.OneFolder.{file_named}
use Rattle.bl_load.specs.Finding.{AreRising, IsFoundAt}
use Rattle.bl_load.specs.Prepares.{IsPlanFor, is_fault}
use Rattle.bl_load.specs.SourceFiles.{file_path}
use Rattle.bl_load.specs.declared.prepared.Prepared.TheVariants.{Plan}
use Rattle.bl_load.proofs.ToldTables.{IsTableAt, one_table, table_stands, tables_named}

-- ---- lists in pairs

module _ {A B : Type 0} (R : A → B → Type 0) where
  zip_right : (xs : List A) (ys : List B) → AllZip R xs ys → (y : B) → Contains ys y → (x : A) × Contains xs x × R x y
  zip_right [] [] all y h = no_member y h
  zip_right [] (z ∷ ys) all y h = absurd all
  zip_right (x ∷ xs) [] all y h = absurd all
  zip_right (x ∷ xs) (z ∷ ys) all y h =
      elim (member_cases z ys y h) [
        | inl same ↦ (x, first_member x xs, subst (λ w. R x w) same all.0)
        | inr later ↦ (let rest = zip_right xs ys all.1 y later in (rest.0, later_member x xs rest.0 rest.1, rest.2))
      ]

  zip_left : (xs : List A) (ys : List B) → AllZip R xs ys → (x : A) → Contains xs x → (y : B) × Contains ys y × R x y
  zip_left [] [] all x h = no_member x h
  zip_left [] (y ∷ ys) all x h = absurd all
  zip_left (z ∷ xs) [] all x h = absurd all
  zip_left (z ∷ xs) (y ∷ ys) all x h =
      elim (member_cases z xs x h) [
        | inl same ↦ (y, first_member y ys, subst (λ w. R w y) same all.0)
        | inr later ↦ (let rest = zip_left xs ys all.1 x later in (rest.0, later_member y ys rest.0 rest.1, rest.2))
      ]

-- ---- the names rise

found_name : (files : Files) (path : List ℕ) (previous : List Feed) (name : List ℕ) (file : Found) → IsFoundAt files path previous name file → file.name ≡ name
found_name files path previous name file (inl kept) = ap (λ (f : Found). f.name) kept.4
found_name files path previous name file (inr anew) = ap (λ (f : Found). f.name) anew.5 ∙ (file_named (file_path path name) name anew.1 anew.3 anew.4).name_is

names_found : (files : Files) (path : List ℕ) (previous : List Feed) (names : List (List ℕ)) (found : List Found) → AllZip (IsFoundAt files path previous) names found → found_names found ≡ names
names_found files path previous [] [] all = refl
names_found files path previous [] (file ∷ found) all = absurd all
names_found files path previous (name ∷ names) [] all = absurd all
names_found files path previous (name ∷ names) (file ∷ found) all = λ i. found_name files path previous name file all.0 i ∷ names_found files path previous names found all.1 i

name_at : (found : List Found) (k : ℕ) (d : Found) → k < length found → get_or (found_names found) k d.name ≡ (get_or found k d).name
name_at found k d within = get_or-map (λ (f : Found). f.name) found k d d.name within

names_rise : (found : List Found) → AreRising (found_names found) → NamesRise found
names_rise found up k d within =
    let count : length (found_names found) ≡ length found = length-map found (λ (f : Found). f.name) in
    sym (λ i. slice_cmp nat_cmp (name_at found k d (omega arith) i) (name_at found (k + 1) d within i))
    ∙ Less-from_sorted (slice_cmp nat_cmp) (found_names found) k (k + 1) d.name up (omega arith) (omega arith)

-- ---- a plan of files

module _ (files : Files) (path : List ℕ) (previous : List Feed) (tables : List Table) (at : AreTablesAt files path tables) where
  found_as : (name : List ℕ) (file : Found) → IsFoundAt files path previous name file → (table : Table) → Contains tables table → table.found.name ≡ name → IsFoundAs previous table file
  found_as name file (inl kept) table h named = inl (kept.0, kept.1, kept.2, kept.3 ∙ sym named, kept.4 ∙ ap (λ n. record { name = n; kind = kept.0.kind; digest = kept.0.digest }) (sym kept.3))
  found_as name file (inr anew) table h named =
      let here : IsTableAt files path name anew.3 = record { bytes = anew.1; has = anew.2; table_is = anew.4 } in
      let there : IsTableAt files path name table = subst (λ n. IsTableAt files path n table) named (table_stands files path tables at table h) in
      inr ((λ kept. anew.0 (subst (λ n. HasKept previous n) named kept)), anew.5 ∙ ap (λ (t : Table). t.found) (one_table files path name anew.3 table here there))

  plan_of : (names : List (List ℕ)) (found : List Found) → HaveNames tables names → AllZip (IsFoundAt files path previous) names found → IsPlanOf tables previous found
  plan_of names found have all = record {
    each = λ file h.
        let one = zip_right (IsFoundAt files path previous) names found all file h in
        let table = (have.each one.0).0 one.1 in
        (table.0, table.1, found_as one.0 file one.2 table.0 table.1 table.2);
    all = λ table h.
        let one = zip_left (IsFoundAt files path previous) names found all table.found.name ((have.each table.found.name).1 (table, h, refl)) in
        (one.0, one.1, found_as table.found.name one.0 one.2 table h refl);
  }

-- ---- a plan

pub plan_found : (files : Files) (source : List ℕ) (no_previous : Bool) (previous : List Feed) (planned : PlanResult) → is_fault (Plan planned) ≡ false → IsPlanFor files source no_previous previous planned → IsFoundPlan (AreTablesOf files) source no_previous previous planned
plan_found files source no_previous previous plan.NoPrevious sound h = h
plan_found files source no_previous previous plan.SourceNotFound sound h = (
  h.0,
  λ tables told. elim told.2 [
    | inl one ↦ absurd (let e = sym (h.1 told.0 told.1).0 ∙ one.1 in cc)
    | inr folder ↦ (h.1 told.0 told.1).1 folder.1
  ],
)
plan_found files source no_previous previous (plan.TooManyFiles number) sound h =
    let listed = h.3 in
    let told = tables_named files h.1 listed.0 listed.1 listed.2.differ in
    (h.0, told.0, (h.1, h.2, told.1), subst (λ n. most_files < n) (sym told.2.many) listed.3, listed.4 ∙ sym told.2.many)
plan_found files source no_previous previous (plan.Feeds found) sound h =
    let listed = h.3 in
    let told = tables_named files h.1 listed.0 listed.1.are (distinct_texts listed.0 listed.1.rising) in (
      h.0,
      told.0,
      (h.1, h.2, told.1),
      subst (λ n. n ≤ most_files) (sym told.2.many) listed.2,
      plan_of files h.1 previous told.0 told.1 listed.0 found told.2 listed.3,
      names_rise found (subst AreRising (sym (names_found files h.1 previous listed.0 found listed.3)) listed.1.rising),
    )
plan_found files source no_previous previous plan.ListFault sound h = absurd (true≢false sound)
