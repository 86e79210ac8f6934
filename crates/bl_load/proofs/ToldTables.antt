-- The files that told files have at a path.
use Rattle.std.specs.Prelude.{◌≡◌, ◌↔◌, ℕ, Bool, true, false, ◌&&◌, T, List, [], ◌∷◌, ◌++◌, length, refl, Some, None, IsSome, Contains}
use Rattle.std.specs.declared.cmp.Ordering.{Ordering}
use Rattle.std.specs.declared.cmp.Ordering.TheVariants.{Less, Equal, Greater}
use Rattle.std.specs.Ordering.{nat_cmp}
use Rattle.std.specs.Cmp.Lexicographic.{nat_list_cmp_total, slice_cmp}
use Rattle.std.specs.FinMap.{entries, entries_sorted, from_entries, get, get-entries, get-from_entries, is_sorted, same_map}
use Rattle.std.specs.List.{AllByRecursion}
use Rattle.std.specs.List.Sorted.{IsPermutation, IsStrictlySortedBy}
use Rattle.std.proofs.Common.{sym, ap, subst, ◌∙◌, arith, inl, inr, is_lt}
use Rattle.std.proofs.lemmas.Bool.{true≢false}
use Rattle.std.proofs.lemmas.List.{length-map}
use Rattle.std.proofs.lemmas.List.Sorted.{Contains-permutation, IsPermutation-sym, length_permutation}
use Rattle.std.proofs.lemmas.Map.Lookups.{exact_bytes}
use Rattle.bl_outside.specs.Folders.{Files, HasInside, IsNameIn}
use Rattle.bl_outside.specs.MemoryFolders.{names_in, paths}
use Rattle.bl_outside.specs.declared.listing.Listing.TheVariants.{OneFile}
use Rattle.bl_outside.proofs.Names.{distinct_names, front_of, lists_names}
use Rattle.bl_rows.specs.Contents.{contents}
use Rattle.bl_files.specs.Carried.{DifferentNames, feed_cmp, feed_names, new_feed}
use Rattle.bl_files.specs.declared.feed.Feed.{Feed}
use Rattle.bl_files.proofs.FeedOrder.{placed, placed_permutes, placed_strict}
use Rattle.bl_files.proofs.Members.{first_member, later_member, member_cases, no_member}
use Rattle.bl_chain.specs.Tables.{Table}
use Rattle.bl_chain.specs.Folders.{AreTablesAt, HaveNames, IsFileTable, IsInside, IsPlainTable, ListsTables}
use Rattle.bl_chain.proofs.CarriedFiles.{plain, plain_has, plain_is}
use Rattle.bl_chain.proofs.ListedTables.{file_table, listings}
use Rattle.bl_chain.proofs.OneFolder.{file_named, one_content, one_inside, some_same}
use Rattle.bl_load.specs.Finding.{AreNamesAt}
use Rattle.bl_load.specs.SourceFiles.{HasBytes, IsFileAt, file_path}
use Rattle.bl_load.proofs.Findings.{some_of}

-- ---- the names in a folder

less : (o : Ordering) → T (is_lt o) → o ≡ Less
less Less h = refl
less Equal h = absurd h
less Greater h = absurd h

parts : (a b c d : Bool) → T ((a && b) && (c && d)) → T a × T (b && d)
parts true b true d h = (tt, h)
parts true true false d h = absurd h
parts true false false d h = absurd h
parts false b c d h = absurd h

behind : (a b : Bool) → T (a && b) → T b
behind true b h = h
behind false b h = absurd h

rises_from : (path bytes : List ℕ) (es : List (List ℕ × List ℕ)) → T (is_sorted (slice_cmp nat_cmp) ((path, bytes) ∷ es)) → AllByRecursion (λ y. slice_cmp nat_cmp path y ≡ Less) (paths es)
rises_from path bytes [] h = tt
rises_from path bytes (e ∷ es) h = let both = parts _ _ _ _ h in (less (slice_cmp nat_cmp path e.0) both.0, rises_from path bytes es both.1)

paths_rise : (es : List (List ℕ × List ℕ)) → T (is_sorted (slice_cmp nat_cmp) es) → IsStrictlySortedBy (slice_cmp nat_cmp) (paths es)
unfolding IsStrictlySortedBy
paths_rise [] h = tt
paths_rise (e ∷ es) h = (rises_from e.0 e.1 es h, paths_rise es (behind _ _ h))

module _ (files : Files) where
  of_entries : from_entries {R = slice_cmp nat_cmp} (entries files) ≡ files
  of_entries = same_map nat_list_cmp_total exact_bytes (from_entries (entries files)) files (λ path. get-from_entries nat_list_cmp_total (entries files) path ∙ sym (get-entries files path))

  -- those of the files that lie directly in the folder at the path
  names_at : List ℕ → List (List ℕ)
  names_at path = names_in (front_of path) (paths (entries files))

  names_are : (path name : List ℕ) → Contains (names_at path) name ↔ IsNameIn files path name
  unfolding names_at
  names_are path name = subst (λ all. Contains (names_in (front_of path) (paths (entries files))) name ↔ IsNameIn all path name) of_entries (lists_names (entries files) path name)

  names_differ : (path : List ℕ) → DifferentNames (names_at path)
  unfolding names_at
  names_differ path = distinct_names (front_of path) (paths (entries files)) (paths_rise (entries files) (entries_sorted files))

-- ---- the files of names

module _ (files : Files) (path : List ℕ) where
  -- the file of this name
  abbrev HasFile : List ℕ → Type 0
  HasFile name = (table : Table) × IsInside files path table × (table.found.name ≡ name)

  file_of : (name : List ℕ) → IsNameIn files path name → HasFile name
  file_of name is =
      let bytes = some_of (get files (path ++ 47 ∷ name)) is.present in
      let table = file_table (path ++ 47 ∷ name) name bytes.0 in
      (table.0, (name, bytes.0, is, bytes.1, table.1), (file_named (path ++ 47 ∷ name) name bytes.0 table.0 table.1).name_is)

  name_of : (table : Table) → IsInside files path table → IsNameIn files path table.found.name
  name_of table is = subst (λ n. IsNameIn files path n) (sym (file_named (path ++ 47 ∷ is.0) is.0 is.1 table is.4).name_is) is.2

  -- those of these names, in the order of the names
  gathered : (names : List (List ℕ)) → ((name : List ℕ) → Contains names name → IsNameIn files path name)
      → (tables : List Table) × (feed_names (plain tables) ≡ names) × ((table : Table) → Contains tables table → IsInside files path table)
  gathered [] all = ([], refl, (λ table h. no_member table h))
  gathered (name ∷ names) all =
      let one = file_of name (all name (first_member name names)) in
      let more = gathered names (λ n h. all n (later_member name names n h)) in (
        one.0 ∷ more.0,
        (λ i. one.2 i ∷ more.1 i),
        (λ table h. elim (member_cases one.0 more.0 table h) [
          | inl same ↦ subst (λ t. IsInside files path t) same one.1
          | inr later ↦ more.2 table later
        ]),
      )

-- those of these feeds, in their order
picked : (tables : List Table) (feeds : List Feed) → ((feed : Feed) → Contains feeds feed → Contains (plain tables) feed)
    → (sorted : List Table) × (plain sorted ≡ feeds) × ((table : Table) → Contains sorted table → Contains tables table)
picked tables [] all = ([], refl, (λ table h. no_member table h))
picked tables (feed ∷ feeds) all =
    let one = plain_is tables feed (all feed (first_member feed feeds)) in
    let more = picked tables feeds (λ f h. all f (later_member feed feeds f h)) in (
      one.0 ∷ more.0,
      (λ i. sym one.2 i ∷ more.1 i),
      (λ table h. elim (member_cases one.0 more.0 table h) [
        | inl same ↦ subst (λ t. Contains tables t) same one.1
        | inr later ↦ more.2 table later
      ]),
    )

named_in : (tables : List Table) (name : List ℕ) → Contains (feed_names (plain tables)) name → (table : Table) × Contains tables table × (table.found.name ≡ name)
named_in [] name h = no_member name h
named_in (table ∷ tables) name h =
    elim (member_cases table.found.name (feed_names (plain tables)) name h) [
      | inl same ↦ (table, first_member table tables, same)
      | inr later ↦ (let rest = named_in tables name later in (rest.0, later_member table tables rest.0 rest.1, rest.2))
    ]

module _ (files : Files) (path : List ℕ) (names : List (List ℕ)) (differ : DifferentNames names) (are : (name : List ℕ) → Contains names name ↔ IsNameIn files path name) where
  all : (tables : List Table) × (feed_names (plain tables) ≡ names) × ((table : Table) → Contains tables table → IsInside files path table)
  all = gathered files path names (λ name h. (are name).0 h)

  same : IsPermutation (plain all.0) (placed (plain all.0))
  same = placed_permutes (plain all.0)

  sorted : (tables : List Table) × (plain tables ≡ placed (plain all.0)) × ((table : Table) → Contains tables table → Contains all.0 table)
  sorted = picked all.0 (placed (plain all.0)) (λ feed h. Contains-permutation (placed (plain all.0)) (plain all.0) feed (IsPermutation-sym (plain all.0) (placed (plain all.0)) same) h)

  has : (name : List ℕ) → Contains names name → (table : Table) × Contains sorted.0 table × (table.found.name ≡ name)
  has name h =
      let one = named_in all.0 name (subst (λ l. Contains l name) (sym all.1) h) in
      let feed : Contains (plain sorted.0) (new_feed one.0.found) = subst (λ l. Contains l (new_feed one.0.found)) (sym sorted.1) (Contains-permutation (plain all.0) (placed (plain all.0)) (new_feed one.0.found) same (plain_has all.0 one.0 one.1)) in
      let other = plain_is sorted.0 (new_feed one.0.found) feed in
      (other.0, other.1, ap (λ (f : Feed). f.name) (sym other.2) ∙ one.2)

  inside : (table : Table) → Contains sorted.0 table → IsInside files path table
  inside table h = all.2 table (sorted.2 table h)

  there : (table : Table) → IsInside files path table → Contains sorted.0 table
  there table is =
      let one = has table.found.name ((are table.found.name).1 (name_of files path table is)) in
      subst (λ t. Contains sorted.0 t) (one_inside files path one.0 table (inside one.0 one.1) is one.2) one.1

  -- the files of a folder
  folder_tables : (get files path ≡ None) → HasInside files path → (tables : List Table) × AreTablesAt files path tables × HaveNames tables names
  folder_tables none some =
      let strict : IsStrictlySortedBy feed_cmp (placed (plain all.0)) = placed_strict (plain all.0) (subst (λ l. DifferentNames l) (sym all.1) differ) in (
        sorted.0,
        inr (none, some, subst (λ l. IsStrictlySortedBy feed_cmp l) (sym sorted.1) strict, (λ table. (inside table, there table))),
        record {
          many =
              sym (length-map sorted.0 (λ (t : Table). new_feed t.found)) ∙ ap (λ (l : List Feed). length l) sorted.1 ∙ length_permutation (plain all.0) (placed (plain all.0)) same
              ∙ sym (length-map (plain all.0) (λ (f : Feed). f.name)) ∙ ap (λ (l : List (List ℕ)). length l) all.1;
          each = λ name. (has name, (λ is. subst (λ n. Contains names n) is.2 ((are is.0.found.name).1 (name_of files path is.0 (inside is.0 is.1)))));
        },
      )

-- ---- the files at a path

pub only : (table s : Table) → Contains (table ∷ []) s → table ≡ s
only table s h = elim (member_cases table [] s h) [ inl same ↦ same | inr later ↦ no_member s later ]

only_name : (name n : List ℕ) → Contains (name ∷ []) n → name ≡ n
only_name name n h = elim (member_cases name [] n h) [ inl is ↦ is | inr later ↦ no_member n later ]

only_named : (files : Files) (path : List ℕ) (table : Table) → AreTablesAt files path (table ∷ []) → IsSome (get files path) → table.found.name ≡ []
only_named files path table (inl x) some = subst (λ t. t.found.name ≡ []) (only x.2 table (subst (λ l. Contains l table) x.4 (first_member table []))) (file_named path [] x.0 x.2 x.3).name_is
only_named files path table (inr x) some = absurd (let e = sym x.0 ∙ (some_of (get files path) some).1 in cc)

-- by their names, which differ
pub tables_named : (files : Files) (path : List ℕ) (names : List (List ℕ)) → AreNamesAt files path names → DifferentNames names → (tables : List Table) × AreTablesAt files path tables × HaveNames tables names
tables_named files path names (inl one) differ =
    let file : ListsTables files path OneFile = listings files path OneFile tt one.0 in
    let named : file.0.found.name ≡ [] = only_named files path file.0 file.1 one.0 in (
      file.0 ∷ [],
      file.1,
      subst (λ l. HaveNames (file.0 ∷ []) l) (sym one.1) (record {
        many = refl;
        each = λ name. (
          (λ h. (file.0, first_member file.0 [], named ∙ only_name [] name h)),
          (λ is. subst (λ n. Contains ([] ∷ []) n) (sym named ∙ ap (λ (t : Table). t.found.name) (only file.0 is.0 is.1) ∙ is.2) (first_member [] [])),
        );
      }),
    )
tables_named files path names (inr folder) differ = folder_tables files path names differ folder.2 folder.0 folder.1

-- ---- one file is one table

one_plain : (name bytes : List ℕ) (a b : Table) → IsPlainTable name bytes a → IsPlainTable name bytes b → a ≡ b
one_plain name bytes a b (inl x) (inl y) = x.1 ∙ sym y.1
one_plain name bytes a b (inl x) (inr y) = absurd (omega (arith, x.0, y.0))
one_plain name bytes a b (inr x) (inl y) = absurd (omega (arith, x.0, y.0))
one_plain name bytes a b (inr x) (inr y) = one_content name (contents bytes) a b x.1 y.1

one_file : (path name bytes : List ℕ) (a b : Table) → IsFileTable path name bytes a → IsFileTable path name bytes b → a ≡ b
one_file path name bytes a b (inl x) (inl y) = x.1 ∙ sym y.1
one_file path name bytes a b (inl x) (inr y) = absurd (true≢false (sym x.0 ∙ y.0))
one_file path name bytes a b (inr x) (inl y) = absurd (true≢false (sym y.0 ∙ x.0))
one_file path name bytes a b (inr x) (inr y) = one_plain name bytes a b x.1 y.1

-- the file that stands under a name at the path
pub record IsTableAt (files : Files) (path name : List ℕ) (table : Table) : Type 0 where
  pub bytes : List ℕ
  pub has : get files (file_path path name) ≡ Some bytes
  pub table_is : IsFileTable (file_path path name) name bytes table

pub one_table : (files : Files) (path name : List ℕ) (a b : Table) → IsTableAt files path name a → IsTableAt files path name b → a ≡ b
one_table files path name a b one two =
    let bytes : one.bytes ≡ two.bytes = some_same one.bytes two.bytes (sym one.has ∙ two.has) in
    one_file (file_path path name) name two.bytes a b (subst (λ l. IsFileTable (file_path path name) name l a) bytes one.table_is) two.table_is

inside_at : (files : Files) (path name bytes : List ℕ) (table : Table) → IsNameIn files path name → get files (path ++ 47 ∷ name) ≡ Some bytes → IsFileTable (path ++ 47 ∷ name) name bytes table → IsTableAt files path name table
inside_at files path [] bytes table is has table_is = absurd (is.named refl)
inside_at files path (byte ∷ name) bytes table is has table_is = record { bytes = bytes; has = has; table_is = table_is }

-- each of the files stands under its name
pub table_stands : (files : Files) (path : List ℕ) (tables : List Table) → AreTablesAt files path tables → (table : Table) → Contains tables table → IsTableAt files path table.found.name table
table_stands files path tables (inl x) table h =
    let same : x.2 ≡ table = only x.2 table (subst (λ l. Contains l table) x.4 h) in
    let at : IsTableAt files path [] x.2 = record { bytes = x.0; has = x.1; table_is = x.3 } in
    subst (λ t. IsTableAt files path t.found.name t) same (subst (λ n. IsTableAt files path n x.2) (sym (file_named path [] x.0 x.2 x.3).name_is) at)
table_stands files path tables (inr x) table h =
    let is : IsInside files path table = (x.3 table).0 h in
    subst (λ n. IsTableAt files path n table) (sym (file_named (path ++ 47 ∷ is.0) is.0 is.1 table is.4).name_is) (inside_at files path is.0 is.1 table is.2 is.3 is.4)

-- the file of a name is one of those at the path
pub tables_with : (files : Files) (path name : List ℕ) (table : Table) → IsFileAt files path name table → (tables : List Table) × AreTablesAt files path tables × Contains tables table × (table.found.name ≡ name)
tables_with files path name table at = by name at.bytes at.has at.table_is where
  by : (n bytes : List ℕ) → HasBytes files path n bytes → IsFileTable (file_path path n) n bytes table → (tables : List Table) × AreTablesAt files path tables × Contains tables table × (table.found.name ≡ n)
  by [] bytes has is = (table ∷ [], inl (bytes, has, table, is, refl), first_member table [], (file_named path [] bytes table is).name_is)
  by (byte ∷ n) bytes has is =
      let some : IsSome (get files (path ++ 47 ∷ (byte ∷ n))) = subst (λ o. IsSome o) (sym has.3) refl in
      let named : IsNameIn files path (byte ∷ n) = record { present = some; named = (λ e. absurd (cc)); flat = has.2 } in
      let folder = folder_tables files path (names_at files path) (names_differ files path) (names_are files path) has.0 (byte ∷ n, some) in
      let one = (folder.2.each (byte ∷ n)).0 ((names_are files path (byte ∷ n)).1 named) in
      let here : IsTableAt files path (byte ∷ n) table = record { bytes = bytes; has = has.3; table_is = is } in
      let other : IsTableAt files path (byte ∷ n) one.0 = subst (λ x. IsTableAt files path x one.0) one.2 (table_stands files path folder.0 folder.1 one.0 one.1) in (
        folder.0,
        folder.1,
        subst (λ t. Contains folder.0 t) (one_table files path (byte ∷ n) one.0 table other here) one.1,
        (file_named (path ++ 47 ∷ (byte ∷ n)) (byte ∷ n) bytes table is).name_is,
      )
