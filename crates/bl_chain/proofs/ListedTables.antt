-- What is listed is what is there.
use Rattle.std.specs.Prelude.{◌≡◌, ℕ, Bool, true, false, List, [], ◌∷◌, ◌++◌, length, refl, Some, None, IsSome, Contains}
use Rattle.std.specs.declared.option.Option.{Option}
use Rattle.std.specs.FinMap.{get}
use Rattle.std.specs.List.Sorted.{IsPermutation, IsStrictlySortedBy}
use Rattle.std.proofs.Common.{sym, ap, subst, ◌∙◌, inl, inr}
use Rattle.std.proofs.lemmas.Bool.{cases_lt, true≢false}
use Rattle.std.proofs.lemmas.List.{length-map}
use Rattle.std.proofs.lemmas.List.Sorted.{Contains-permutation, IsPermutation-sym, length_permutation}
use Rattle.bl_outside.specs.Folders.{AreNames, Files, IsNameIn, Lists}
use Rattle.bl_outside.specs.declared.listing.Listing.TheVariants.{Missing, OneFile, Names}
use Rattle.bl_value.specs.declared.log_code.LogCode.TheVariants.{Header, Compressed, FileTooLarge}
use Rattle.bl_header.specs.Headers.{column_of}
use Rattle.bl_rows.specs.Contents.{Fields, contents}
use Rattle.bl_rows.specs.Digests.{digest_after, header_digest}
use Rattle.bl_rows.specs.File.{file_limit}
use Rattle.bl_files.specs.declared.feed.Feed.{Feed}
use Rattle.bl_files.specs.declared.feed_kind.FeedKind.TheVariants as kind
use Rattle.bl_files.specs.Carried.{DifferentNames, feed_cmp, feed_names, new_feed}
use Rattle.bl_files.proofs.FeedOrder.{placed, placed_permutes, placed_strict}
use Rattle.bl_files.proofs.Members.{first_member, later_member, member_cases, no_member}
use Rattle.bl_chain.specs.Tables.{Table}
use Rattle.bl_chain.specs.Folders.{AreTablesAt, HaveNames, IsContentTable, IsFileTable, IsInside, IsPlainTable, ListingsAreTables, empty_table, is_compressed, read_table, refused_table}
use Rattle.bl_chain.proofs.CarriedFiles.{plain, plain_has, plain_is}
use Rattle.bl_chain.proofs.OneFolder.{file_named, one_inside}
use Rattle.bl_chain.proofs.ReadHeaders.{header_read}

-- ---- each file has a table

content_table : (name : List ℕ) (all : List Fields) → (table : Table) × IsContentTable name all table
content_table name [] = (empty_table name, refl)
content_table name (header ∷ records) =
    elim (header_read header) [
      | inl means ↦ (read_table name means.0 header records, inl (means.0, means.1, refl))
      | inr refused ↦ (refused_table name (kind.Refused Header (column_of refused.0)) (digest_after (header ∷ records) 0), inr (refused.0, refused.1, refused.2, refl))
    ]

plain_table : (name bytes : List ℕ) → (table : Table) × IsPlainTable name bytes table
plain_table name bytes =
    elim (cases_lt file_limit (length bytes)) [
      | inl large ↦ (refused_table name (kind.Refused FileTooLarge 0) (header_digest []), inl (large, refl))
      | inr small ↦ (let content = content_table name (contents bytes) in (content.0, inr (small, content.1)))
    ]

pub file_table : (path name bytes : List ℕ) → (table : Table) × IsFileTable path name bytes table
file_table path name bytes = by (is_compressed path) refl where
  by : (b : Bool) → is_compressed path ≡ b → (table : Table) × IsFileTable path name bytes table
  by true is = (refused_table name (kind.Refused Compressed 0) (header_digest []), inl (is, refl))
  by false is = (let table = plain_table name bytes in (table.0, inr (is, table.1)))

bytes_of : (o : Option (List ℕ)) → IsSome o → (bytes : List ℕ) × (o ≡ Some bytes)
bytes_of None some = absurd (true≢false (sym some))
bytes_of (Some bytes) some = (bytes, refl)

-- ---- a folder

module _ (files : Files) (path : List ℕ) where
  -- the file of this name
  abbrev HasFile : List ℕ → Type 0
  HasFile name = (table : Table) × IsInside files path table × (table.found.name ≡ name)

  file_of : (name : List ℕ) → IsNameIn files path name → HasFile name
  file_of name is =
      let bytes = bytes_of (get files (path ++ 47 ∷ name)) is.present in
      let table = file_table (path ++ 47 ∷ name) name bytes.0 in
      (table.0, (name, bytes.0, is, bytes.1, table.1), (file_named (path ++ 47 ∷ name) name bytes.0 table.0 table.1).name_is)

  name_of : (table : Table) → IsInside files path table → IsNameIn files path table.found.name
  name_of table is = subst (λ n. IsNameIn files path n) (sym (file_named (path ++ 47 ∷ is.0) is.0 is.1 table is.4).name_is) is.2

  -- the files of these names, in the order of the names
  gathered : (names : List (List ℕ)) → ((name : List ℕ) → Contains names name → IsNameIn files path name)
      → (tables : List Table) × (feed_names (plain tables) ≡ names) × ((table : Table) → Contains tables table → IsInside files path table)
  gathered [] all = ([], refl, (λ table h. no_member table h))
  gathered (name ∷ names) all =
      let one = file_of name (all name (first_member name names)) in
      let more = gathered names (λ n h. all n (later_member name names n h)) in (
        one.0 ∷ more.0,
        (λ i. one.2 i ∷ more.1 i),
        (λ table h. elim (member_cases one.0 more.0 table h) [
          | inl same ↦ subst (λ t. IsInside files path t) same one.1
          | inr later ↦ more.2 table later
        ]),
      )

-- the files that these feeds are of, in their order
picked : (tables : List Table) (feeds : List Feed) → ((feed : Feed) → Contains feeds feed → Contains (plain tables) feed)
    → (sorted : List Table) × (plain sorted ≡ feeds) × ((table : Table) → Contains sorted table → Contains tables table)
picked tables [] all = ([], refl, (λ table h. no_member table h))
picked tables (feed ∷ feeds) all =
    let one = plain_is tables feed (all feed (first_member feed feeds)) in
    let more = picked tables feeds (λ f h. all f (later_member feed feeds f h)) in (
      one.0 ∷ more.0,
      (λ i. sym one.2 i ∷ more.1 i),
      (λ table h. elim (member_cases one.0 more.0 table h) [
        | inl same ↦ subst (λ t. Contains tables t) same one.1
        | inr later ↦ more.2 table later
      ]),
    )

-- a file of each name
named_in : (tables : List Table) (name : List ℕ) → Contains (feed_names (plain tables)) name → (table : Table) × Contains tables table × (table.found.name ≡ name)
named_in [] name h = no_member name h
named_in (table ∷ tables) name h =
    elim (member_cases table.found.name (feed_names (plain tables)) name h) [
      | inl same ↦ (table, first_member table tables, same)
      | inr later ↦ (let rest = named_in tables name later in (rest.0, later_member table tables rest.0 rest.1, rest.2))
    ]

module _ (files : Files) (path : List ℕ) (names : List (List ℕ)) (are : AreNames names) (listed : Lists (Some files) path (Names names)) where
  all : (tables : List Table) × (feed_names (plain tables) ≡ names) × ((table : Table) → Contains tables table → IsInside files path table)
  all = gathered files path names (λ name h. (listed.2 name).0 h)

  same : IsPermutation (plain all.0) (placed (plain all.0))
  same = placed_permutes (plain all.0)

  sorted : (tables : List Table) × (plain tables ≡ placed (plain all.0)) × ((table : Table) → Contains tables table → Contains all.0 table)
  sorted = picked all.0 (placed (plain all.0)) (λ feed h. Contains-permutation (placed (plain all.0)) (plain all.0) feed (IsPermutation-sym (plain all.0) (placed (plain all.0)) same) h)

  -- the file of a name
  has : (name : List ℕ) → Contains names name → (table : Table) × Contains sorted.0 table × (table.found.name ≡ name)
  has name h =
      let one = named_in all.0 name (subst (λ l. Contains l name) (sym all.1) h) in
      let feed : Contains (plain sorted.0) (new_feed one.0.found) = subst (λ l. Contains l (new_feed one.0.found)) (sym sorted.1) (Contains-permutation (plain all.0) (placed (plain all.0)) (new_feed one.0.found) same (plain_has all.0 one.0 one.1)) in
      let other = plain_is sorted.0 (new_feed one.0.found) feed in
      (other.0, other.1, ap (λ (f : Feed). f.name) (sym other.2) ∙ one.2)

  inside : (table : Table) → Contains sorted.0 table → IsInside files path table
  inside table h = all.2 table (sorted.2 table h)

  there : (table : Table) → IsInside files path table → Contains sorted.0 table
  there table is =
      let one = has table.found.name ((listed.2 table.found.name).1 (name_of files path table is)) in
      subst (λ t. Contains sorted.0 t) (one_inside files path one.0 table (inside one.0 one.1) is one.2) one.1

  folder_listed : (tables : List Table) × AreTablesAt files path tables × HaveNames tables names
  folder_listed =
      let strict : IsStrictlySortedBy feed_cmp (placed (plain all.0)) = placed_strict (plain all.0) (subst (λ l. DifferentNames l) (sym all.1) are.differ) in (
        sorted.0,
        inr (listed.0, listed.1, subst (λ l. IsStrictlySortedBy feed_cmp l) (sym sorted.1) strict, (λ table. (inside table, there table))),
        record {
          many =
              sym (length-map sorted.0 (λ (t : Table). new_feed t.found)) ∙ ap (λ (l : List Feed). length l) sorted.1 ∙ length_permutation (plain all.0) (placed (plain all.0)) same
              ∙ sym (length-map (plain all.0) (λ (f : Feed). f.name)) ∙ ap (λ (l : List (List ℕ)). length l) all.1;
          each = λ name. (has name, (λ is. subst (λ n. Contains names n) is.2 ((listed.2 is.0.found.name).1 (name_of files path is.0 (inside is.0 is.1)))));
        },
      )

pub listings : ListingsAreTables
listings files path Missing are listed = λ tables is. elim is [
  | inl one ↦ absurd (let e = sym listed.0 ∙ one.1 in cc)
  | inr many ↦ listed.1 many.1
]
listings files path OneFile are listed =
    let bytes = bytes_of (get files path) listed in
    let table = file_table path [] bytes.0 in
    (table.0, inl (bytes.0, bytes.1, table.0, table.1, refl))
listings files path (Names names) are listed = folder_listed files path names are listed
