-- A source has one list of files.
use Rattle.std.specs.Prelude.{◌≡◌, ◌≢◌, ℕ, suc, ◌+◌, ◌<◌, ◌≤◌, List, [], ◌∷◌, ◌++◌, map, length, Some, refl, All, Contains, ◌⊎◌}
use Rattle.std.specs.List.Sorted.{IsStrictlySortedBy}
use Rattle.std.specs.FinMap.{get}
use Rattle.std.proofs.Common.{sym, ap, subst, ◌∙◌, arith, inl, inr}
use Rattle.std.proofs.lemmas.Bool.{true≢false, cases_lt}
use Rattle.std.proofs.lemmas.List.Elements.{All-cons, All-nil}
use Rattle.bl_outside.specs.Folders.{Files}
use Rattle.bl_value.specs.declared.column.Columns.{Columns}
use Rattle.bl_value.specs.declared.column.ColumnUse.{ColumnUse}
use Rattle.bl_value.specs.declared.column.Side.{Side}
use Rattle.bl_value.specs.declared.column.Side.TheVariants as side
use Rattle.bl_value.specs.declared.log_code.LogCode.{LogCode}
use Rattle.bl_value.specs.declared.log_code.LogCode.TheVariants.{Header, Compressed, FileTooLarge}
use Rattle.bl_value.specs.declared.row.DigestRow.{DigestRow}
use Rattle.bl_header.specs.Faults.{Fault, IsFirstFault, bad_name, unknown_system, unknown_type, float_column, single_array, edge_not_single, repeated}
use Rattle.bl_header.specs.Headers.{HasNoId, IsHalfEdge, IsMeaning, IsRefusal, column_of}
use Rattle.bl_header.specs.declared.refusal.HeaderRefusal.{HeaderRefusal}
use Rattle.bl_header.specs.declared.refusal.HeaderRefusal.TheVariants.{NoId, HalfEdge, UnknownSystem, UnknownType, FloatColumn, SingleArray, EdgeNotSingle, Repeated, BadName, TooManyColumns, NoMemory}
use Rattle.bl_rows.specs.Contents.{Fields, contents}
use Rattle.bl_rows.specs.Digests.{digest_after, header_digest}
use Rattle.bl_files.specs.Carried.{feed_cmp, new_feed}
use Rattle.bl_files.specs.declared.feed.Feed.{Feed}
use Rattle.bl_files.specs.declared.feed_kind.FeedKind.TheVariants as kind
use Rattle.bl_files.proofs.FeedOrder.{same_members}
use Rattle.bl_files.proofs.Members.{first_member, later_member, member_cases, no_member}
use Rattle.bl_chain.specs.Tables.{AreTables, HasNoneUnread, Table}
use Rattle.bl_chain.specs.BatchSizes.{field_bytes}
use Rattle.bl_chain.specs.Folders.{AreTablesAt, FilesAreFolders, IsContentTable, IsFileTable, IsInside, IsPlainTable, empty_table, kind_of, read_table, refused_table, rows_behind}
use Rattle.bl_chain.proofs.CarriedFiles.{plain, plain_has, plain_is}

pub some_same : {X : Type 0} (a b : X) → Some a ≡ Some b → a ≡ b
some_same a b h = cc

-- ---- a header is refused in one way, or means one thing

abbrev Refusal : Fields → ℕ → Type 0
Refusal fields c =
    ((1024 < length fields) × (c ≡ length fields))
    ⊎ (((length fields ≤ 1024) × (fault : Fault) × IsFirstFault fields c fault) ⊎ ((HasNoId fields × (c ≡ 0)) ⊎ (IsHalfEdge fields × (c ≡ 0))))

refusal_of : (fields : Fields) (refusal : HeaderRefusal) → refusal ≢ NoMemory → IsRefusal fields refusal → Refusal fields (column_of refusal)
refusal_of fields (TooManyColumns number) some h = inl (h.0, h.1)
refusal_of fields (BadName column) some h = inr (inl (h.0, bad_name, h.1))
refusal_of fields (UnknownSystem column) some h = inr (inl (h.0, unknown_system, h.1))
refusal_of fields (UnknownType column) some h = inr (inl (h.0, unknown_type, h.1))
refusal_of fields (FloatColumn column) some h = inr (inl (h.0, float_column, h.1))
refusal_of fields (SingleArray column) some h = inr (inl (h.0, single_array, h.1))
refusal_of fields (EdgeNotSingle column) some h = inr (inl (h.0, edge_not_single, h.1))
refusal_of fields (Repeated column) some h = inr (inl (h.0, repeated, h.1))
refusal_of fields NoId some h = inr (inr (inl (h, refl)))
refusal_of fields HalfEdge some h = inr (inr (inr (h, refl)))
refusal_of fields NoMemory some h = absurd (some refl)

first_same : (fields : Fields) (a b : ℕ) (f g : Fault) → IsFirstFault fields a f → IsFirstFault fields b g → a ≡ b
first_same fields a b f g one two =
    elim (cases_lt a b) [
      | inl less ↦ absurd (two.first a f (inl less) one.holds)
      | inr most ↦ (elim (cases_lt b a) [
        | inl less ↦ absurd (one.first b g (inl less) two.holds)
        | inr least ↦ omega arith
      ])
    ]

one_refusal : (fields : Fields) (a b : ℕ) → Refusal fields a → Refusal fields b → a ≡ b
one_refusal fields a b (inl x) (inl y) = x.1 ∙ sym y.1
one_refusal fields a b (inl x) (inr (inl y)) = absurd (omega (arith, x.0, y.0))
one_refusal fields a b (inl x) (inr (inr (inl y))) = absurd (omega (arith, x.0, y.0.sound.few))
one_refusal fields a b (inl x) (inr (inr (inr y))) = absurd (omega (arith, x.0, y.0.sound.few))
one_refusal fields a b (inr (inl x)) (inl y) = absurd (omega (arith, x.0, y.0))
one_refusal fields a b (inr (inl x)) (inr (inl y)) = first_same fields a b x.1 y.1 x.2 y.2
one_refusal fields a b (inr (inl x)) (inr (inr (inl y))) = absurd (y.0.sound.no_fault a x.1 x.2.holds)
one_refusal fields a b (inr (inl x)) (inr (inr (inr y))) = absurd (y.0.sound.no_fault a x.1 x.2.holds)
one_refusal fields a b (inr (inr (inl x))) (inl y) = absurd (omega (arith, y.0, x.0.sound.few))
one_refusal fields a b (inr (inr (inl x))) (inr (inl y)) = absurd (x.0.sound.no_fault b y.1 y.2.holds)
one_refusal fields a b (inr (inr (inl x))) (inr (inr (inl y))) = x.1 ∙ sym y.1
one_refusal fields a b (inr (inr (inl x))) (inr (inr (inr y))) = x.1 ∙ sym y.1
one_refusal fields a b (inr (inr (inr x))) (inl y) = absurd (omega (arith, y.0, x.0.sound.few))
one_refusal fields a b (inr (inr (inr x))) (inr (inl y)) = absurd (x.0.sound.no_fault b y.1 y.2.holds)
one_refusal fields a b (inr (inr (inr x))) (inr (inr (inl y))) = x.1 ∙ sym y.1
one_refusal fields a b (inr (inr (inr x))) (inr (inr (inr y))) = x.1 ∙ sym y.1

not_both : {P : Type 0} (fields : Fields) (columns : Columns) (c : ℕ) → IsMeaning fields columns → Refusal fields c → P
not_both fields columns c is (inl x) = absurd (omega (arith, x.0, is.sound.few))
not_both fields columns c is (inr (inl x)) = absurd (is.sound.no_fault c x.1 x.2.holds)
not_both fields columns c is (inr (inr (inl x))) = absurd (true≢false (sym is.id ∙ x.0.no_id))
not_both fields columns c is (inr (inr (inr x))) = absurd (x.0.half is.ends)

all_some : (a b : List ColumnUse) → map Some a ≡ map Some b → a ≡ b
all_some [] [] h = refl
all_some [] (y ∷ b) h = absurd (cc)
all_some (x ∷ a) [] h = absurd (cc)
all_some (x ∷ a) (y ∷ b) h = λ i. (let e : x ≡ y = cc in e) i ∷ all_some a b (let e : map Some a ≡ map Some b = cc in e) i

one_meaning : (fields : Fields) (a b : Columns) → IsMeaning fields a → IsMeaning fields b → a ≡ b
one_meaning fields a b one two = λ i. record { side = (one.side ∙ sym two.side) i; uses = all_some a.uses b.uses (one.uses ∙ sym two.uses) i }

-- ---- a file is one table

pub one_content : (name : List ℕ) (all : List Fields) (a b : Table) → IsContentTable name all a → IsContentTable name all b → a ≡ b
one_content name [] a b one two = one ∙ sym two
one_content name (header ∷ rest) a b (inl x) (inl y) =
    x.2 ∙ ap (λ columns. read_table name columns header rest) (one_meaning header x.0 y.0 x.1 y.1) ∙ sym y.2
one_content name (header ∷ rest) a b (inl x) (inr y) = not_both header x.0 (column_of y.0) x.1 (refusal_of header y.0 y.1 y.2)
one_content name (header ∷ rest) a b (inr x) (inl y) = not_both header y.0 (column_of x.0) y.1 (refusal_of header x.0 x.1 x.2)
one_content name (header ∷ rest) a b (inr x) (inr y) =
    let same : column_of x.0 ≡ column_of y.0 = one_refusal header (column_of x.0) (column_of y.0) (refusal_of header x.0 x.1 x.2) (refusal_of header y.0 y.1 y.2) in
    x.3 ∙ ap (λ c. refused_table name (kind.Refused Header c) (digest_after (header ∷ rest) 0)) same ∙ sym y.3

one_plain : (name bytes : List ℕ) (a b : Table) → IsPlainTable name bytes a → IsPlainTable name bytes b → a ≡ b
one_plain name bytes a b (inl x) (inl y) = x.1 ∙ sym y.1
one_plain name bytes a b (inl x) (inr y) = absurd (omega (arith, x.0, y.0))
one_plain name bytes a b (inr x) (inl y) = absurd (omega (arith, x.0, y.0))
one_plain name bytes a b (inr x) (inr y) = one_content name (contents bytes) a b x.1 y.1

one_file : (path name bytes : List ℕ) (a b : Table) → IsFileTable path name bytes a → IsFileTable path name bytes b → a ≡ b
one_file path name bytes a b (inl x) (inl y) = x.1 ∙ sym y.1
one_file path name bytes a b (inl x) (inr y) = absurd (true≢false (sym x.0 ∙ y.0))
one_file path name bytes a b (inr x) (inl y) = absurd (true≢false (sym y.0 ∙ x.0))
one_file path name bytes a b (inr x) (inr y) = one_plain name bytes a b x.1 y.1

-- ---- what a file's table always has

-- Its name. No rows where it isn't read. For each row the bytes of its fields.
pub record IsNamed (name : List ℕ) (table : Table) : Type 0 where
  pub name_is : table.found.name ≡ name
  pub unread : HasNoneUnread table.found.kind table.rows
  pub sized : length table.sizes ≡ length table.rows

named : (name : List ℕ) (found table : Table) → table ≡ found → IsNamed name found → IsNamed name table
named name found table is has = subst (λ t. IsNamed name t) (sym is) has

refused_named : (name : List ℕ) (code : LogCode) (column : ℕ) (digest : List ℕ) → IsNamed name (refused_table name (kind.Refused code column) digest)
refused_named name code column digest = record { name_is = refl; unread = refl; sized = refl }

read_kind : (side : Side) (rows : List DigestRow) → HasNoneUnread (kind_of side) rows
read_kind side.Vertex rows = tt
read_kind side.Edge rows = tt

rows_length : (columns : Columns) (all : List Fields) (before : ℕ) (records : List Fields) → length (map field_bytes records) ≡ length (rows_behind columns all before records)
rows_length columns all before [] = refl
rows_length columns all before (fields ∷ records) = ap suc (rows_length columns all (before + 1) records)

content_named : (name : List ℕ) (all : List Fields) (table : Table) → IsContentTable name all table → IsNamed name table
content_named name [] table is = named name (empty_table name) table is (record { name_is = refl; unread = tt; sized = refl })
content_named name (header ∷ rest) table (inl x) =
    named name (read_table name x.0 header rest) table x.2
    (record { name_is = refl; unread = read_kind x.0.side (rows_behind x.0 (header ∷ rest) 0 rest); sized = rows_length x.0 (header ∷ rest) 0 rest })
content_named name (header ∷ rest) table (inr x) =
    named name (refused_table name (kind.Refused Header (column_of x.0)) (digest_after (header ∷ rest) 0)) table x.3 (refused_named name Header (column_of x.0) (digest_after (header ∷ rest) 0))

plain_named : (name bytes : List ℕ) (table : Table) → IsPlainTable name bytes table → IsNamed name table
plain_named name bytes table (inl x) = named name (refused_table name (kind.Refused FileTooLarge 0) (header_digest [])) table x.1 (refused_named name FileTooLarge 0 (header_digest []))
plain_named name bytes table (inr x) = content_named name (contents bytes) table x.1

pub file_named : (path name bytes : List ℕ) (table : Table) → IsFileTable path name bytes table → IsNamed name table
file_named path name bytes table (inl x) = named name (refused_table name (kind.Refused Compressed 0) (header_digest [])) table x.1 (refused_named name Compressed 0 (header_digest []))
file_named path name bytes table (inr x) = plain_named name bytes table x.1

-- ---- a folder

pub one_inside : (files : Files) (path : List ℕ) (a b : Table) → IsInside files path a → IsInside files path b → a.found.name ≡ b.found.name → a ≡ b
one_inside files path a b x y same =
    let name : x.0 ≡ y.0 = sym (file_named (path ++ 47 ∷ x.0) x.0 x.1 a x.4).name_is ∙ same ∙ (file_named (path ++ 47 ∷ y.0) y.0 y.1 b y.4).name_is in
    let bytes : x.1 ≡ y.1 = some_same x.1 y.1 (sym x.3 ∙ ap (λ n. get files (path ++ 47 ∷ n)) name ∙ y.3) in
    one_file (path ++ 47 ∷ y.0) y.0 y.1 a b (subst (λ n. IsFileTable (path ++ 47 ∷ n) n y.1 a) name (subst (λ l. IsFileTable (path ++ 47 ∷ x.0) x.0 l a) bytes x.4)) y.4

heads : (a b : Feed) (xs ys : List Feed) → a ∷ xs ≡ b ∷ ys → (a ≡ b) × (xs ≡ ys)
heads a b xs ys h = (cc, cc)

same_tables : (files : Files) (path : List ℕ) (a b : List Table) → ((s : Table) → Contains a s → IsInside files path s) → ((s : Table) → Contains b s → IsInside files path s) → plain a ≡ plain b → a ≡ b
same_tables files path [] [] one two same = refl
same_tables files path [] (y ∷ b) one two same = absurd (cc)
same_tables files path (x ∷ a) [] one two same = absurd (cc)
same_tables files path (x ∷ a) (y ∷ b) one two same =
    let both = heads (new_feed x.found) (new_feed y.found) (plain a) (plain b) same in
    λ i. one_inside files path x y (one x (first_member x a)) (two y (first_member y b)) (ap (λ (f : Feed). f.name) both.0) i ∷ same_tables files path a b (λ s h. one s (later_member x a s h)) (λ s h. two s (later_member y b s h)) both.1 i

members : (a b : List Table) → ((s : Table) → Contains a s → Contains b s) → (feed : Feed) → Contains (plain a) feed → Contains (plain b) feed
members a b all feed h = by (plain_is a feed h) where
  by : ((table : Table) × Contains a table × (feed ≡ new_feed table.found)) → Contains (plain b) feed
  by is = subst (λ x. Contains (plain b) x) (sym is.2) (plain_has b is.0 (all is.0 is.1))

one_at : (files : Files) (path : List ℕ) (a b : List Table) → AreTablesAt files path a → AreTablesAt files path b → a ≡ b
one_at files path a b (inl x) (inl y) =
    let bytes : x.0 ≡ y.0 = some_same x.0 y.0 (sym x.1 ∙ y.1) in
    let same : x.2 ≡ y.2 = one_file path [] y.0 x.2 y.2 (subst (λ l. IsFileTable path [] l x.2) bytes x.3) y.3 in
    x.4 ∙ ap (λ s. s ∷ []) same ∙ sym y.4
one_at files path a b (inl x) (inr y) = absurd (let e = sym x.1 ∙ y.0 in cc)
one_at files path a b (inr x) (inl y) = absurd (let e = sym y.1 ∙ x.0 in cc)
one_at files path a b (inr x) (inr y) =
    same_tables files path a b (λ s h. (x.3 s).0 h) (λ s h. (y.3 s).0 h)
    (same_members (plain a) (plain b) x.2 y.2 (members a b (λ s h. (y.3 s).1 ((x.3 s).0 h))) (members b a (λ s h. (x.3 s).1 ((y.3 s).0 h))))

all_of : (P : Table → Type 0) (tables : List Table) → ((t : Table) → Contains tables t → P t) → All P tables
all_of P [] all = All-nil P
all_of P (t ∷ tables) all = All-cons P t tables (all t (first_member t tables)) (all_of P tables (λ x h. all x (later_member t tables x h)))

one_sorted : (feed : Feed) → IsStrictlySortedBy feed_cmp (feed ∷ [])
unfolding IsStrictlySortedBy
one_sorted feed = (tt, tt)

only : (table s : Table) → Contains (table ∷ []) s → table ≡ s
only table s h = elim (member_cases table [] s h) [ inl same ↦ same | inr later ↦ no_member s later ]

at_sound : (files : Files) (path : List ℕ) (tables : List Table) → AreTablesAt files path tables → AreTables tables
at_sound files path tables (inl x) =
    let is : IsNamed [] x.2 = file_named path [] x.0 x.2 x.3 in
    subst AreTables (sym x.4) (record {
      apart = λ a b one two same. sym (only x.2 a one) ∙ only x.2 b two;
      ordered = one_sorted (new_feed x.2.found);
      unread = all_of (λ (t : Table). HasNoneUnread t.found.kind t.rows) (x.2 ∷ []) (λ t h. subst (λ y. HasNoneUnread y.found.kind y.rows) (only x.2 t h) is.unread);
      sized = all_of (λ (t : Table). length t.sizes ≡ length t.rows) (x.2 ∷ []) (λ t h. subst (λ y. length y.sizes ≡ length y.rows) (only x.2 t h) is.sized);
    })
at_sound files path tables (inr x) =
    let named_in : (t : Table) → Contains tables t → (name : List ℕ) × IsNamed name t = λ t h. let is : IsInside files path t = (x.3 t).0 h in (is.0, file_named (path ++ 47 ∷ is.0) is.0 is.1 t is.4) in
    record {
      apart = λ a b one two same. one_inside files path a b ((x.3 a).0 one) ((x.3 b).0 two) same;
      ordered = x.2;
      unread = all_of (λ (t : Table). HasNoneUnread t.found.kind t.rows) tables (λ t h. (named_in t h).1.unread);
      sized = all_of (λ (t : Table). length t.sizes ≡ length t.rows) tables (λ t h. (named_in t h).1.sized);
    }

pub folders : FilesAreFolders
folders files = record {
  one = λ source a b one two. one_at files two.0 a b (subst (λ p. AreTablesAt files p a) (some_same one.0 two.0 (sym one.1 ∙ two.1)) one.2) two.2;
  sound = λ source tables is. at_sound files is.0 tables is.2;
}
