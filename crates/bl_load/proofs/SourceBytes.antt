-- The bytes of a file of a source.
use Rattle.std.specs.Prelude.{◌≡◌, ◌≢◌, ◌<◌, ◌==◌, ℕ, zero, suc, slice_index, Bool, true, false, List, [], ◌∷◌, ◌++◌, length, is_some, Some, None, Ok, Err, refl}
use Rattle.std.specs.declared.option.Option.{Option}
use Rattle.std.specs.declared.result.Result.{Result}
use Rattle.std.specs.List.{All}
use Rattle.std.specs.Str.{IsUtf8}
use Rattle.std.specs.FinMap.{get}
use Rattle.std.proofs.Common.{sym, ap, subst, ◌∙◌, arith, inl, inr, lit<}
use Rattle.std.proofs.lemmas.Bool.{true≢false}
use Rattle.std.proofs.lemmas.Str.{IsUtf8-append, IsUtf8-from_ascii}
use Rattle.bl_outside.specs.Folders.{Files}
use Rattle.bl_rows.specs.Contents.{contents}
use Rattle.bl_rows.specs.File.{IsSmall, ReadsWhole, file_limit}
use Rattle.bl_rows.specs.declared.file.FileBytes.{FileBytes}
use Rattle.bl_rows.specs.declared.file.FileRefusal.{FileRefusal}
use Rattle.bl_rows.specs.declared.file.FileRefusal.TheVariants.{Missing, TooLarge, ReadFault, NoMemory}
use Rattle.bl_chain.specs.Tables.{Table}
use Rattle.bl_chain.specs.Folders.{IsContentTable, IsFileTable, is_compressed}
use Rattle.bl_chain.proofs.OneFolder.{some_same}
use Rattle.bl_load.specs.SourceFiles.{HasBytes, IsFileAt, IsThere, ReadsSource, file_path}

pub one_bytes : (files : Files) (path name a b : List ℕ) → HasBytes files path name a → HasBytes files path name b → a ≡ b
one_bytes files path [] a b one two = some_same a b (sym one ∙ two)
one_bytes files path (byte ∷ name) a b one two = some_same a b (sym one.3 ∙ two.3)

none_some : {X P : Type 0} (o : Option X) (x : X) → o ≡ None → o ≡ Some x → P
none_some o x none some = let e = sym none ∙ some in absurd (cc)

-- ---- reading

pub reads_itself : (files : Option Files) (path : List ℕ) (result : Result FileBytes FileRefusal) → ReadsWhole files path result → ReadsSource files path [] result
reads_itself None path result is = tt
reads_itself (Some files) path (Ok file) is = is
reads_itself (Some files) path (Err Missing) is = λ bytes has. none_some (get files path) bytes is has
reads_itself (Some files) path (Err TooLarge) is = is
reads_itself (Some files) path (Err ReadFault) is = tt
reads_itself (Some files) path (Err NoMemory) is = tt

pub reads_unplain : (files : Option Files) (path name : List ℕ) → name ≢ [] → ¬ (IsUtf8 name × All (λ b. b ≢ 47) name) → ReadsSource files path name (Err Missing)
reads_unplain None path name named not = tt
reads_unplain (Some files) path [] named not = absurd (named refl)
reads_unplain (Some files) path (byte ∷ name) named not = λ bytes has. not (has.1, has.2)

pub reads_beside : (files : Option Files) (path name : List ℕ) → name ≢ [] → IsThere files path true → ReadsSource files path name (Err Missing)
reads_beside None path name named there = tt
reads_beside (Some files) path [] named there = absurd (named refl)
reads_beside (Some files) path (byte ∷ name) named there = λ bytes has. true≢false (there ∙ ap is_some has.0)

is_none : {X : Type 0} (o : Option X) → false ≡ is_some o → o ≡ None
is_none None h = refl
is_none (Some x) h = absurd (true≢false (sym h))

pub reads_inside : (files : Option Files) (path name : List ℕ) (result : Result FileBytes FileRefusal) → name ≢ [] → IsUtf8 name × All (λ b. b ≢ 47) name → IsThere files path false → ReadsWhole files (file_path path name) result → ReadsSource files path name result
reads_inside None path name result named plain there is = tt
reads_inside (Some files) path [] result named plain there is = absurd (named refl)
reads_inside (Some files) path (byte ∷ name) (Ok file) named plain there is = (is_none (get files path) there, plain.0, plain.1, is)
reads_inside (Some files) path (byte ∷ name) (Err Missing) named plain there is = λ bytes has. none_some (get files (path ++ 47 ∷ (byte ∷ name))) bytes is has.3
reads_inside (Some files) path (byte ∷ name) (Err TooLarge) named plain there is = (is.0, (is_none (get files path) there, plain.0, plain.1, is.1), is.2)
reads_inside (Some files) path (byte ∷ name) (Err ReadFault) named plain there is = tt
reads_inside (Some files) path (byte ∷ name) (Err NoMemory) named plain there is = tt

-- ---- the file as its rows

-- a small file that isn't compressed is what its records say
pub plain_table : (files : Files) (path name bytes : List ℕ) (table : Table) → HasBytes files path name bytes → is_compressed (file_path path name) ≡ false → IsSmall bytes → IsFileAt files path name table → IsContentTable name (contents bytes) table
plain_table files path name bytes table has plain small at =
    by (subst (λ b. IsFileTable (file_path path name) name b table) (one_bytes files path name at.bytes bytes at.has has) at.table_is) where
      by : IsFileTable (file_path path name) name bytes table → IsContentTable name (contents bytes) table
      by (inl x) = absurd (true≢false (sym x.0 ∙ plain))
      by (inr (x, inl y)) = absurd (omega (arith, y.0, small))
      by (inr (x, inr y)) = y.1

pub table_at : (files : Files) (path name bytes : List ℕ) (table : Table) → HasBytes files path name bytes → is_compressed (file_path path name) ≡ false → IsSmall bytes → IsContentTable name (contents bytes) table → IsFileAt files path name table
table_at files path name bytes table has plain small is = record { bytes = bytes; has = has; table_is = inr (plain, inr (small, is)) }

-- ---- paths

ascii_slash : (i : ℕ) → slice_index (47 ∷ []) i < 128
ascii_slash zero = lit< tt
ascii_slash (suc i) = lit< tt

slash : IsUtf8 (47 ∷ [])
slash = IsUtf8-from_ascii (47 ∷ []) ascii_slash

ascii_none : (i : ℕ) → slice_index [] i < 128
ascii_none i = lit< tt

pub none_utf8 : IsUtf8 []
none_utf8 = IsUtf8-from_ascii [] ascii_none

pub path_utf8 : (path name : List ℕ) → IsUtf8 path → IsUtf8 name → IsUtf8 (file_path path name)
path_utf8 path [] one two = one
path_utf8 path (byte ∷ name) one two = IsUtf8-append path (47 ∷ (byte ∷ name)) one (IsUtf8-append (47 ∷ []) (byte ∷ name) slash two)

pub named : (name : List ℕ) → (length name == 0) ≡ false → name ≢ []
named name is none = true≢false (sym (ap (λ l. length l == 0) none) ∙ is)
