-- What is found of a file.
use Rattle.std.specs.Prelude.{◌≡◌, ◌<◌, ℕ, true, false, List, [], length, refl, Some, None, IsSome, Ok, Err}
use Rattle.std.specs.declared.option.Option.{Option}
use Rattle.std.specs.FinMap.{get}
use Rattle.std.proofs.Common.{sym, ap, subst, ◌∙◌, inl, inr}
use Rattle.std.proofs.lemmas.Bool.{true≢false}
use Rattle.bl_outside.specs.Folders.{Files}
use Rattle.bl_value.specs.declared.log_code.LogCode.TheVariants.{Compressed, FileTooLarge}
use Rattle.bl_rows.specs.Contents.{contents}
use Rattle.bl_rows.specs.Digests.{header_digest}
use Rattle.bl_rows.specs.File.{IsSmall, ReadsWhole, file_limit}
use Rattle.bl_rows.specs.declared.file.FileBytes.{FileBytes}
use Rattle.bl_rows.specs.declared.file.FileRefusal.TheVariants.{Missing, TooLarge, ReadFault}
use Rattle.bl_files.specs.Carried.{HasKept}
use Rattle.bl_files.specs.declared.feed.Feed.{Feed}
use Rattle.bl_files.specs.declared.feed_kind.FeedKind.TheVariants as kind
use Rattle.bl_files.specs.declared.found.Found.{Found}
use Rattle.bl_chain.specs.Folders.{digest_of, is_compressed, refused_table}
use Rattle.bl_load.specs.Finding.{IsContentFound, IsFoundAt, IsKeptAs}
use Rattle.bl_load.specs.SourceFiles.{file_path}
use Rattle.bl_load.specs.declared.finding.Kept.{Kept}

pub some_of : {X : Type 0} (o : Option X) → IsSome o → (x : X) × (o ≡ Some x)
some_of (Some x) is = (x, refl)
some_of None is = absurd (true≢false (sym is))

pub kept_found : (files : Files) (path : List ℕ) (previous : List Feed) (name : List ℕ) (kept : Kept) → IsKeptAs previous name kept → IsFoundAt files path previous name (record { name = name; kind = kept.kind; digest = kept.digest })
kept_found files path previous name kept is = inl (is.old, is.there, is.is, is.name_is, ap (λ (k : Kept). record { name = name; kind = k.kind; digest = k.digest }) is.kept_is)

pub compressed_found : (files : Files) (path : List ℕ) (previous : List Feed) (name : List ℕ) (file : Found) → ¬ HasKept previous name → is_compressed (file_path path name) ≡ true → IsSome (get files (file_path path name))
    → file.name ≡ name → file.kind ≡ kind.Refused Compressed 0 → file.digest ≡ digest_of (header_digest []) → IsFoundAt files path previous name file
compressed_found files path previous name file none compressed there name_is kind_is digest_is =
    let bytes = some_of (get files (file_path path name)) there in
    inr (none, bytes.0, bytes.1, refused_table name (kind.Refused Compressed 0) (header_digest []), inl (compressed, refl), λ i. record { name = name_is i; kind = kind_is i; digest = digest_is i })

pub large_found : (files : Files) (path : List ℕ) (previous : List Feed) (name : List ℕ) (file : Found) → ¬ HasKept previous name → is_compressed (file_path path name) ≡ false → ((bytes : List ℕ) × (get files (file_path path name) ≡ Some bytes) × (file_limit < length bytes))
    → file.name ≡ name → file.kind ≡ kind.Refused FileTooLarge 0 → file.digest ≡ digest_of (header_digest []) → IsFoundAt files path previous name file
large_found files path previous name file none plain large name_is kind_is digest_is =
    inr (none, large.0, large.1, refused_table name (kind.Refused FileTooLarge 0) (header_digest []), inr (plain, inl (large.2, refl)), λ i. record { name = name_is i; kind = kind_is i; digest = digest_is i })

pub read_found : (files : Files) (path : List ℕ) (previous : List Feed) (name bytes : List ℕ) (file : Found) → ¬ HasKept previous name → is_compressed (file_path path name) ≡ false → get files (file_path path name) ≡ Some bytes → IsSmall bytes → IsContentFound name (contents bytes) file → IsFoundAt files path previous name file
read_found files path previous name bytes file none plain there small is = inr (none, bytes, there, is.0, inr (plain, inr (small, is.1)), is.2)
