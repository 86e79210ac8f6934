-- What the header of a file says.
use Rattle.std.specs.Prelude.{◌≡◌, ◌≢◌, ℕ, nat_eq, ◌&&◌, Bool, true, false, List, [], ◌∷◌, refl}
use Rattle.std.specs.Cmp.Lexicographic.{pointwise}
use Rattle.std.proofs.Common.{sym, ap, subst, ◌∙◌, inl, inr, eq-eqb}
use Rattle.std.proofs.lemmas.Bool.{true≢false}
use Rattle.bl_outside.specs.declared.digest.Digest.{Digest}
use Rattle.bl_value.specs.declared.column.Columns.{Columns}
use Rattle.bl_header.specs.Headers.{IsMeaning, IsRefusal, column_of}
use Rattle.bl_header.specs.declared.refusal.HeaderRefusal.{HeaderRefusal}
use Rattle.bl_header.specs.declared.refusal.HeaderRefusal.TheVariants.{NoMemory}
use Rattle.bl_rows.specs.Contents.{Fields, has_no_record, header_of}
use Rattle.bl_rows.specs.Digests.{digest_after, header_digest}
use Rattle.bl_files.specs.declared.feed_kind.FeedKind.{FeedKind}
use Rattle.bl_files.specs.declared.feed_kind.FeedKind.TheVariants as kind
use Rattle.bl_value.specs.declared.log_code.LogCode.TheVariants.{Header}
use Rattle.bl_chain.specs.Folders.{digest_of, empty_table, read_table, refused_table}
use Rattle.bl_load.specs.Finding.{IsContentFound}
use Rattle.bl_load.specs.Resuming.{IsContent, IsRefusedBy, kind_in}
use Rattle.bl_load.specs.declared.content.Content.{Content}
use Rattle.bl_load.specs.declared.content.Content.TheVariants.{Empty, Refused, Read}
use Rattle.bl_load.proofs.Resumed.{same_digest}

pub empty_content : (all : List Fields) → has_no_record all ≡ true → IsContent all Empty
empty_content [] is = tt
empty_content (header ∷ records) is = absurd (true≢false (sym is))

pub read_content : (all : List Fields) (columns : Columns) → has_no_record all ≡ false → IsMeaning (header_of all) columns → IsContent all (Read columns)
read_content [] columns some is = absurd (true≢false some)
read_content (header ∷ records) columns some is = is

pub refused_content : (all : List Fields) (refusal : HeaderRefusal) (content : Content) → has_no_record all ≡ false → IsRefusal (header_of all) refusal → IsRefusedBy refusal content → IsContent all content
refused_content [] refusal content some is by = absurd (true≢false some)
refused_content (header ∷ records) refusal content some is by = subst (λ c. IsContent (header ∷ records) c) (sym by.0) (refusal, by.1, is, refl)

pub content_found : (name : List ℕ) (all : List Fields) (content : Content) (digest : Digest) → IsContent all content → digest.bytes ≡ digest_after all 0 → IsContentFound name all (record { name = name; kind = kind_in content; digest = digest })
unfolding digest_after
content_found name [] Empty digest is same = (empty_table name, refl, ap (λ d. record { name = name; kind = kind.Vertex; digest = d }) (same_digest digest (header_digest []) same))
content_found name [] (Refused column) digest is same = absurd is
content_found name [] (Read columns) digest is same = absurd is
content_found name (header ∷ records) Empty digest is same = absurd is
content_found name (header ∷ records) (Refused column) digest is same = (
  refused_table name (kind.Refused Header (column_of is.0)) (digest_after (header ∷ records) 0),
  inr (is.0, is.1, is.2, refl),
  λ i. record { name = name; kind = kind.Refused Header (is.3 i); digest = same_digest digest (digest_after (header ∷ records) 0) same i },
)
content_found name (header ∷ records) (Read columns) digest is same =
    (read_table name columns header records, inl (columns, is, refl), ap (λ d. record { name = name; kind = kind_in (Read columns); digest = d }) (same_digest digest (digest_after (header ∷ records) 0) same))

-- ---- texts

pub text_itself : (a : List ℕ) → pointwise nat_eq a a ≡ true
text_itself [] = refl
text_itself (x ∷ a) = ap (λ b. b && pointwise nat_eq a a) (eq-eqb x x refl) ∙ text_itself a

pub texts_apart : (a b : List ℕ) → pointwise nat_eq a b ≡ false → a ≢ b
texts_apart a b apart same = true≢false (sym (text_itself a) ∙ ap (λ t. pointwise nat_eq a t) same ∙ apart)
