-- Rows and their digests, one after another.
use Rattle.std.specs.Prelude.{◌≡◌, ◌<◌, ℕ, ◌+◌, List, [], ◌∷◌, ◌++◌, drop, length}
use Rattle.std.proofs.Common.{sym, ap, ◌∙◌, get_or, append_assoc}
use Rattle.std.proofs.lemmas.List.{append-nil, drop_more, length-append}
use Rattle.bl_outside.specs.declared.digest.Digest.{Digest}
use Rattle.bl_value.specs.declared.row.Row.{Row}
use Rattle.bl_value.specs.declared.row.DigestRow.{DigestRow}
use Rattle.bl_load.specs.Gathering.{digest_rows}

abbrev pub Pairs : List DigestRow → List DigestRow → List Row → List Digest → Type 0
Pairs whole them left digests = whole ≡ them ++ digest_rows left (drop (length them) digests)

pub pairs_more : (whole them : List DigestRow) (left rest : List Row) (digests : List Digest) (row : Row) (digest : Digest) → Pairs whole them left digests → left ≡ row ∷ rest → length them < length digests → get_or digests (length them) digest ≡ digest → Pairs whole (them ++ record { row = row; digest = digest } ∷ []) rest digests
pairs_more whole them left rest digests row digest so_far left_is within is =
    let x : DigestRow = record { row = row; digest = digest } in
    let first : drop (length them) digests ≡ digest ∷ drop (length them + 1) digests = drop_more digests (length them) digest within ∙ ap (λ d. d ∷ drop (length them + 1) digests) is in
    let count : length them + 1 ≡ length (them ++ x ∷ []) = sym (length-append them (x ∷ [])) in
    so_far
    ∙ (λ i. them ++ digest_rows (left_is i) (first i))
    ∙ sym (append_assoc them (x ∷ []) (digest_rows rest (drop (length them + 1) digests)))
    ∙ ap (λ k. (them ++ x ∷ []) ++ digest_rows rest (drop k digests)) count

pub pairs_all : (whole them : List DigestRow) (left : List Row) (digests : List Digest) → Pairs whole them left digests → left ≡ [] → them ≡ whole
pairs_all whole them left digests so_far none = sym (so_far ∙ ap (λ l. them ++ digest_rows l (drop (length them) digests)) none ∙ append-nil them)
