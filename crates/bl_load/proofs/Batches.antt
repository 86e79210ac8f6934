-- The rows of a batch.
use Rattle.std.specs.Prelude.{◌≡◌, ◌≢◌, ◌⊎◌, ◌≤◌, ◌<◌, ℕ, zero, suc, ◌+◌, nat_le, Bool, true, false, ◌||◌, cond, List, [], ◌∷◌, ◌++◌, map, take, drop, length, sum, refl}
use Rattle.std.proofs.Common.{sym, ap, subst, ◌∙◌, arith, inl, inr, get_or, add-one}
use Rattle.std.proofs.lemmas.Bool.{leb-false, true≢false}
use Rattle.std.proofs.lemmas.List.{take_more}
use Rattle.std.proofs.lemmas.List.Sums.{sum_by-cons}
use Rattle.std.proofs.Math.Seq.{drop-cons}
use Rattle.std.proofs.Common.{append_assoc}
use Rattle.bl_value.specs.declared.row.Row.{Row}
use Rattle.bl_value.specs.declared.row.DigestRow.{DigestRow}
use Rattle.bl_chain.specs.declared.batch_size.BatchSize.{BatchSize}
use Rattle.bl_chain.specs.BatchSizes.{is_full, most_bytes, most_rows, most_values, no_rows, with_row}
use Rattle.bl_chain.specs.NextEntries.{batch_from}
use Rattle.bl_load.specs.Gathering.{IsEnough}

neither : (a b : Bool) → (a || b) ≡ false → (a ≡ false) × (b ≡ false)
neither true b h = absurd (true≢false h)
neither false b h = (refl, h)

-- a batch that isn't full has fewer rows, values and bytes
pub record HasRoom (size : BatchSize) : Type 0 where
  pub rows : size.rows < 1000
  pub values : size.values < 16384
  pub bytes : size.bytes < 8388608

pub has_room : (size : BatchSize) → is_full size ≡ false → HasRoom size
has_room size h =
    let first = neither (nat_le most_rows size.rows) (nat_le most_values size.values || nat_le most_bytes size.bytes) h in
    let others = neither (nat_le most_values size.values) (nat_le most_bytes size.bytes) first.1 in
    record { rows = leb-false 1000 size.rows first.0; values = leb-false 16384 size.values others.0; bytes = leb-false 8388608 size.bytes others.1 }

-- ---- a batch doesn't look behind enough rows

-- none is behind these rows, or they fill the batch
abbrev Fills : BatchSize → List DigestRow → List ℕ → List DigestRow → Type 0
Fills size rows sizes rest = (rest ≡ []) ⊎ ((most_rows ≤ size.rows + length rows) ⊎ (most_bytes ≤ size.bytes + sum sizes))

fills_more : (size : BatchSize) (row : DigestRow) (rows : List DigestRow) (bytes : ℕ) (sizes : List ℕ) (rest : List DigestRow) → Fills size (row ∷ rows) (bytes ∷ sizes) rest → Fills (with_row size row.row bytes) rows sizes rest
fills_more size row rows bytes sizes rest (inl none) = inl none
fills_more size row rows bytes sizes rest (inr (inl many)) = inr (inl (omega arith))
fills_more size row rows bytes sizes rest (inr (inr large)) = let e : sum (bytes ∷ sizes) ≡ bytes + sum sizes = sum_by-cons (λ x. x) bytes sizes in inr (inr (omega arith))

none_behind : (size : BatchSize) (rest : List DigestRow) (more : List ℕ) → is_full size ≡ false → Fills size [] [] rest → batch_from size rest more ≡ []
none_behind size rest more room (inl none) = ap (λ r. batch_from size r more) none
none_behind size rest more room (inr (inl many)) = let has = has_room size room in absurd (omega (arith, has.rows))
none_behind size rest more room (inr (inr large)) = let has = has_room size room in absurd (omega (arith, has.bytes))

pub batch_from-append : (size : BatchSize) (rows rest : List DigestRow) (sizes more : List ℕ) → length sizes ≡ length rows → is_full size ≡ false → Fills size rows sizes rest → batch_from size (rows ++ rest) (sizes ++ more) ≡ batch_from size rows sizes
batch_from-append size [] rest [] more same room fills = none_behind size rest more room fills
batch_from-append size [] rest (bytes ∷ sizes) more same room fills = absurd (omega arith)
batch_from-append size (row ∷ rows) rest [] more same room fills = absurd (omega arith)
batch_from-append size (row ∷ rows) rest (bytes ∷ sizes) more same room fills =
    ap (λ l. row ∷ l) (by (is_full (with_row size row.row bytes)) refl (λ more_room. batch_from-append (with_row size row.row bytes) rows rest sizes more (omega arith) more_room (fills_more size row rows bytes sizes rest fills))) where
      by : (b : Bool) → is_full (with_row size row.row bytes) ≡ b → (is_full (with_row size row.row bytes) ≡ false → batch_from (with_row size row.row bytes) (rows ++ rest) (sizes ++ more) ≡ batch_from (with_row size row.row bytes) rows sizes)
          → cond b [] (batch_from (with_row size row.row bytes) (rows ++ rest) (sizes ++ more)) ≡ cond b [] (batch_from (with_row size row.row bytes) rows sizes)
      by true is later = refl
      by false is later = later is

pub batch_of_enough : (rows rest : List DigestRow) (sizes more : List ℕ) → length sizes ≡ length rows → (rest ≡ []) ⊎ ((most_rows ≤ length rows) ⊎ (most_bytes ≤ sum sizes)) → batch_from no_rows (rows ++ rest) (sizes ++ more) ≡ batch_from no_rows rows sizes
batch_of_enough rows rest sizes more same (inl none) = batch_from-append no_rows rows rest sizes more same refl (inl none)
batch_of_enough rows rest sizes more same (inr (inl many)) = batch_from-append no_rows rows rest sizes more same refl (inr (inl (omega arith)))
batch_of_enough rows rest sizes more same (inr (inr large)) = batch_from-append no_rows rows rest sizes more same refl (inr (inr (omega arith)))

-- ---- one row after another

-- the batch is this front, and then the batch of what is behind it
abbrev pub Cuts : List DigestRow → List ℕ → ℕ → BatchSize → Type 0
Cuts rows sizes i size = batch_from no_rows rows sizes ≡ take i rows ++ batch_from size (drop i rows) (drop i sizes)

split : (rows : List DigestRow) (sizes : List ℕ) (i : ℕ) (size : BatchSize) (row : DigestRow) (bytes : ℕ) → i < length rows → i < length sizes → get_or rows i row ≡ row → get_or sizes i 0 ≡ bytes → Cuts rows sizes i size
    → batch_from no_rows rows sizes ≡ take i rows ++ row ∷ cond (is_full (with_row size row.row bytes)) [] (batch_from (with_row size row.row bytes) (drop (i + 1) rows) (drop (i + 1) sizes))
split rows sizes i size row bytes in_rows in_sizes row_is bytes_is so_far =
    let one : suc i ≡ i + 1 = omega arith in
    let first : drop i rows ≡ row ∷ drop (i + 1) rows = drop-cons rows i row in_rows ∙ (λ k. row_is k ∷ drop (one k) rows) in
    let second : drop i sizes ≡ bytes ∷ drop (i + 1) sizes = drop-cons sizes i 0 in_sizes ∙ (λ k. bytes_is k ∷ drop (one k) sizes) in
    so_far ∙ ap (λ l. take i rows ++ batch_from size l (drop i sizes)) first ∙ ap (λ l. take i rows ++ batch_from size (row ∷ drop (i + 1) rows) l) second

one_more : (rows : List DigestRow) (i : ℕ) (row : DigestRow) → i < length rows → get_or rows i row ≡ row → take (i + 1) rows ≡ take i rows ++ row ∷ []
one_more rows i row within is = take_more rows i row within ∙ ap (λ r. take i rows ++ r ∷ []) is

pub cut_full : (rows : List DigestRow) (sizes : List ℕ) (i : ℕ) (size : BatchSize) (row : DigestRow) (bytes : ℕ) → i < length rows → i < length sizes → get_or rows i row ≡ row → get_or sizes i 0 ≡ bytes → Cuts rows sizes i size → is_full (with_row size row.row bytes) ≡ true
    → batch_from no_rows rows sizes ≡ take (i + 1) rows
cut_full rows sizes i size row bytes in_rows in_sizes row_is bytes_is so_far full =
    split rows sizes i size row bytes in_rows in_sizes row_is bytes_is so_far
    ∙ ap (λ b. take i rows ++ row ∷ cond b [] (batch_from (with_row size row.row bytes) (drop (i + 1) rows) (drop (i + 1) sizes))) full
    ∙ sym (one_more rows i row in_rows row_is)

pub cut_more : (rows : List DigestRow) (sizes : List ℕ) (i : ℕ) (size : BatchSize) (row : DigestRow) (bytes : ℕ) → i < length rows → i < length sizes → get_or rows i row ≡ row → get_or sizes i 0 ≡ bytes → Cuts rows sizes i size → is_full (with_row size row.row bytes) ≡ false
    → Cuts rows sizes (i + 1) (with_row size row.row bytes)
cut_more rows sizes i size row bytes in_rows in_sizes row_is bytes_is so_far room =
    split rows sizes i size row bytes in_rows in_sizes row_is bytes_is so_far
    ∙ ap (λ b. take i rows ++ row ∷ cond b [] (batch_from (with_row size row.row bytes) (drop (i + 1) rows) (drop (i + 1) sizes))) room
    ∙ sym (append_assoc (take i rows) (row ∷ []) (batch_from (with_row size row.row bytes) (drop (i + 1) rows) (drop (i + 1) sizes)))
    ∙ ap (λ l. l ++ batch_from (with_row size row.row bytes) (drop (i + 1) rows) (drop (i + 1) sizes)) (sym (one_more rows i row in_rows row_is))
