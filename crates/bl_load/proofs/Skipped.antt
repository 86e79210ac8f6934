-- Records that are taken one after another.
use Rattle.std.specs.Prelude.{◌≡◌, ◌≤◌, ◌<◌, ℕ, ◌+◌, ◌-◌, List, [], ◌∷◌, drop, length, Some, None}
use Rattle.std.proofs.Common.{sym, ap, subst, ◌∙◌, arith}
use Rattle.std.proofs.lemmas.List.{drop-drop, length-drop}
use Rattle.bl_rows.specs.Contents.{Fields}
use Rattle.bl_rows.specs.RowReaders.{GivesRow, Stands}
use Rattle.bl_rows.specs.declared.row_reader.RowReader.{RowReader}
use Rattle.bl_rows.proofs.RowsLeft.{GaveRow, gave_row, none_left}

pub skipped_all : (all left : List Fields) (i : ℕ) (after : RowReader) → GivesRow all i (drop i left) after None → length left ≤ i
skipped_all all left i after gives =
    let none : drop i left ≡ [] = none_left all (drop i left) i after gives in
    let e : length left - i ≡ 0 = sym (length-drop i left) ∙ ap (λ l. length l) none in
    omega arith

pub skipped_more : (all left : List Fields) (i : ℕ) (after : RowReader) (fields : Fields) → GivesRow all i (drop i left) after (Some fields) → (i + 1 ≤ length left) × Stands after all (i + 1) (drop (i + 1) left)
skipped_more all left i after fields gives =
    let gave : GaveRow all (drop i left) i after fields = gave_row all (drop i left) i after fields gives in
    let count : length left - i ≡ length (fields ∷ gave.rest) = sym (length-drop i left) ∙ ap (λ l. length l) gave.is in
    let rest : gave.rest ≡ drop (i + 1) left = sym (ap (λ l. drop 1 l) gave.is) ∙ drop-drop 1 i left in
    (omega arith, subst (λ l. Stands after all (i + 1) l) rest gave.stands)
