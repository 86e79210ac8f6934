-- A list of one row.
use Rattle.std.specs.Prelude.{◌≡◌, List, [], ◌∷◌, ◌++◌}
use Rattle.std.proofs.Common.{sym, ap, subst, ◌∙◌}
use Rattle.std.proofs.lemmas.List.Elements.{All-nil, All-push}
use Rattle.bl_value.specs.ValidRows.{IsRow}
use Rattle.bl_value.specs.declared.row.DigestRow.{DigestRow}
use Rattle.bl_job.specs.Batched.{AreValidRows}

pub one_valid : (none all : List DigestRow) (row : DigestRow) → none ≡ [] → all ≡ none ++ row ∷ [] → IsRow row.row → AreValidRows all
one_valid none all row empty is valid =
    subst AreValidRows (sym (is ∙ ap (λ (l : List DigestRow). l ++ row ∷ []) empty)) (All-push (λ (r : DigestRow). IsRow r.row) [] row (All-nil (λ (r : DigestRow). IsRow r.row)) valid)
