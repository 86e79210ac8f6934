use Rattle.std.proofs.Common.{◌≡◌, ◌<◌, ◌+◌, ◌∙◌, ℕ, Some, List, [], ◌∷◌, ◌++◌, take, length, ap, sym, arith}
use Rattle.std.proofs.lemmas.List.{take_more}
use Rattle.csv.specs.Records.{field_at, fields_of}
use Rattle.csv.proofs.RecordFacts.{field-get, field-there}
use Rattle.bl_rows.proofs.records.fields_of_row.Goals as goal
use Rattle.bl_rows.proofs.records.fields_of_row.Goals.{in-Some+in_ok-copy_of+in_ok-push, in_default}

-- one more field
copied-more : (fields : List (List ℕ)) (i : ℕ) (field : List ℕ) → i < length fields → Some field ≡ field_at fields i
    → take (i + 1) fields ≡ take i fields ++ field ∷ []
copied-more fields i field lt at = take_more fields i [] lt ∙ ap (λ f. take i fields ++ f ∷ []) (field-get fields i field (sym at))

pub loop-index-preserved : goal.loop-index-preserved
loop-index-preserved c =
    let fields = fields_of c.args.row.now in
    let i = c.loop-index.index in
    let within : i < length fields = omega (arith, c.loop-index-test.true, c.len-index-end.ensures) in
    elim c.match-get.branch [
      | in-Some+in_ok-copy_of+in_ok-push w ↦
          cc (w.in_ok-push.ensures.items, w.in_ok-copy_of.ensures, copied-more fields i w.in-Some.field.now within w.in-Some.ensures.value)
      | in_default w ↦ absurd (field-there fields i within (sym w.in_default.ensures.value))
    ]
