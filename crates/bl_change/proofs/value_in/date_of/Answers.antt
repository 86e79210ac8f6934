use Rattle.std.proofs.Common.{inl, inr}
use Rattle.bl_change.proofs.Dates.{date_cell}
use Rattle.bl_change.proofs.value_in.date_of.Goals as goal

pub returns-in-Ok-clause-found : goal.returns-in-Ok-clause-found
returns-in-Ok-clause-found c =
    λ value is.
    let read = c.in-Ok.ensures.value in
    let found = date_cell c.args.text.now value is in
    cc (read, found)

pub returns-in_default : goal.returns-in_default
returns-in_default c = record {
  valid = tt;
  found = λ value is.
      let found = date_cell c.args.text.now value is in
      elim c.in-Err.ensures.refusal [ inl memory ↦ c.in_default.not-NoMemory memory | inr none ↦ cc (found, none) ];
}
