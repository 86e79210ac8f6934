use Rattle.std.proofs.Common.{rules, ◌≡◌, ◌∙◌, sym, ap, arith}
use Rattle.bl_header.specs.Faults.{side_of}
use Rattle.bl_header.proofs.Refusals.{refused_seen, sound}
use Rattle.bl_header.proofs.ValidColumns.{valid_seen}
use Rattle.bl_header.proofs.header.read_header.Goals as goal

pub returns-in_err-uses-clause-value : goal.returns-in_err-uses-clause-value
returns-in_err-uses-clause-value c =
    let is = refused_seen c.side_of-side.result c.args.fields.now c.as_slice-fields.result.now c.in_err-uses.field-0.0 (c.side_of-side.ensures ∙ ap side_of c.as_slice-fields.ensures) c.as_slice-fields.ensures (omega arith) c.in_err-uses.ensures.err in
    search rules

pub returns-then-not-has_field-clause-value : goal.returns-then-not-has_field-clause-value
returns-then-not-has_field-clause-value c = search (rules, sound)

pub returns-then-has_field-clause-value : goal.returns-then-has_field-clause-value
returns-then-has_field-clause-value c = search (rules, sound)

pub returns-clause-value : goal.returns-clause-value
returns-clause-value c = search (rules, sound)

pub returns-clause-valid : goal.returns-clause-valid
returns-clause-valid c =
    let ends : c.has_field-2.result ≡ c.has_field-3.result = grind arith in
    valid_seen c.side_of-side.result c.args.fields.now c.as_slice-fields.result.now c.in_ok-uses.uses (c.side_of-side.ensures ∙ ap side_of c.as_slice-fields.ensures) c.as_slice-fields.ensures (omega arith) c.in_ok-uses.ensures.ok c.in_ok-uses.ensures.clean (sym c.has_field.ensures ∙ c.if-not-has_field.false) (sym c.has_field-2.ensures ∙ (ends ∙ c.has_field-3.ensures))
