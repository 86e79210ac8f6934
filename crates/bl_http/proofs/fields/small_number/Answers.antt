use Rattle.std.proofs.Common.{◌≡◌, ◌∙◌, ◌+◌, ◌*◌, ◌-◌, ℕ, List, sym, arith, get_or, drop}
use Rattle.std.proofs.lemmas.List.{at_drop_all, at_drop_more}
use Rattle.std.specs.Str.Parse.{digits_value}
use Rattle.bl_http.proofs.FieldLemmas.{digits_value-number, number_after, number_after-larger}
use Rattle.bl_http.proofs.fields.small_number.Goals as goal

pub returns-then-number-gt-BODY_LIMIT : goal.returns-then-number-gt-BODY_LIMIT
returns-then-number-gt-BODY_LIMIT c =
    let digits = c.args.digits.now in
    let i = c.loop-digit.digit-index in
    let n = c.loop-digit.number * 10 + (get_or digits i 0 - 48) in
    let step : number_after c.loop-digit.number (drop i digits) ≡ number_after n (drop (i + 1) digits) =
    at_drop_more (λ (ds : List ℕ). number_after c.loop-digit.number ds) digits i 0 c.loop-digit-test.true in
    λ tested small. omega (
      arith,
      small,
      step,
      c.loop-digit.invariant.same,
      digits_value-number digits 0 tested,
      number_after-larger n (drop (i + 1) digits),
      c.if-number-gt-BODY_LIMIT.true,
      c.saturating_sub.ensures,
    )

pub returns : goal.returns
returns c =
    let digits = c.args.digits.now in
    let done : number_after c.loop-digit.number (drop c.loop-digit.digit-index digits) ≡ c.loop-digit.number =
    at_drop_all (λ (ds : List ℕ). number_after c.loop-digit.number ds) digits c.loop-digit.digit-index c.loop-digit-test.false in
    λ tested.
    let same : c.loop-digit.number ≡ digits_value 10 digits = sym done ∙ c.loop-digit.invariant.same ∙ sym (digits_value-number digits 0 tested) in
    (omega (arith, same, c.loop-digit.invariant.small), same)
