use Rattle.std.specs.Str.Parse.{signed_digits_value}
use Rattle.bl_value.specs.declared.value.Value.TheVariants.{Long}
use Rattle.bl_value.proofs.Integers.{numeral, out_of_range, refused}
use Rattle.bl_value.proofs.integer.read_long.Goals as goal

pub returns-in-Err-clause-value : goal.returns-in-Err-clause-value
returns-in-Err-clause-value c =
    let text = c.args.text.now in
    let is = c.in_ok-integer_text.ensures.integer in
    let bad = rw c.in_ok-integer_text.ensures.value at c.in-Err.ensures.value in
    refused 64 Long text is (out_of_range 9223372036854775807 (signed_digits_value 10 text) (λ small. bad.0 (numeral text is, record { sfits = small })))
