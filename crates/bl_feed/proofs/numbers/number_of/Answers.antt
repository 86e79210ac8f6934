use Rattle.std.proofs.Common.{◌≡◌, ◌<◌, ◌^◌, sym, subst, List, ℕ}
use Rattle.std.specs.Str.Parse.{IsNumeral, digits_value, without_leading_plus}
use Rattle.bl_feed.proofs.ReadNumbers.{plain}
use Rattle.bl_feed.proofs.numbers.number_of.Goals as goal

pub returns-in_default : goal.returns-in_default
returns-in_default c = λ tested small. c.in_default.ensures.cases.0 (plain c.args.digits.now tested).utf8

pub returns-in-Err : goal.returns-in-Err
returns-in-Err c = λ tested small.
    let p = plain c.args.digits.now tested in
    let bad = rw c.in-Ok.ensures.cases.0 at c.in-Err.ensures.value in
    bad.0 (p.numeral, subst (λ (t : List ℕ). digits_value 10 t < 2 ^ 64) (sym p.same) small)
