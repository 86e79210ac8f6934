-- What a borrow of the value leaves behind.
use Rattle.std.specs.Borrow.{Lends, MutBor, Fml, RattleType}
use Rattle.bl_turnstile.specs.declared.inside.Inside.{Inside}
use Rattle.bl_turnstile.specs.contracts.inside.Inside.{the_row}

-- the value ends as the last one behind the result, and the pass stays
abbrev pub LendsValue : (T : RattleType) → MutBor (Inside T.Denot) → MutBor T.Denot → Fml
LendsValue T s r = Lends (the_row T) T s r (λ w. record { value = w; pass = s.now.pass })
