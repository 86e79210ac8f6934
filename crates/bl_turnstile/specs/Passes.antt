-- What contracts say of a pass, and of the one that is inside.
use Rattle.std.specs.Prelude.{◌≡◌, ℕ, List}
use Rattle.atomic_table.specs.Seated.{TableId}
use Rattle.bl_turnstile.specs.Entries.{Entries}
use Rattle.bl_turnstile.specs.Views.{seen_in, mine_in}
use Rattle.bl_turnstile.specs.declared.pass.Pass.{Pass}
use Rattle.bl_turnstile.specs.declared.inside.Inside.{Inside}
use Rattle.bl_turnstile.specs.declared.turnstile.Turnstile.{Turnstile}

-- the entries that its holder was told of
abbrev pub seen : Pass → Entries
seen pass = seen_in pass.badge.views

-- the numbers of those that its holder added
abbrev pub mine : Pass → List ℕ
mine pass = mine_in pass.badge.views

abbrev pub turnstile_of : Pass → TableId
turnstile_of pass = pass.badge.table_id

module _ {T : Type 0} where
  abbrev pub value_inside : Inside T → T
  value_inside it = it.value

  -- the entries for which the value stood at entering
  abbrev pub seen_inside : Inside T → Entries
  seen_inside it = it.pass.seat.me.0.seen

  abbrev pub mine_inside : Inside T → List ℕ
  mine_inside it = it.pass.seat.me.0.mine

  -- the pass comes from this turnstile
  abbrev pub IsPassOf : Turnstile T → Pass → Type 0
  IsPassOf turnstile pass = turnstile_of pass ≡ turnstile.table.shared.table_id

  -- it is inside this turnstile
  abbrev pub IsInside : Turnstile T → Inside T → Type 0
  IsInside turnstile it = it.pass.seat.table_id ≡ turnstile.table.shared.table_id
