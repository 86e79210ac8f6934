-- A column of ids alone is valid.
use Rattle.std.specs.Prelude.{◌≡◌, List, [], ◌∷◌, refl}
use Rattle.std.specs.List.{IsDistinct}
use Rattle.std.proofs.Common.{arith, subst}
use Rattle.std.proofs.lemmas.List.Elements.{All-nil, All-cons}
use Rattle.bl_value.specs.declared.column.Side.TheVariants.{Vertex}
use Rattle.bl_value.specs.declared.column.ColumnUse.{ColumnUse}
use Rattle.bl_value.specs.declared.column.ColumnUse.TheVariants.{Id}
use Rattle.bl_value.specs.ValidColumns.{IsColumnUse, IsColumns, is_same_use}

apart : IsDistinct is_same_use (Id ∷ [])
unfolding IsDistinct
apart = (tt, tt)

pub one_column : (uses : List ColumnUse) → Id ∷ [] ≡ uses → IsColumns (record { side = Vertex; uses = uses })
one_column uses is =
    subst (λ u. IsColumns (record { side = Vertex; uses = u })) is (record { each = All-cons (IsColumnUse Vertex) Id [] (tt {0}) (All-nil (IsColumnUse Vertex)); differ = apart; id = (0, omega arith, refl); ends = tt {0}; few = omega arith })
