-- Values, each once.
use Rattle.std.proofs.Common.{◌≡◌, List, [], refl, subst}
use Rattle.std.specs.Prelude.{Ok, Err}
use Rattle.std.specs.declared.result.Result.{Result}
use Rattle.std.specs.declared.cmp.Ordering.{Ordering}
use Rattle.std.specs.List.{IsDistinct}
use Rattle.std.specs.Cmp.{IsEquivalence, IsTotalOrder}
use Rattle.std.specs.Ordering.{eq_by_cmp}
use Rattle.std.proofs.lemmas.Cmp.{eq_by_cmp_equiv}
use Rattle.bl_value.specs.Cells.{each_once}
use Rattle.bl_value.specs.Once.{once_behind}
use Rattle.bl_value.specs.Order.{value_cmp}
use Rattle.bl_value.specs.declared.cell.CellRefusal.{CellRefusal}
use Rattle.bl_value.specs.declared.value.Value.{Value}
use Rattle.bl_value.specs.declared.value.Value.TheVariants.{Bool, Byte, Short, Int, Long, Str, Date}
use Rattle.bl_value.specs.contracts.value.ValueOrd.TheImpl.{cmp-value}
use Rattle.bl_value.specs.contracts.value.ValueOrd.TheImpl.Laws.{total-law}
use Rattle.bl_value.proofs.Repeats.{none_apart, once_apart}

-- the order of values that the derived impl has
abbrev pub derived : Value → Value → Ordering
derived = cmp-value.it

answers : (a b : Value) → derived a b ≡ value_cmp a b
answers (Bool a) (Bool b) = refl
answers (Byte a) (Byte b) = refl
answers (Short a) (Short b) = refl
answers (Int a) (Int b) = refl
answers (Long a) (Long b) = refl
answers (Str a) (Str b) = refl
answers (Date a) (Date b) = refl
answers a b = refl

pub same_order : derived ≡ value_cmp
same_order = λ i a b. answers a b i

pub values_equiv : IsEquivalence (eq_by_cmp value_cmp)
values_equiv = eq_by_cmp_equiv (subst IsTotalOrder same_order total-law)

pub values_apart : (values : List Value) → IsDistinct (eq_by_cmp value_cmp) (once_behind (eq_by_cmp value_cmp) [] values)
values_apart values = once_apart (eq_by_cmp value_cmp) values_equiv [] values (none_apart (eq_by_cmp value_cmp))

-- values that were read differ
pub read_apart : (found : Result (List Value) CellRefusal) (values : List Value) → each_once found ≡ Ok values → IsDistinct (eq_by_cmp value_cmp) values
read_apart (Ok all) values is =
    let same : once_behind (eq_by_cmp value_cmp) [] all ≡ values = cc in
    subst (IsDistinct (eq_by_cmp value_cmp)) same (values_apart all)
read_apart (Err refusal) values is = absurd cc
