-- What is held of numbers and of values, while they are few and when they are many.
use Rattle.std.specs.Prelude.{ℕ, List}
use Rattle.bl_graph.specs.declared.numbers.HeldNumbers.{HeldNumbers}
use Rattle.bl_graph.specs.declared.numbers.HeldNumbers.TheVariants.{Few as FewNumbers, Many as ManyNumbers}
use Rattle.bl_graph.specs.declared.numbered_values.HeldValues.{HeldValues}
use Rattle.bl_graph.specs.declared.numbered_values.HeldValues.TheVariants.{Few, Many}
use Rattle.bl_outside.specs.OrderedSet as set
use Rattle.bl_graph.specs.Graph.{Values}
use Rattle.bl_graph.specs.Numbered.{ByNumber, nested, AreOnce}

abbrev pub numbers_of : HeldNumbers → List ℕ
numbers_of (FewNumbers few) = few.items
numbers_of (ManyNumbers many) = many.keys

abbrev pub values_of : HeldValues → ByNumber Values
values_of (Few few) = nested few.items
values_of (Many many) = many

-- of the few none stands there twice
abbrev pub AreHeldOnce : HeldValues → Type 0
AreHeldOnce (Few few) = AreOnce few.items
AreHeldOnce (Many many) = Unit {0}

-- a set of numbers
abbrev pub numbers_in : List ℕ → ByNumber (Unit {0})
numbers_in numbers = set.from_list numbers
