use Rattle.std.proofs.Common.{◌≡◌, All, sym, subst, arith, length, IfSome}
use Rattle.std.specs.List.{AllZip}
use Rattle.std.specs.List.Sorted.{IsPermutation}
use Rattle.std.proofs.lemmas.List.Sorted.{All-permutation, length_permutation}
use Rattle.bl_outside.specs.Texts.{IsShortText}
use Rattle.bl_load.specs.Finding.{AreNamesAt, AreRising, IsFoundAt}
use Rattle.bl_load.proofs.PlannedNames.{all_there, names_sorted, rising_sorted}
use Rattle.bl_load.proofs.planning.plan_names.Goals as goal

pub find_all-requires-clause-names : goal.find_all-requires-clause-names
find_all-requires-clause-names g c =
    let same = subst (λ l. IsPermutation l c.sort.new.self.items) c.into_vec-names.ensures c.in_ok-sort.ensures.permutation in
    subst (λ l. All IsShortText l) (sym c.as_slice.ensures.value) (All-permutation IsShortText c.args.names c.sort.new.self.items same c.requires.names.texts)

pub find_all-requires-clause-rising : goal.find_all-requires-clause-rising
find_all-requires-clause-rising g c =
    let same = subst (λ l. IsPermutation l c.sort.new.self.items) c.into_vec-names.ensures c.in_ok-sort.ensures.permutation in
    subst AreRising (sym c.as_slice.ensures.value) (rising_sorted c.args.names c.sort.new.self.items same c.in_ok-sort.ensures.sorted c.requires.names)

pub returns-in-Some-clause-told : goal.returns-in-Some-clause-told
returns-in-Some-clause-told g c = λ files told at.
    let path = c.args.source.now in
    let ys = c.as_slice.result.now in
    let same : IsPermutation c.args.names ys = subst (λ l. IsPermutation c.args.names l) (sym c.as_slice.ensures.value) (subst (λ l. IsPermutation l c.sort.new.self.items) c.into_vec-names.ensures c.in_ok-sort.ensures.permutation) in
    let here : AreNamesAt files path ys = names_sorted files path c.args.names ys same at in
    let many : length ys ≡ length c.args.names = length_permutation c.args.names ys same in (
      ys,
      record { are = here; rising = subst AreRising (sym c.as_slice.ensures.value) (rising_sorted c.args.names c.sort.new.self.items (subst (λ l. IsPermutation l c.sort.new.self.items) c.into_vec-names.ensures c.in_ok-sort.ensures.permutation) c.in_ok-sort.ensures.sorted c.requires.names) },
      omega (arith, c.len-number.ensures),
      subst (λ o. IfSome o (λ found. AllZip (IsFoundAt files path c.args.previous.now) ys found)) c.in-Some.is (c.in_ok-found.ensures.told files told (all_there files path ys here)),
    )
