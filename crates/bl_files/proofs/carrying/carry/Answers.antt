use Rattle.std.proofs.Common.{◌≡◌, List, length, arith, sym, ◌∙◌, subst}
use Rattle.std.specs.List.Sorted.{IsPermutation}
use Rattle.std.proofs.lemmas.List.Sorted.{length_permutation}
use Rattle.bl_files.specs.declared.feed.Feed.{Feed}
use Rattle.bl_files.specs.Carried.{AreCarried}
use Rattle.bl_files.specs.Collected.{collected}
use Rattle.bl_files.proofs.CarriedFeeds.{carried_in_order, carried_there, feeds_again}
use Rattle.bl_files.proofs.CarriedNumbers.{number, same_feeds}
use Rattle.bl_files.proofs.carrying.carry.Goals as goal

pub returns-then-number-gt-MOST_FILES-clause-carries : goal.returns-then-number-gt-MOST_FILES-clause-carries
returns-then-number-gt-MOST_FILES-clause-carries c =
    let there : (feeds : List Feed) × AreCarried c.args.previous.now c.args.found.now feeds × (length feeds ≡ length (collected c.args.previous.now c.args.found.now)) = carried_there c.args.previous.now c.args.found.now c.requires.previous c.requires.found in
    (there.0, there.1, there.2 ∙ number c.args.previous.now c.args.found.now c.in_ok-names.names c.in_ok-names.ensures _ c.number_with-number.ensures, omega arith)

pub returns-clause-carries : goal.returns-clause-carries
returns-clause-carries c =
    let all = same_feeds c.args.previous.now c.args.found.now c.in_ok-names.names c.in_ok-names.ensures _ c.in_ok-collect.ensures in
    let same : IsPermutation (collected c.args.previous.now c.args.found.now) c.from_vec.result = subst (λ l. IsPermutation l c.from_vec.result) all (subst (IsPermutation c.in_ok-collect.field-0.items) (sym c.from_vec.ensures) c.in_ok-feeds.ensures.same) in (
      carried_in_order c.args.previous.now c.args.found.now c.requires.previous c.requires.found c.from_vec.result same (rw c.from_vec.ensures c.in_ok-feeds.ensures.sorted),
      omega (arith, length_permutation _ _ same, number c.args.previous.now c.args.found.now c.in_ok-names.names c.in_ok-names.ensures _ c.number_with-number.ensures),
    )

pub returns-clause-feeds : goal.returns-clause-feeds
returns-clause-feeds c =
    let all = same_feeds c.args.previous.now c.args.found.now c.in_ok-names.names c.in_ok-names.ensures _ c.in_ok-collect.ensures in
    let same : IsPermutation (collected c.args.previous.now c.args.found.now) c.from_vec.result = subst (λ l. IsPermutation l c.from_vec.result) all (subst (IsPermutation c.in_ok-collect.field-0.items) (sym c.from_vec.ensures) c.in_ok-feeds.ensures.same) in
    feeds_again c.args.previous.now c.args.found.now c.requires.previous c.requires.found c.from_vec.result same
