use Rattle.std.proofs.Common.{rules, is_lt}
use Rattle.std.proofs.lemmas.List.Sorted.{ranks_by}
use Rattle.std.proofs.lemmas.Fn.{always_returns_same}
use Rattle.bl_files.specs.Carried.{feed_cmp}
use Rattle.bl_files.proofs.FeedOrder.{feed_cmp_total}
use Rattle.bl_files.proofs.carrying.in_order.Goals as goal

pub returns-clause-sorted : goal.returns-clause-sorted
returns-clause-sorted c = c.in_ok-sort_by.ensures.sorted (λ a b. is_lt (feed_cmp a b)) (ranks_by feed_cmp_total (λ x. x)) (always_returns_same _ _ _ (λ a r f k. search rules))
