use Rattle.std.proofs.Common.{◌≡◌, List, ℕ, take}
use Rattle.std.specs.Ordering.{nat_cmp}
use Rattle.std.specs.Cmp.Lexicographic.{slice_cmp}
use Rattle.std.specs.BTreeSet.{contains}
use Rattle.bl_files.specs.Collected.{has_kept}
use Rattle.bl_files.proofs.carrying.kept_names.Given as goal

abbrev pub invariant-loop-feed : goal.invariant-loop-feed
invariant-loop-feed l = (name : List ℕ) → contains (slice_cmp nat_cmp) l.names name ≡ has_kept (take l.feed-index l.feed-items) name
