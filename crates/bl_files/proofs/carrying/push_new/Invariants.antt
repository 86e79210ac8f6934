use Rattle.std.proofs.Common.{◌≡◌, ◌++◌, take, not, map, filter}
use Rattle.std.specs.Ordering.{nat_cmp}
use Rattle.std.specs.Cmp.Lexicographic.{slice_cmp}
use Rattle.std.specs.BTreeSet.{contains}
use Rattle.bl_files.specs.Carried.{new_feed}
use Rattle.bl_files.proofs.carrying.push_new.Given as goal

abbrev pub invariant-loop-file : goal.invariant-loop-file
invariant-loop-file l = l.feeds.items ≡ l.fn.feeds.items ++ map new_feed (filter (λ file. not (contains (slice_cmp nat_cmp) l.names file.name)) (take l.file-index l.file-items))
