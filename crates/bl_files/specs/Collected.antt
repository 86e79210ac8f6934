-- The feeds of a new job as they are collected, before they are put in order.
use Rattle.std.specs.Prelude.{ℕ, nat_eq, Bool, ◌&&◌, not, List, ◌++◌, map, filter}
use Rattle.std.specs.List.{list_any}
use Rattle.std.specs.Cmp.Lexicographic.{pointwise}
use Rattle.bl_files.specs.declared.found.Found.{Found}
use Rattle.bl_files.specs.declared.feed.Feed.{Feed}
use Rattle.bl_files.specs.Carried.{is_kept, kept, new_feed}

-- a feed of this name is kept
abbrev pub has_kept : List Feed → List ℕ → Bool
has_kept previous name = list_any (λ feed. is_kept feed && pointwise nat_eq feed.name name) previous

abbrev pub kept_feeds : List Feed → List Feed
kept_feeds previous = map kept (filter is_kept previous)

abbrev pub new_files : List Feed → List Found → List Found
new_files previous found = filter (λ file. not (has_kept previous file.name)) found

-- the feeds that are kept, and then the new ones
abbrev pub collected : List Feed → List Found → List Feed
collected previous found = kept_feeds previous ++ map new_feed (new_files previous found)
