-- The change stream of a world, and its pages.
use Rattle.std.specs.Prelude.{ℕ, nat_le, if◌then◌else◌, List, length, map, None, Some, Result, Ok, Err}
use Rattle.std.specs.declared.option.Option.{Option}
use Rattle.bl_change.specs.declared.event.Event.{Event}
use Rattle.bl_stream.specs.Slices.{Bounds, slice}
use Rattle.bl_stream.specs.declared.commit.Commit.{Commit}
use Rattle.bl_stream.specs.declared.page.Page.{Page}
use Rattle.bl_stream.specs.declared.page.PageRefusal.{PageRefusal}
use Rattle.bl_stream.specs.declared.page.PageRefusal.TheVariants as page
use Rattle.bl_stream.specs.declared.page_ask.PageAsk.{PageAsk}
use Rattle.bl_world.specs.Worlds.{World}
use Rattle.bl_world.specs.declared.job_commit.JobCommit.{JobCommit}
use Rattle.bl_engine.specs.declared.refusals.Trouble.{Trouble}
use Rattle.bl_engine.specs.declared.refusals.Trouble.TheVariants as trouble

-- a commit, without the job that made it
abbrev pub commit_from : JobCommit → Commit
commit_from commit = record { moment = commit.moment; changes = commit.changes }

-- the commits of a world
abbrev pub commits_of : World → List Commit
commits_of world = map commit_from world.commits

-- the numbers of the first and the newest
abbrev pub bounds_of : World → Bounds
bounds_of world = if nat_le 1 (length world.commits) then Some (1, length world.commits) else None

-- the events of the page that is asked for
abbrev pub page_of : World → PageAsk → List Event
page_of world ask = slice (bounds_of world) ask (commits_of world)

-- the trouble that a page answers
abbrev pub page_trouble : Result Page PageRefusal → Option Trouble
page_trouble (Ok page) = None
page_trouble (Err page.NoRecords) = None
page_trouble (Err page.StoreFault) = Some trouble.StoreFault
page_trouble (Err (page.BadStore place)) = Some (trouble.BadStore place)
page_trouble (Err page.NoMemory) = Some trouble.NoMemory
