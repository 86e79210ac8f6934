-- What the loader may be told of its work.
use Rattle.std.specs.Prelude.{◌≡◌, false, IsSome, IsSomeAnd}
use Rattle.bl_files.specs.Carried.{AreFeeds}
use Rattle.bl_chain.specs.Tables.{is_unread}
use Rattle.bl_world.specs.declared.task.Task.{Task}
use Rattle.bl_world.specs.declared.work.Work.{Work}
use Rattle.bl_world.specs.declared.work.Work.TheVariants.{Idle, Plan, Continue}

-- What the work needs is there: the request, the files of the load that a plan goes on with, the file that goes on.
abbrev pub HasParts : Work → Task → Type 0
HasParts Idle task = Unit {0}
HasParts (Plan job previous no_previous) task = IsSome task.request × AreFeeds task.previous × (task.no_previous ≡ no_previous)
HasParts (Continue job feed from) task = IsSome task.request × IsSomeAnd task.feed (λ of. (of.taken ≡ from) × (is_unread of.kind ≡ false))

abbrev pub IsTask : Task → Type 0
IsTask task = HasParts task.work task
