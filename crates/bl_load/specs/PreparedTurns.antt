-- What is prepared for a task becomes the entry of a turn.
use Rattle.std.specs.Prelude.{◌≡◌, ℕ, false, List}
use Rattle.std.specs.List.{All}
use Rattle.bl_outside.specs.Folders.{Files}
use Rattle.bl_entry.specs.declared.entry.Entry.{Entry}
use Rattle.bl_entry.specs.Valid.{IsEntry}
use Rattle.bl_world.specs.Worlds.{IsWorldOf, World}
use Rattle.bl_world.specs.Works.{task_of, work_of}
use Rattle.bl_chain.specs.Folders.{AreTablesOf}
use Rattle.bl_chain.specs.MadeEntries.{IsMade}
use Rattle.bl_chain.specs.NextEntries.{IsTurn}
use Rattle.bl_load.specs.declared.prepared.Prepared.{Prepared}
use Rattle.bl_load.specs.Committing.{PreparedEntry}
use Rattle.bl_load.specs.Prepares.{Prepares, is_fault}
use Rattle.bl_load.specs.Tasks.{IsTask}

-- What the loader is told in a world has all that its work needs.
abbrev pub TasksAreTasks : Type 0
TasksAreTasks = (entries : List Entry) (world : World) → IsWorldOf entries world → IsTask (task_of world.kept.jobs)

-- The entry of what is prepared for the task of a world of valid entries is made over the files.
abbrev pub PreparedAreMade : Type 0
PreparedAreMade =
    (files : Files) (entries : List Entry) (before : World) (now : ℕ) (prepared : Prepared) (entry : Entry)
    → All IsEntry entries
    → IsWorldOf entries before
    → Prepares files (task_of before.kept.jobs) prepared
    → PreparedEntry (work_of before.kept.jobs) prepared now before entry
    → IsMade (AreTablesOf files) before entry

-- Where the folder didn't fail it is the entry of a turn.
abbrev pub PreparedAreTurns : Type 0
PreparedAreTurns =
    (files : Files) (entries : List Entry) (before : World) (now : ℕ) (prepared : Prepared) (entry : Entry)
    → All IsEntry entries
    → IsWorldOf entries before
    → Prepares files (task_of before.kept.jobs) prepared
    → is_fault prepared ≡ false
    → PreparedEntry (work_of before.kept.jobs) prepared now before entry
    → IsTurn (AreTablesOf files) before now entry
