-- A store that grows by entries made over the same files.
use Rattle.std.specs.Prelude.{List, ◌++◌}
use Rattle.bl_outside.specs.Folders.{Files}
use Rattle.bl_entry.specs.declared.entry.Entry.{Entry}
use Rattle.bl_world.specs.States.{Appends, AreNew, Fails, Grows, State}
use Rattle.bl_world.specs.Worlds.{World}
use Rattle.bl_chain.specs.Folders.{AreTablesOf}
use Rattle.bl_chain.specs.MadeEntries.{IsMade}

-- What has grown by calls grows by one more, done or not, and each earlier list of it has grown so too.
pub record GrowsByCalls (makes : World → Entry → Type 0) : Type 0 where
  pub appends : (from between to : State) → Grows makes from between → Appends makes between to → Grows makes from to
  pub fails : (from between to : State) → Grows makes from between → Fails makes between to → Grows makes from to
  pub earlier : (old later part : List Entry) → AreNew makes old (later ++ part) → AreNew makes old part

abbrev pub StoresGrow : Type 0
StoresGrow = (files : Files) → GrowsByCalls (IsMade (AreTablesOf files))
