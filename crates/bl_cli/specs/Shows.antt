-- What a command that shows something comes to, over an engine and over a store.
use Rattle.std.specs.Prelude.{◌≡◌, ◌⊎◌, ◌≤◌, ℕ, List, Ok, Err}
use Rattle.std.specs.declared.option.Option.{Option}
use Rattle.bl_outside.specs.Counts.{Rose}
use Rattle.bl_outside.specs.Sound.{IsSound}
use Rattle.bl_outside.specs.declared.disk.Disk.{Ghosts}
use Rattle.bl_outside.specs.declared.disks.Disks.{Disks}
use Rattle.bl_entry.specs.declared.entry.Entry.{Entry}
use Rattle.bl_world.specs.Worlds.{IsWorldOf, World}
use Rattle.bl_engine.specs.Calls.{Handles}
use Rattle.bl_engine.specs.Engines.{View}
use Rattle.bl_engine.specs.Images.{IsLeft}
use Rattle.bl_engine.specs.Openings.{IsTold, Judges}
use Rattle.bl_cli.specs.declared.command.Look.{Look}
use Rattle.bl_cli.specs.declared.status.Status.{Status}
use Rattle.bl_cli.specs.declared.status.Status.TheVariants as status
use Rattle.bl_cli.specs.Ends.{IsDone, IsNothing, IsOfShow, IsQuiet, MayHaveBegun}
use Rattle.bl_cli.specs.LoadFaults.{status_trouble}
use Rattle.bl_cli.specs.Printing.{Adds, AddsFront, Written}
use Rattle.bl_cli.specs.Shown.{told}
use Rattle.bl_cli.specs.Stores.{IsUntouched, LeadsTo, WasFound}

-- A text was written, or the sink failed in a front of it.
pub record PrintsText (before after : Option (List ℕ)) (was now : ℕ) (text : List ℕ) (end : Status) : Type 0 where
  pub printed : ((end ≡ status.Ok) × Written before after (Adds text)) ⊎ ((end ≡ status.WriteFault) × Rose was now × Written before after (AddsFront text))
  pub later : was ≤ now

-- ---- over an engine that is ready

-- What is told of a world, or a front of it, was added.
pub record PrintsTold (P : List ℕ → List ℕ → List ℕ → Type 0) (what : Look) (world : World) (before after : Option (List ℕ)) : Type 0 where
  pub text : List ℕ
  pub told_is : told what world ≡ Ok text
  pub prints : Written before after (P text)

pub record ShowsOver {D : Type 0} (of : Ghosts D) (what : Look) (old new : View D) (before after : Option (List ℕ)) (was now : ℕ) (end : Status) : Type 0 where
  pub done : IsDone end → PrintsTold Adds what old.world before after
  pub begun : MayHaveBegun end → (after ≡ before) ⊎ PrintsTold AddsFront what old.world before after
  pub quiet : IsQuiet end → after ≡ before
  pub nothing : IsNothing end → told what old.world ≡ Err end
  pub ends : IsOfShow end
  pub write_fault : end ≡ status.WriteFault → Rose was now
  pub same : new ≡ old
  pub handles : Handles of old new (status_trouble end)
  pub later : was ≤ now

-- ---- over a store

-- What is told of the world that was found, or a front of it, was added. The store still leads to
-- this world.
pub record PrintsShown {D : Type 0} (P : List ℕ → List ℕ → List ℕ → Type 0) (of : Ghosts D) (what : Look) (old new : Disks D) (before after : Option (List ℕ)) : Type 0 where
  pub world : World
  pub found : WasFound of old world
  pub prints : PrintsTold P what world before after
  pub leads : (entries : List Entry) × IsWorldOf entries world
  pub stands : IsSound of old.journal → LeadsTo of new world

-- In the world that was found there is nothing to be shown, as the status says.
abbrev pub HasNothing : {D : Type 0} → Ghosts D → Look → Disks D → Status → Type 0
HasNothing of what disks end = (world : World) × WasFound of disks world × (told what world ≡ Err end)

pub record ShowRuns {D : Type 0} (of : Ghosts D) (what : Look) (old new : Disks D) (before after : Option (List ℕ)) (was now : ℕ) (end : Status) : Type 0 where
  pub done : IsDone end → PrintsShown Adds of what old new before after
  pub begun : MayHaveBegun end → (after ≡ before) ⊎ PrintsShown AddsFront of what old new before after
  pub quiet : IsQuiet end → after ≡ before
  pub nothing : IsNothing end → HasNothing of what old end
  pub ends : IsOfShow end
  pub write_fault : end ≡ status.WriteFault → Rose was now
  pub store_fault : end ≡ status.StoreFault → Rose (of.faults old.journal) (of.faults new.journal)
  pub bad_store : (place : ℕ) → end ≡ status.BadStore place → IsTold of old.journal → Judges (of.seen old.journal) (Err place)
  pub untouched : IsSound of old.journal → IsUntouched of old new
  pub left : IsLeft of old → IsLeft of new
  pub slots : (new.left ≡ old.left) × (new.right ≡ old.right)
