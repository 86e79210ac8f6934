-- What a reader of commits answers.
use Rattle.std.specs.Prelude.{◌≡◌, ℕ, ◌-◌, ◌≤◌, ◌<◌, ◌^◌, List, length, slice_get, None, Some}
use Rattle.std.specs.declared.option.Option.{Option}
use Rattle.std.specs.List.{All}
use Rattle.bl_outside.specs.Counts.{Rose}
use Rattle.bl_value.specs.Valid.{IsChange}
use Rattle.bl_stream.specs.declared.commit.Commit.{Commit}
use Rattle.bl_stream.specs.declared.commit_fault.CommitFault.{CommitFault}
use Rattle.bl_stream.specs.declared.commit_fault.CommitFault.TheVariants.{StoreFault, BadStore, NoMemory}

-- A commit has one change or more, and its parts are in their ranges.
pub record IsCommit (commit : Commit) : Type 0 where
  pub moment : commit.moment < 2 ^ 64
  pub some : 1 ≤ length commit.changes
  pub changes : All IsChange commit.changes

-- Where the commits are told, this is the number of one of them.
abbrev pub IsTold : Option (List Commit) → ℕ → Type 0
IsTold None number = Unit {0}
IsTold (Some commits) number = (1 ≤ number) × (number ≤ length commits)

-- where they are told, this is the commit of that number
abbrev pub Gives : Option (List Commit) → ℕ → Commit → Type 0
Gives None number commit = Unit {0}
Gives (Some commits) number commit = slice_get commits (number - 1) ≡ Some commit

-- The count rose where the store is at fault.
abbrev pub IsCause : ℕ → ℕ → CommitFault → Type 0
IsCause before now StoreFault = Rose before now
IsCause before now (BadStore place) = Rose before now
IsCause before now NoMemory = Unit {0}
