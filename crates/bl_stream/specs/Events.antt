-- The events of a list of commits.
use Rattle.std.specs.Prelude.{◌⊎◌, ◌≡◌, ℕ, ◌+◌, ◌<◌, Bool, true, false, List, [], ◌∷◌, ◌++◌}
use Rattle.bl_value.specs.declared.change.Change.{Change}
use Rattle.bl_change.specs.declared.event.Event.{Event}
use Rattle.bl_stream.specs.declared.commit.Commit.{Commit}

abbrev pub is_end : List Change → Bool
is_end [] = true
is_end (change ∷ more) = false

-- the events of one commit from an operation on, numbered, the last one marked
abbrev pub events_of : ℕ → ℕ → ℕ → List Change → List Event
events_of commit op moment [] = []
events_of commit op moment (change ∷ more) =
    record { commit = commit; op = op; moment = moment; last = is_end more; change = change } ∷ events_of commit (op + 1) moment more

-- those of a commit with this number, whose operations are numbered from 1
abbrev pub commit_events : ℕ → Commit → List Event
commit_events number commit = events_of number 1 commit.moment commit.changes

-- those of commits, the first of which has this number
abbrev pub events_from : ℕ → List Commit → List Event
events_from number [] = []
events_from number (commit ∷ more) = commit_events number commit ++ events_from (number + 1) more

-- all events of commits that are numbered from 1
abbrev pub events : List Commit → List Event
events commits = events_from 1 commits

-- The pairs of commit and operation rise strictly, the first from above this one.
abbrev pub RisesAbove : ℕ → ℕ → List Event → Type 0
RisesAbove commit op [] = Unit {0}
RisesAbove commit op (event ∷ more) =
    ((commit < event.commit) ⊎ ((commit ≡ event.commit) × (op < event.op))) × RisesAbove event.commit event.op more
