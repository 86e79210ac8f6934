-- How the files of a load stand, beside what was found of them.
use Rattle.std.specs.Prelude.{◌≡◌, ℕ, ◌≤◌, true, false, List, [], ◌∷◌, map, take, length, None, ◌⊎◌}
use Rattle.std.specs.List.{AllZip}
use Rattle.bl_files.specs.declared.feed.Feed.{Feed}
use Rattle.bl_files.specs.Carried.{new_feed}
use Rattle.bl_files.specs.Statuses.{is_completed, is_open}
use Rattle.bl_queue.specs.Rows.{last_logs}
use Rattle.bl_world.specs.Makings.{digest_behind}
use Rattle.bl_chain.specs.Tables.{Table, is_unread}
use Rattle.bl_chain.specs.Loads.{Loaded, bare, lines}
use Rattle.bl_chain.specs.Frontiers.{IsWhole, shares, takens}
use Rattle.bl_chain.specs.Ends.{end_of, whole_end}

-- ---- what is taken of them

pub record IsFed (table : Table) (feed : Feed) : Type 0 where
  pub name : feed.name ≡ table.found.name
  pub kind : feed.kind ≡ table.found.kind
  pub enough : feed.taken ≤ length table.rows
  pub digest : feed.digest ≡ digest_behind table.found.digest (take feed.taken table.rows)
  -- without records it is as it was found
  pub fresh : feed.taken ≡ 0 → bare feed ≡ bare (new_feed table.found)
  -- a completed file is taken whole
  pub whole : is_completed feed.status ≡ true → IsWhole table feed

-- The files of a load, of whose lines so many are taken.
pub record AreFed (tables : List Table) (loaded : Loaded) (rows : ℕ) (feeds : List Feed) : Type 0 where
  pub within : rows ≤ length (lines tables)
  -- names, kinds, records, digests, counts and logs are those of the load
  pub counted : map bare feeds ≡ last_logs loaded.feeds
  pub shared : takens feeds ≡ shares tables rows
  pub each : AllZip IsFed tables feeds

-- Of a job that runs, each file that has ended is taken whole: a file that isn't read has no rows.
abbrev pub AreRun : List Table → List Feed → Type 0
AreRun tables feeds = AllZip (λ table feed. is_open feed.status ≡ false → IsWhole table feed) tables feeds

-- ---- the order in which they end

abbrev pub IsRested : Table → Feed → Type 0
IsRested table feed = end_of feed ≡ whole_end table

abbrev pub IsOpen : Table → Feed → Type 0
IsOpen table feed = (is_open feed.status ≡ true) × (feed.end_log ≡ None) × (is_unread table.found.kind ≡ false)

-- of a job that runs: files that have ended as in a whole load, and then open ones
abbrev pub Front : List Table → List Feed → Type 0
Front [] [] = Unit {0}
Front [] (f ∷ feeds) = ⊥
Front (t ∷ tables) [] = ⊥
Front (t ∷ tables) (f ∷ feeds) = (IsRested t f × Front tables feeds) ⊎ AllZip IsOpen (t ∷ tables) (f ∷ feeds)

-- none is completed
abbrev pub NoneDone : List Table → List Feed → Type 0
NoneDone tables feeds = AllZip (λ table feed. is_completed feed.status ≡ false) tables feeds

-- of any job: none is completed behind one that isn't, but for files that aren't read
abbrev pub Done : List Table → List Feed → Type 0
Done [] [] = Unit {0}
Done [] (f ∷ feeds) = ⊥
Done (t ∷ tables) [] = ⊥
Done (t ∷ tables) (f ∷ feeds) = (((is_unread t.found.kind ≡ true) ⊎ (is_completed f.status ≡ true)) × Done tables feeds) ⊎ NoneDone (t ∷ tables) (f ∷ feeds)
