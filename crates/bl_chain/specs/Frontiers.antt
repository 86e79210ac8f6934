-- How far a load of files has come.
use Rattle.std.specs.Prelude.{◌≡◌, ℕ, zero, suc, ◌+◌, ◌-◌, ◌≤◌, min, List, [], ◌∷◌, ◌++◌, map, take, drop, length}
use Rattle.bl_files.specs.declared.feed.Feed.{Feed}
use Rattle.bl_chain.specs.Tables.{Table}
use Rattle.bl_chain.specs.Loads.{lines_from, numbered}

abbrev pub takens : List Feed → List ℕ
takens feeds = map (λ feed. feed.taken) feeds

-- of the first so many lines, those of each file
abbrev pub shares : List Table → ℕ → List ℕ
shares [] rows = []
shares (table ∷ tables) rows = min rows (length table.rows) ∷ shares tables (rows - length table.rows)

-- all records of the file are taken
abbrev pub IsWhole : Table → Feed → Type 0
IsWhole table feed = feed.taken ≡ length table.rows

-- the file at this place, of those before which all records are taken
abbrev pub IsNextAt : List Table → List Feed → ℕ → Table → Feed → Type 0
IsNextAt [] [] place table feed = ⊥
IsNextAt [] (f ∷ feeds) place table feed = ⊥
IsNextAt (t ∷ tables) [] place table feed = ⊥
IsNextAt (t ∷ tables) (f ∷ feeds) zero table feed = (t ≡ table) × (f ≡ feed)
IsNextAt (t ∷ tables) (f ∷ feeds) (suc place) table feed = IsWhole t f × IsNextAt tables feeds place table feed

-- The next rows of the first file that isn't whole are the next lines.
abbrev pub NextRowsAreNextLines : Type 0
NextRowsAreNextLines =
    (first rows more place : ℕ) (tables : List Table) (feeds : List Feed) (table : Table) (feed : Feed)
    → takens feeds ≡ shares tables rows
    → IsNextAt tables feeds place table feed
    → 1 ≤ more
    → feed.taken + more ≤ length table.rows
    → take (rows + more) (lines_from first tables) ≡ take rows (lines_from first tables) ++ numbered (first + place) feed.taken (take more (drop feed.taken table.rows))
