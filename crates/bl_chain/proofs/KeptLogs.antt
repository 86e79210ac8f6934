-- The logs that stay, and files without how they stand.
use Rattle.std.specs.Prelude.{◌≡◌, ℕ, zero, suc, ◌+◌, ◌-◌, ◌≤◌, min, List, [], ◌∷◌, ◌++◌, map, drop, length, refl}
use Rattle.std.proofs.Common.{sym, ap, ◌∙◌, arith, length-append, length-drop}
use Rattle.std.proofs.lemmas.List.{drop-append-le, drop-drop}
use Rattle.bl_outside.specs.declared.digest.Digest.{Digest}
use Rattle.bl_files.specs.declared.feed.Feed.{Feed}
use Rattle.bl_files.specs.declared.log.Log.{Log}
use Rattle.bl_files.specs.ErrorFeed.{row_logs}
use Rattle.bl_queue.specs.Runs.{with_feed}
use Rattle.bl_queue.specs.Rows.{fed_feed, last_logs}
use Rattle.bl_chain.specs.Frontiers.{takens}
use Rattle.bl_chain.specs.Loads.{bare, counted}

-- ---- how many stay

kept_count : (feeds : List Feed) → length (row_logs (last_logs feeds)) ≡ min 10000 (length (row_logs feeds))
kept_count [] = refl
kept_count (feed ∷ feeds) =
    let behind : List Log = row_logs feeds in
    let cut : List Log = drop (length feed.logs - (10000 - length behind)) feed.logs in
    omega (arith, kept_count feeds, length-append cut (row_logs (last_logs feeds)), length-append feed.logs behind, length-drop (length feed.logs - (10000 - length behind)) feed.logs)

-- so many more where there is a file at the place
abbrev extra : ℕ → List Feed → ℕ → ℕ
extra zero [] more = 0
extra (suc place) [] more = 0
extra zero (feed ∷ feeds) more = more
extra (suc place) (feed ∷ feeds) more = extra place feeds more

extra_kept : (place : ℕ) (feeds : List Feed) (more : ℕ) → extra place (last_logs feeds) more ≡ extra place feeds more
extra_kept zero [] more = refl
extra_kept (suc place) [] more = refl
extra_kept zero (feed ∷ feeds) more = refl
extra_kept (suc place) (feed ∷ feeds) more = extra_kept place feeds more

module _ (rows : ℕ) (digest : Digest) (duplicates : ℕ) (logs : List Log) where
  abbrev add : Feed → Feed
  add feed = counted rows digest duplicates logs feed

  more_count : (place : ℕ) (feeds : List Feed) → length (row_logs (with_feed place add feeds)) ≡ length (row_logs feeds) + extra place feeds (length logs)
  more_count zero [] = refl
  more_count (suc place) [] = refl
  more_count zero (feed ∷ feeds) = omega (arith, length-append (feed.logs ++ logs) (row_logs feeds), length-append feed.logs logs, length-append feed.logs (row_logs feeds))
  more_count (suc place) (feed ∷ feeds) =
      omega (arith, length-append feed.logs (row_logs (with_feed place add feeds)), length-append feed.logs (row_logs feeds), more_count place feeds)

  -- ---- what was cut off may be cut off before

  cut_twice : (xs : List Log) (d e t : ℕ) → d + e ≡ t → drop e (drop d xs) ≡ drop t xs
  cut_twice xs d e t h = drop-drop e d xs ∙ ap (λ n. drop n xs) h

  cut_behind : (xs : List Log) (b c a : ℕ) → c ≡ min 10000 b → drop (length (drop (length xs - (10000 - b)) xs) - (10000 - (c + a))) (drop (length xs - (10000 - b)) xs) ≡ drop (length xs - (10000 - (b + a))) xs
  cut_behind xs b c a is =
      let d : ℕ = length xs - (10000 - b) in
      let left : length (drop d xs) ≡ length xs - d = length-drop d xs in
      cut_twice xs d (length (drop d xs) - (10000 - (c + a))) (length xs - (10000 - (b + a))) (omega arith)

  cut_here : (xs : List Log) (b c : ℕ) → c ≡ min 10000 b → drop (length (drop (length xs - (10000 - b)) xs ++ logs) - (10000 - c)) (drop (length xs - (10000 - b)) xs ++ logs) ≡ drop (length (xs ++ logs) - (10000 - b)) (xs ++ logs)
  cut_here xs b c is =
      let d : ℕ = length xs - (10000 - b) in
      let within : d ≤ length xs = omega arith in
      let all : drop d xs ++ logs ≡ drop d (xs ++ logs) = sym (drop-append-le d xs logs within) in
      let whole : length (xs ++ logs) ≡ length xs + length logs = length-append xs logs in
      let left : length (drop d (xs ++ logs)) ≡ length (xs ++ logs) - d = length-drop d (xs ++ logs) in
      ap (λ l. drop (length l - (10000 - c)) l) all
      ∙ cut_twice (xs ++ logs) d (length (drop d (xs ++ logs)) - (10000 - c)) (length (xs ++ logs) - (10000 - b)) (omega arith)

  with_logs : Feed → List Log → Feed
  with_logs feed l = record feed { logs = l }

  -- ---- the logs that stay do, also where some were cut off before

  pub kept_twice : (feeds : List Feed) → last_logs (last_logs feeds) ≡ last_logs feeds
  kept_twice [] = refl
  kept_twice (feed ∷ feeds) =
      let b : ℕ = length (row_logs feeds) in
      let c : ℕ = length (row_logs (last_logs feeds)) in
      let d : ℕ = length feed.logs - (10000 - b) in
      let is : c ≡ min 10000 b = kept_count feeds in
      let left : length (drop d feed.logs) ≡ length feed.logs - d = length-drop d feed.logs in
      λ i. (record feed { logs = cut_twice feed.logs d (length (drop d feed.logs) - (10000 - c)) d (omega arith) i }) ∷ kept_twice feeds i

  pub kept_again : (place : ℕ) (feeds : List Feed) → last_logs (with_feed place add (last_logs feeds)) ≡ last_logs (with_feed place add feeds)
  kept_again zero [] = refl
  kept_again (suc place) [] = refl
  kept_again zero (feed ∷ feeds) =
      λ i. (record (add feed) { logs = cut_here feed.logs (length (row_logs feeds)) (length (row_logs (last_logs feeds))) (kept_count feeds) i }) ∷ kept_twice feeds i
  kept_again (suc place) (feed ∷ feeds) =
      let b : ℕ = length (row_logs feeds) in
      let c : ℕ = length (row_logs (last_logs feeds)) in
      let a : ℕ = extra place feeds (length logs) in
      let one : length (row_logs (with_feed place add (last_logs feeds))) ≡ c + a = more_count place (last_logs feeds) ∙ ap (λ n. c + n) (extra_kept place feeds (length logs)) in
      let other : b + a ≡ length (row_logs (with_feed place add feeds)) = sym (more_count place feeds) in
      λ i. (record feed { logs = (ap (λ n. drop (length (drop (length feed.logs - (10000 - b)) feed.logs) - (10000 - n)) (drop (length feed.logs - (10000 - b)) feed.logs)) one ∙ cut_behind feed.logs b c a (kept_count feeds) ∙ ap (λ n. drop (length feed.logs - (10000 - n)) feed.logs) other) i }) ∷ kept_again place feeds i

-- ---- files without how they stand

bare_logs : (feeds : List Feed) → row_logs (map bare feeds) ≡ row_logs feeds
bare_logs [] = refl
bare_logs (feed ∷ feeds) = ap (λ l. feed.logs ++ l) (bare_logs feeds)

pub bare_kept : (feeds : List Feed) → map bare (last_logs feeds) ≡ last_logs (map bare feeds)
bare_kept [] = refl
bare_kept (feed ∷ feeds) =
    λ i. (record (bare feed) { logs = drop (length feed.logs - (10000 - length (sym (bare_logs feeds) i))) feed.logs }) ∷ bare_kept feeds i

pub bare_fed : (rows : ℕ) (digest : Digest) (duplicates : ℕ) (logs : List Log) (place : ℕ) (feeds : List Feed) → map bare (with_feed place (fed_feed rows digest duplicates logs) feeds) ≡ with_feed place (counted rows digest duplicates logs) (map bare feeds)
bare_fed rows digest duplicates logs zero [] = refl
bare_fed rows digest duplicates logs (suc place) [] = refl
bare_fed rows digest duplicates logs zero (feed ∷ feeds) = refl
bare_fed rows digest duplicates logs (suc place) (feed ∷ feeds) = ap (λ l. bare feed ∷ l) (bare_fed rows digest duplicates logs place feeds)

-- what rows of a file make of all files
pub bare_step : (rows : ℕ) (digest : Digest) (duplicates : ℕ) (logs : List Log) (place : ℕ) (feeds all : List Feed) → map bare feeds ≡ last_logs all →
    map bare (last_logs (with_feed place (fed_feed rows digest duplicates logs) feeds)) ≡ last_logs (with_feed place (counted rows digest duplicates logs) all)
bare_step rows digest duplicates logs place feeds all h =
    bare_kept (with_feed place (fed_feed rows digest duplicates logs) feeds) ∙ ap last_logs (bare_fed rows digest duplicates logs place feeds)
    ∙ ap (λ l. last_logs (with_feed place (counted rows digest duplicates logs) l)) h
    ∙ kept_again rows digest duplicates logs place all

pub takens_kept : (feeds : List Feed) → takens (last_logs feeds) ≡ takens feeds
takens_kept [] = refl
takens_kept (feed ∷ feeds) = ap (λ l. feed.taken ∷ l) (takens_kept feeds)
