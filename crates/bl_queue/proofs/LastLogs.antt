-- The last 10,000 logs of the files of a job.
use Rattle.std.specs.Prelude.{◌≡◌, ◌+◌, ◌-◌, ◌<◌, ◌≤◌, ℕ, List, [], ◌∷◌, ◌++◌, length, take, drop, refl}
use Rattle.std.proofs.Common.{sym, ap, ◌∙◌, arith, get_or, set, length-append, length-take, append_assoc}
use Rattle.std.proofs.lemmas.List.{take_all, drop_all, take_more, drop_more, set_at, append-nil, get_or_at}
use Rattle.std.proofs.Common.{inl, inr}
use Rattle.std.proofs.lemmas.Bool.{cases_lt}
use Rattle.std.proofs.lemmas.List.{drop-append-le, drop-drop, drop_at}
use Rattle.bl_files.specs.declared.feed.Feed.{Feed}
use Rattle.bl_files.specs.declared.log.Log.{Log}
use Rattle.bl_files.specs.ErrorFeed.{kept_row_logs, most_logs, row_logs}
use Rattle.bl_queue.specs.Rows.{last_logs}

abbrev pub kept_logs : ℕ → Feed → Feed
kept_logs room feed = record feed { logs = drop (length feed.logs - room) feed.logs }

-- the files from place on have the logs that stay, and there is room for so many more
pub record IsBehind (initial feeds : List Feed) (place room : ℕ) : Type 0 where
  pub within : place ≤ length initial
  pub done : feeds ≡ take place initial ++ last_logs (drop place initial)
  pub left : room ≡ most_logs - length (row_logs (drop place initial))

pub behind_none : (initial : List Feed) (place : ℕ) → place ≡ length initial → IsBehind initial initial place most_logs
behind_none initial place at =
    let past : length initial ≤ place = omega arith in
    let none : drop place initial ≡ [] = drop_all place initial past in
    record {
      within = omega arith;
      done = sym (ap (λ l. take place initial ++ last_logs l) none ∙ append-nil (take place initial) ∙ take_all place initial past);
      left = sym (ap (λ l. most_logs - length (row_logs l)) none);
    }

pub behind_at : (initial feeds : List Feed) (place room : ℕ) (d : Feed) → IsBehind initial feeds (place + 1) room → get_or feeds place d ≡ get_or initial place d
behind_at initial feeds place room d is =
    let within : place < length initial = omega (arith, is.within) in
    ap (λ l. get_or l place d) (is.done ∙ ap (λ l. l ++ last_logs (drop (place + 1) initial)) (take_more initial place d within) ∙ append_assoc (take place initial) (get_or initial place d ∷ []) (last_logs (drop (place + 1) initial)))
    ∙ get_or_at (take place initial) (get_or initial place d) (last_logs (drop (place + 1) initial)) d place (omega (arith, length-take place initial))

pub behind_more : (initial feeds : List Feed) (place room more : ℕ) (d new : Feed) → IsBehind initial feeds (place + 1) room → new ≡ kept_logs room (get_or initial place d) → more ≡ room - length (get_or initial place d).logs → IsBehind initial (set feeds place new) place more
behind_more initial feeds place room more d new is made less =
    let within : place < length initial = omega (arith, is.within) in
    let feed : Feed = get_or initial place d in
    let rest : drop place initial ≡ feed ∷ drop (place + 1) initial = drop_more initial place d within in
    let split : feeds ≡ take place initial ++ feed ∷ last_logs (drop (place + 1) initial) = is.done ∙ ap (λ l. l ++ last_logs (drop (place + 1) initial)) (take_more initial place d within) ∙ append_assoc (take place initial) (feed ∷ []) (last_logs (drop (place + 1) initial)) in
    record {
      within = omega arith;
      done = ap (λ l. set l place new) split ∙ set_at (take place initial) feed (last_logs (drop (place + 1) initial)) new place (omega (arith, length-take place initial))
          ∙ ap (λ x. take place initial ++ x ∷ last_logs (drop (place + 1) initial)) (made ∙ ap (λ r. kept_logs r feed) is.left) ∙ sym (ap (λ l. take place initial ++ last_logs l) rest);
      left = less ∙ ap (λ r. r - length feed.logs) is.left ∙ sums (length feed.logs) (length (row_logs (drop (place + 1) initial))) ∙ sym (ap (λ l. most_logs - length (row_logs l)) rest ∙ ap (λ n. most_logs - n) (length-append feed.logs (row_logs (drop (place + 1) initial))));
    } where
      sums : (a b : ℕ) → most_logs - b - a ≡ most_logs - (a + b)
      sums a b = omega arith

-- ---- the logs that stay are the last of all

kept_by : (xs ys : List Log) → drop (length xs - (most_logs - length ys)) xs ++ drop (length ys - most_logs) ys ≡ drop (length (xs ++ ys) - most_logs) (xs ++ ys)
kept_by xs ys =
    elim (cases_lt most_logs (length ys)) [
      | inl many ↦
          ap (λ l. l ++ drop (length ys - most_logs) ys) (drop_all (length xs - (most_logs - length ys)) xs (omega arith))
          ∙ sym (ap (λ n. drop n (xs ++ ys)) (let e : length (xs ++ ys) - most_logs ≡ length xs + (length ys - most_logs) = omega (arith, length-append xs ys) in e)
          ∙ sym (drop-drop (length ys - most_logs) (length xs) (xs ++ ys)) ∙ ap (λ l. drop (length ys - most_logs) l) (drop_at xs ys (length xs) refl))
      | inr few ↦
          ap (λ n. drop (length xs - (most_logs - length ys)) xs ++ drop n ys) (let e : length ys - most_logs ≡ 0 = omega arith in e)
          ∙ ap (λ n. drop n xs ++ ys) (let e : length xs - (most_logs - length ys) ≡ length (xs ++ ys) - most_logs = omega (arith, length-append xs ys) in e)
          ∙ sym (drop-append-le (length (xs ++ ys) - most_logs) xs ys (omega (arith, length-append xs ys)))
    ]

pub last_are_kept : (feeds : List Feed) → row_logs (last_logs feeds) ≡ kept_row_logs feeds
last_are_kept [] = refl
last_are_kept (feed ∷ feeds) =
    ap (λ l. drop (length feed.logs - (most_logs - length (row_logs feeds))) feed.logs ++ l) (last_are_kept feeds)
    ∙ kept_by feed.logs (row_logs feeds)
