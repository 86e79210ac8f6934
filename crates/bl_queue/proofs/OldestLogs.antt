-- The first logs of the files of a job, as many as there are too many of.
use Rattle.std.specs.Prelude.{◌≡◌, ◌+◌, ◌-◌, ◌<◌, ◌≤◌, ℕ, min, List, [], ◌∷◌, ◌++◌, length, take, drop, refl}
use Rattle.std.proofs.Common.{sym, ap, ◌∙◌, arith, get_or, set, suc, zero, inl, inr, append_assoc, add-one, length-append, length-drop}
use Rattle.std.proofs.Math.Seq.{take-suc-set}
use Rattle.std.proofs.lemmas.Bool.{cases_lt}
use Rattle.std.proofs.lemmas.List.{append-nil, drop_all, drop_more, drop-set-lt, take_all, take-append-drop}
use Rattle.bl_files.specs.declared.feed.Feed.{Feed}
use Rattle.bl_files.specs.declared.log.Log.{Log}
use Rattle.bl_files.specs.ErrorFeed.{most_logs, row_logs}
use Rattle.bl_queue.specs.Rows.{last_logs, without_first}
use Rattle.bl_queue.specs.Runs.{with_feed}
use Rattle.bl_queue.specs.Taking.{HaveLogs}
use Rattle.bl_queue.proofs.LastLogs.{last_are_kept}

pub none_first : (feeds : List Feed) → without_first 0 feeds ≡ feeds
none_first [] = refl
none_first (feed ∷ feeds) = ap (λ n. feed ∷ without_first n feeds) (let e : 0 - length feed.logs ≡ 0 = omega arith in e) ∙ ap (λ l. feed ∷ l) (none_first feeds)

-- the last logs are those without the first
pub last_is_first : (feeds : List Feed) → last_logs feeds ≡ without_first (length (row_logs feeds) - most_logs) feeds
last_is_first [] = refl
last_is_first (feed ∷ feeds) =
    let rest : ℕ = length (row_logs feeds) in
    let all : length (row_logs (feed ∷ feeds)) ≡ length feed.logs + rest = length-append feed.logs (row_logs feeds) in
    let n : ℕ = length (row_logs (feed ∷ feeds)) - most_logs in
    let head : drop (length feed.logs - (most_logs - rest)) feed.logs ≡ drop n feed.logs =
    elim (cases_lt most_logs rest) [
      | inl many ↦ drop_all (length feed.logs - (most_logs - rest)) feed.logs (omega arith) ∙ sym (drop_all n feed.logs (omega (arith, all)))
      | inr few ↦ ap (λ k. drop k feed.logs) (let e : length feed.logs - (most_logs - rest) ≡ n = omega (arith, all) in e)
    ] in
    ap (λ l. record feed { logs = l } ∷ last_logs feeds) head
    ∙ ap (λ l. record feed { logs = drop n feed.logs } ∷ l) (last_is_first feeds ∙ ap (λ k. without_first k feeds) (let e : rest - most_logs ≡ n - length feed.logs = omega (arith, all) in e))

pub logs_left : (feeds : List Feed) → length (row_logs (last_logs feeds)) ≡ min (length (row_logs feeds)) most_logs
logs_left feeds = ap length (last_are_kept feeds) ∙ (let e : length (drop (length (row_logs feeds) - most_logs) (row_logs feeds)) ≡ min (length (row_logs feeds)) most_logs = omega (arith, length-drop (length (row_logs feeds) - most_logs) (row_logs feeds)) in e)

-- where there are few, all stay
pub few_stay : (feeds : List Feed) (number : ℕ) → length (row_logs feeds) ≡ number → number ≤ most_logs → feeds ≡ last_logs feeds
few_stay feeds number are few = sym (last_is_first feeds ∙ ap (λ k. without_first k feeds) (let e : length (row_logs feeds) - most_logs ≡ 0 = omega arith in e) ∙ none_first feeds)

pub many_go : (feeds new : List Feed) (number : ℕ) → length (row_logs feeds) ≡ number → new ≡ without_first (number - most_logs) feeds → new ≡ last_logs feeds
many_go feeds new number are is = is ∙ ap (λ k. without_first (k - most_logs) feeds) (sym are) ∙ sym (last_is_first feeds)

-- so many are left
pub left_logs : (feeds new : List Feed) (number : ℕ) → number ≡ min (length (row_logs feeds)) most_logs → new ≡ last_logs feeds → HaveLogs new number
left_logs feeds new number is made = record {
  few = omega arith;
  are = ap (λ l. length (row_logs l)) made ∙ logs_left feeds ∙ sym is;
}

pub drop_least : (number : ℕ) (logs : List Log) → drop (min number (length logs)) logs ≡ drop number logs
drop_least number logs =
    elim (cases_lt number (length logs)) [
      | inl fewer ↦ ap (λ k. drop k logs) (let e : min number (length logs) ≡ number = omega arith in e)
      | inr more ↦ drop_all (min number (length logs)) logs (omega arith) ∙ sym (drop_all number logs (omega arith))
    ]

-- ---- file by file

-- what is done, and then the rest without its first logs, is all without its first logs
pub record IsDropping (initial feeds : List Feed) (number place left : ℕ) : Type 0 where
  pub so_far : take place feeds ++ without_first left (drop place feeds) ≡ without_first number initial

pub dropping_more : (initial feeds : List Feed) (number place left more : ℕ) (d new : Feed) → place < length feeds → IsDropping initial feeds number place left → new ≡ record (get_or feeds place d) { logs = drop left (get_or feeds place d).logs } → more ≡ left - length (get_or feeds place d).logs → IsDropping initial (set feeds place new) number (place + 1) more
dropping_more initial feeds number place left more d new within is made less = record {
  so_far =
      ap (λ l. l ++ without_first more (drop (place + 1) (set feeds place new))) (ap (λ k. take k (set feeds place new)) (add-one place) ∙ take-suc-set feeds place new within)
      ∙ ap (λ l. (take place feeds ++ new ∷ []) ++ without_first more l) (drop-set-lt (place + 1) feeds place new (omega arith))
      ∙ append_assoc (take place feeds) (new ∷ []) (without_first more (drop (place + 1) feeds))
      ∙ ap (λ x. take place feeds ++ x ∷ without_first more (drop (place + 1) feeds)) made
      ∙ ap (λ k. take place feeds ++ record (get_or feeds place d) { logs = drop left (get_or feeds place d).logs } ∷ without_first k (drop (place + 1) feeds)) less
      ∙ sym (ap (λ l. take place feeds ++ without_first left l) (drop_more feeds place d within))
      ∙ is.so_far;
}

pub dropped_none : (initial feeds : List Feed) (number place left : ℕ) → left ≡ 0 → IsDropping initial feeds number place left → feeds ≡ without_first number initial
dropped_none initial feeds number place left none is =
    sym (take-append-drop place feeds) ∙ sym (ap (λ l. take place feeds ++ l) (ap (λ k. without_first k (drop place feeds)) none ∙ none_first (drop place feeds))) ∙ is.so_far

pub dropped_all : (initial feeds : List Feed) (number place left : ℕ) → length feeds ≤ place → IsDropping initial feeds number place left → feeds ≡ without_first number initial
dropped_all initial feeds number place left past is =
    sym (ap (λ l. take place feeds ++ without_first left l) (drop_all place feeds past) ∙ append-nil (take place feeds) ∙ take_all place feeds past) ∙ is.so_far

-- ---- rows of one file

pub more_logs : (change : Feed → Feed) (logs : List Log) → ((feed : Feed) → (change feed).logs ≡ feed.logs ++ logs) → (place : ℕ) (feeds : List Feed) → place < length feeds → length (row_logs (with_feed place change feeds)) ≡ length (row_logs feeds) + length logs
more_logs change logs adds place [] within = absurd (omega arith)
more_logs change logs adds zero (feed ∷ feeds) within =
    omega (arith, length-append (change feed).logs (row_logs feeds), length-append feed.logs (row_logs feeds), length-append feed.logs logs, ap length (adds feed))
more_logs change logs adds (suc place) (feed ∷ feeds) within =
    omega (arith, length-append feed.logs (row_logs (with_feed place change feeds)), length-append feed.logs (row_logs feeds), more_logs change logs adds place feeds (omega arith))
