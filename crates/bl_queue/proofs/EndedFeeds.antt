-- What the files of a job keep when some of them end.
use Rattle.std.specs.Prelude.{◌≡◌, ◌<◌, ℕ, Bool, true, false, List, [], ◌∷◌, length, slice_get, refl, All, IsSomeAnd}
use Rattle.std.specs.declared.option.Option.{Option}
use Rattle.std.proofs.Common.{sym, ap, subst, ◌∙◌, arith, inl, inr, get_or, suc, zero, ◌⊎◌}
use Rattle.std.specs.List.{AllZip, list_any}
use Rattle.std.proofs.lemmas.Bool.{true≢false, cond_both}
use Rattle.std.proofs.lemmas.List.Elements.{All-cons, All-head, All-map, All-nil, All-tail}
use Rattle.std.proofs.lemmas.List.Folds.{list_any_none, list_any_at}
use Rattle.bl_files.specs.declared.feed.Feed.{Feed}
use Rattle.bl_files.specs.declared.feed_end.FeedEnd.{FeedEnd}
use Rattle.bl_files.specs.declared.feed_kind.FeedKind.{FeedKind}
use Rattle.bl_files.specs.declared.feed_kind.FeedKind.TheVariants.{Vertex, Edge, Refused}
use Rattle.bl_files.specs.declared.feed_status.FeedStatus.{FeedStatus}
use Rattle.bl_files.specs.declared.feed_status.FeedStatus.TheVariants.{CancelledDueToErrors}
use Rattle.bl_files.specs.declared.log.Log.{Log}
use Rattle.bl_files.specs.Carried.{AreFeeds, DifferentNames, EndsRefused, feed_names}
use Rattle.bl_files.specs.Statuses.{is_open}
use Rattle.bl_queue.specs.Jobs.{IsFeed}
use Rattle.bl_queue.specs.Runs.{end_log, end_status, ended_feed, feeds_after, open_ended, stops, with_feed, with_open_ended}

-- a file stays as it was, or it was open and has another status and end log
abbrev pub Goes : Feed → Feed → Type 0
Goes old new = (new ≡ old) ⊎ ((status : FeedStatus) × (log : Option Log) × (is_open old.status ≡ true) × (new ≡ record old { status = status; end_log = log }))

goes_name : (old new : Feed) → Goes old new → new.name ≡ old.name
goes_name old new (inl same) = ap (λ (f : Feed). f.name) same
goes_name old new (inr how) = ap (λ (f : Feed). f.name) how.3

names_same : (olds news : List Feed) → AllZip Goes olds news → feed_names news ≡ feed_names olds
names_same [] [] zip = refl
names_same [] (y ∷ ys) zip = absurd zip
names_same (x ∷ xs) [] zip = absurd zip
names_same (x ∷ xs) (y ∷ ys) zip = ap (λ name. name ∷ feed_names ys) (goes_name x y zip.0) ∙ ap (λ names. x.name ∷ names) (names_same xs ys zip.1)

refused_by : (old : Feed) (status : FeedStatus) (log : Option Log) (kind : FeedKind) → EndsRefused kind old → is_open old.status ≡ true → EndsRefused kind (record old { status = status; end_log = log })
refused_by old status log Vertex h still = tt
refused_by old status log Edge h still = tt
refused_by old status log (Refused code column) h still = absurd (true≢false (sym still ∙ ap is_open h.0))

goes_refused : (old new : Feed) → Goes old new → EndsRefused old.kind old → EndsRefused new.kind new
goes_refused old new (inl same) h = subst (λ (f : Feed). EndsRefused f.kind f) (sym same) h
goes_refused old new (inr how) h = subst (λ (f : Feed). EndsRefused f.kind f) (sym how.3) (refused_by old how.0 how.1 old.kind h how.2)

goes_counts : (old new : Feed) → Goes old new → IsFeed old → IsFeed new
goes_counts old new (inl same) h = subst IsFeed (sym same) h
goes_counts old new (inr how) h = subst IsFeed (sym how.3) (record { kind = h.kind; taken = h.taken; records = h.records; duplicates = h.duplicates; parsing = h.parsing; datatype = h.datatype; insert = h.insert })

module _ (P : Feed → Type 0) (step : (old new : Feed) → Goes old new → P old → P new) where
  goes_all : (olds news : List Feed) → AllZip Goes olds news → All P olds → All P news
  goes_all [] [] zip all = All-nil P
  goes_all [] (y ∷ ys) zip all = absurd zip
  goes_all (x ∷ xs) [] zip all = absurd zip
  goes_all (x ∷ xs) (y ∷ ys) zip all = All-cons P y ys (step x y zip.0 (All-head P x xs all)) (goes_all xs ys zip.1 (All-tail P x xs all))

pub still_feeds : (olds news : List Feed) → AllZip Goes olds news → AreFeeds olds → AreFeeds news
still_feeds olds news zip are = record {
  names = subst DifferentNames (sym (names_same olds news zip)) are.names;
  refused = goes_all (λ f. EndsRefused f.kind f) goes_refused olds news zip are.refused;
}

pub still_counts : (olds news : List Feed) → AllZip Goes olds news → All IsFeed olds → All IsFeed news
still_counts olds news zip all = goes_all IsFeed goes_counts olds news zip all

pub open_goes : (status : FeedStatus) (feeds : List Feed) → AllZip Goes feeds (with_open_ended status feeds)
open_goes status [] = tt
open_goes status (feed ∷ feeds) = (cond_both (is_open feed.status) (record feed { status = status }) feed (λ f. Goes feed f) (λ still. inr (status, feed.end_log, still, refl)) (λ closed. inl refl), open_goes status feeds)

pub none_open : (status : FeedStatus) (feeds : List Feed) → is_open status ≡ false → list_any (λ (feed : Feed). is_open feed.status) (with_open_ended status feeds) ≡ false
none_open status feeds ends =
    list_any_none (λ (feed : Feed). is_open feed.status) (with_open_ended status feeds)
    (All-map (λ (feed : Feed). is_open feed.status ≡ false) (open_ended status) feeds (λ k d below. let feed : Feed = get_or feeds k d in cond_both (is_open feed.status) (record feed { status = status }) feed (λ (f : Feed). is_open f.status ≡ false) (λ still. ends) (λ closed. closed)))

all_stay : (feeds : List Feed) → AllZip Goes feeds feeds
all_stay [] = tt
all_stay (feed ∷ feeds) = (inl refl, all_stay feeds)

pub one_goes : (how : FeedEnd) (place : ℕ) (feeds : List Feed) → IsSomeAnd (slice_get feeds place) (λ feed. is_open feed.status ≡ true) → AllZip Goes feeds (with_feed place (ended_feed how) feeds)
one_goes how zero [] h = tt
one_goes how (suc place) [] h = tt
one_goes how zero (feed ∷ feeds) h = (inr (end_status how, end_log how, h, refl), all_stay feeds)
one_goes how (suc place) (feed ∷ feeds) h = (inl refl, one_goes how place feeds h)

pub feeds_after_feeds : (fail_on_error : Bool) (how : FeedEnd) (place : ℕ) (feeds : List Feed) → IsSomeAnd (slice_get feeds place) (λ feed. is_open feed.status ≡ true) → AreFeeds feeds → AreFeeds (feeds_after fail_on_error place how feeds)
feeds_after_feeds fail_on_error how place feeds h are =
    let one : AreFeeds (with_feed place (ended_feed how) feeds) = still_feeds feeds (with_feed place (ended_feed how) feeds) (one_goes how place feeds h) are in
    cond_both (stops fail_on_error how) (with_open_ended CancelledDueToErrors (with_feed place (ended_feed how) feeds)) (with_feed place (ended_feed how) feeds) AreFeeds
    (λ all. still_feeds (with_feed place (ended_feed how) feeds) (with_open_ended CancelledDueToErrors (with_feed place (ended_feed how) feeds)) (open_goes CancelledDueToErrors (with_feed place (ended_feed how) feeds)) one)
    (λ alone. one)

pub feeds_after_counts : (fail_on_error : Bool) (how : FeedEnd) (place : ℕ) (feeds : List Feed) → IsSomeAnd (slice_get feeds place) (λ feed. is_open feed.status ≡ true) → All IsFeed feeds → All IsFeed (feeds_after fail_on_error place how feeds)
feeds_after_counts fail_on_error how place feeds h are =
    let one : All IsFeed (with_feed place (ended_feed how) feeds) = still_counts feeds (with_feed place (ended_feed how) feeds) (one_goes how place feeds h) are in
    cond_both (stops fail_on_error how) (with_open_ended CancelledDueToErrors (with_feed place (ended_feed how) feeds)) (with_feed place (ended_feed how) feeds) (λ l. All IsFeed l)
    (λ all. still_counts (with_feed place (ended_feed how) feeds) (with_open_ended CancelledDueToErrors (with_feed place (ended_feed how) feeds)) (open_goes CancelledDueToErrors (with_feed place (ended_feed how) feeds)) one)
    (λ alone. one)

-- a file at a place that hasn't ended
pub open_within : (place : ℕ) (feeds : List Feed) → IsSomeAnd (slice_get feeds place) (λ feed. is_open feed.status ≡ true) → place < length feeds
open_within place [] h = absurd h
open_within zero (feed ∷ feeds) h = omega arith
open_within (suc place) (feed ∷ feeds) h = omega (arith, open_within place feeds h)

open_at : (place : ℕ) (feeds : List Feed) (d : Feed) → IsSomeAnd (slice_get feeds place) (λ feed. is_open feed.status ≡ true) → is_open (get_or feeds place d).status ≡ true
open_at place [] d h = absurd h
open_at zero (feed ∷ feeds) d h = h
open_at (suc place) (feed ∷ feeds) d h = open_at place feeds d h

pub some_open : (place : ℕ) (feeds : List Feed) → IsSomeAnd (slice_get feeds place) (λ feed. is_open feed.status ≡ true) → list_any (λ (feed : Feed). is_open feed.status) feeds ≡ true
some_open place [] h = absurd h
some_open place (feed ∷ feeds) h = list_any_at (λ (f : Feed). is_open f.status) (feed ∷ feeds) place feed (open_within place (feed ∷ feeds) h) (open_at place (feed ∷ feeds) feed h)
