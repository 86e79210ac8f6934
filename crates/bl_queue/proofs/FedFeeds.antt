-- What the files of a job keep when rows of one of them are taken.
use Rattle.std.specs.Prelude.{◌≡◌, ◌+◌, ◌<◌, ◌≤◌, ℕ, true, ◌||◌, List, [], ◌∷◌, length, slice_get, refl, All, Contains, IsSomeAnd, Some}
use Rattle.std.proofs.Common.{sym, ap, subst, ◌∙◌, arith, suc, zero}
use Rattle.std.specs.List.{AllZip, list_any}
use Rattle.std.proofs.lemmas.Bool.{true≢false, or_right}
use Rattle.std.proofs.lemmas.List.Elements.{All-cons, All-contains, All-head, All-nil, All-tail}
use Rattle.std.proofs.lemmas.List.Sums.{count_by-le-length}
use Rattle.bl_outside.specs.declared.digest.Digest.{Digest}
use Rattle.bl_files.specs.declared.feed.Feed.{Feed}
use Rattle.bl_files.specs.declared.feed_kind.FeedKind.{FeedKind}
use Rattle.bl_files.specs.declared.feed_kind.FeedKind.TheVariants.{Vertex, Edge, Refused}
use Rattle.bl_files.specs.declared.log.Log.{Log}
use Rattle.bl_files.specs.Carried.{AreFeeds, DifferentNames, EndsRefused, feed_names}
use Rattle.bl_files.specs.Codes.{class_of}
use Rattle.bl_queue.specs.declared.job.Job.{Job}
use Rattle.bl_files.specs.Statuses.{is_open}
use Rattle.bl_queue.specs.Statuses.{is_in_progress}
use Rattle.bl_queue.specs.Limits.{record_limit}
use Rattle.bl_queue.specs.Jobs.{AreJobs, IsFeed, IsNumbered, Kept, front_job, has_open}
use Rattle.bl_queue.specs.Runs.{with_feed}
use Rattle.bl_queue.specs.Rows.{MayFeed, MayTake, fed_feed, fed_job, is_datatype, is_insert, is_parsing, last_logs}
use Rattle.bl_queue.proofs.ChangedJobs.{IsChange, front_first, front_in}
use Rattle.bl_queue.proofs.RunChanges.{running_begun}

-- the file is the same one, and what held of it holds
record Follows (old new : Feed) : Type 0 where
  name : new.name ≡ old.name
  refused : EndsRefused old.kind old → EndsRefused new.kind new
  counts : IsFeed old → IsFeed new

names_same : (olds news : List Feed) → AllZip Follows olds news → feed_names news ≡ feed_names olds
names_same [] [] zip = refl
names_same [] (y ∷ ys) zip = absurd zip
names_same (x ∷ xs) [] zip = absurd zip
names_same (x ∷ xs) (y ∷ ys) zip = ap (λ name. name ∷ feed_names ys) zip.0.name ∙ ap (λ names. x.name ∷ names) (names_same xs ys zip.1)

module _ (P : Feed → Type 0) (step : (old new : Feed) → Follows old new → P old → P new) where
  follows_all : (olds news : List Feed) → AllZip Follows olds news → All P olds → All P news
  follows_all [] [] zip all = All-nil P
  follows_all [] (y ∷ ys) zip all = absurd zip
  follows_all (x ∷ xs) [] zip all = absurd zip
  follows_all (x ∷ xs) (y ∷ ys) zip all = All-cons P y ys (step x y zip.0 (All-head P x xs all)) (follows_all xs ys zip.1 (All-tail P x xs all))

follow_feeds : (olds news : List Feed) → AllZip Follows olds news → AreFeeds olds → AreFeeds news
follow_feeds olds news zip are = record {
  names = subst DifferentNames (sym (names_same olds news zip)) are.names;
  refused = follows_all (λ f. EndsRefused f.kind f) (λ old new is h. is.refused h) olds news zip are.refused;
}

follow_counts : (olds news : List Feed) → AllZip Follows olds news → All IsFeed olds → All IsFeed news
follow_counts olds news zip all = follows_all IsFeed (λ old new is h. is.counts h) olds news zip all

-- ---- the logs that stay

logs_refused : (feed : Feed) (logs : List Log) (kind : FeedKind) → EndsRefused kind feed → EndsRefused kind (record feed { logs = logs })
logs_refused feed logs Vertex h = tt
logs_refused feed logs Edge h = tt
logs_refused feed logs (Refused code column) h = h

last_follow : (feeds : List Feed) → AllZip Follows feeds (last_logs feeds)
last_follow [] = tt
last_follow (feed ∷ feeds) = (
  record {
    name = refl;
    refused = λ h. logs_refused feed _ feed.kind h;
    counts = λ h. record { kind = h.kind; taken = h.taken; records = h.records; duplicates = h.duplicates; parsing = h.parsing; datatype = h.datatype; insert = h.insert };
  },
  last_follow feeds,
)

last_open : (feeds : List Feed) → list_any (λ (f : Feed). is_open f.status) (last_logs feeds) ≡ list_any (λ (f : Feed). is_open f.status) feeds
last_open [] = refl
last_open (feed ∷ feeds) = ap (λ b. is_open feed.status || b) (last_open feeds)

-- ---- rows of one file

same_follow : (feeds : List Feed) → AllZip Follows feeds feeds
same_follow [] = tt
same_follow (feed ∷ feeds) = (record { name = refl; refused = λ h. h; counts = λ h. h }, same_follow feeds)

module _ (rows : ℕ) (digest : Digest) (duplicates : ℕ) (logs : List Log) (few : duplicates + length logs ≤ rows) where
  abbrev fed : Feed → Feed
  fed feed = fed_feed rows digest duplicates logs feed

  fed_refused : (feed : Feed) (kind : FeedKind) → EndsRefused kind feed → is_open feed.status ≡ true → EndsRefused kind (fed feed)
  fed_refused feed Vertex h still = tt
  fed_refused feed Edge h still = tt
  fed_refused feed (Refused code column) h still = absurd (true≢false (sym still ∙ ap is_open h.0))

  fed_counts : (feed : Feed) → feed.taken + rows < record_limit → IsFeed feed → IsFeed (fed feed)
  fed_counts feed room h = record {
    kind = h.kind;
    taken = room;
    records = omega (arith, h.records);
    duplicates = omega (arith, h.duplicates);
    parsing = omega (arith, h.parsing, count_by-le-length (λ (log : Log). is_parsing (class_of log.code)) logs);
    datatype = omega (arith, h.datatype, count_by-le-length (λ (log : Log). is_datatype (class_of log.code)) logs);
    insert = omega (arith, h.insert, count_by-le-length (λ (log : Log). is_insert (class_of log.code)) logs);
  }

  fed_follow : (place : ℕ) (feeds : List Feed) → IsSomeAnd (slice_get feeds place) (λ feed. (is_open feed.status ≡ true) × (feed.taken + rows < record_limit)) → AllZip Follows feeds (with_feed place fed feeds)
  fed_follow place [] h = absurd h
  fed_follow zero (feed ∷ feeds) h = (record { name = refl; refused = λ r. fed_refused feed feed.kind r h.0; counts = λ c. fed_counts feed h.1 c }, same_follow feeds)
  fed_follow (suc place) (feed ∷ feeds) h = (record { name = refl; refused = λ r. r; counts = λ c. c }, fed_follow place feeds h)

  fed_open : (place : ℕ) (feeds : List Feed) → IsSomeAnd (slice_get feeds place) (λ feed. (is_open feed.status ≡ true) × (feed.taken + rows < record_limit)) → list_any (λ (f : Feed). is_open f.status) (with_feed place fed feeds) ≡ true
  fed_open place [] h = absurd h
  fed_open zero (feed ∷ feeds) h = refl
  fed_open (suc place) (feed ∷ feeds) h = or_right (is_open feed.status) (list_any (λ (f : Feed). is_open f.status) (with_feed place fed feeds)) (fed_open place feeds h)

  was_open : (place : ℕ) (feeds : List Feed) → IsSomeAnd (slice_get feeds place) (λ feed. (is_open feed.status ≡ true) × (feed.taken + rows < record_limit)) → list_any (λ (f : Feed). is_open f.status) feeds ≡ true
  was_open place [] h = absurd h
  was_open zero (feed ∷ feeds) h = ap (λ b. b || list_any (λ (f : Feed). is_open f.status) feeds) h.0
  was_open (suc place) (feed ∷ feeds) h = or_right (is_open feed.status) (list_any (λ (f : Feed). is_open f.status) feeds) (was_open place feeds h)

  pub may_take : (place : ℕ) (feeds : List Feed) → IsSomeAnd (slice_get feeds place) (λ feed. (is_open feed.status ≡ true) × (feed.taken + rows < record_limit)) → All IsFeed feeds → IsSomeAnd (slice_get feeds place) (λ feed. MayTake rows duplicates logs feed)
  may_take place [] h all = absurd h
  may_take zero (feed ∷ feeds) h all = (All-head IsFeed feed feeds all, h.1, few)
  may_take (suc place) (feed ∷ feeds) h all = may_take place feeds h (All-tail IsFeed feed feeds all)

  pub fed_change : (moment place : ℕ) (kept : Kept) → AreJobs kept → (old : Job) → front_job kept.jobs ≡ Some old → MayFeed place rows old → IsChange kept.jobs old (fed_job moment place rows digest duplicates logs old)
  fed_change moment place kept are old front may =
      let there : Contains kept.jobs old = (front_in kept.jobs old front).0 in
      let running : is_in_progress old.status ≡ true = sym (All-contains (λ job. has_open job ≡ is_in_progress job.status) kept.jobs old are.running there) ∙ was_open place old.feeds may in
      let between : List Feed = with_feed place fed old.feeds in
      record {
        number = refl;
        id = refl;
        request = refl;
        run = (All-contains (λ job. IsNumbered kept.last job) kept.jobs old are.numbered there).run;
        begun = running_begun old.status running;
        running = last_open between ∙ fed_open place old.feeds may ∙ sym running;
        feeds = follow_feeds between (last_logs between) (last_follow between) (follow_feeds old.feeds between (fed_follow place old.feeds may) (All-contains (λ job. AreFeeds job.feeds) kept.jobs old are.feeds there));
        each = follow_counts between (last_logs between) (last_follow between) (follow_counts old.feeds between (fed_follow place old.feeds may) (All-contains (λ job. All IsFeed job.feeds) kept.jobs old are.each there));
        first = λ unended. front_first kept.jobs old are.rising front;
      }
