-- The files of a load in the order in which they end.
use Rattle.std.specs.Prelude.{◌≡◌, ℕ, zero, suc, ◌+◌, ◌-◌, ◌≤◌, min, nat_lt, Bool, true, false, ◌||◌, cond, List, [], ◌∷◌, map, length, Some, None, refl, All, ◌⊎◌}
use Rattle.std.specs.declared.option.Option.{Option}
use Rattle.std.specs.List.{AllZip, AllByRecursion, list_any}
use Rattle.std.specs.List.Sorted.{IsStrictlySortedBy}
use Rattle.std.specs.declared.cmp.Ordering.TheVariants.{Less}
use Rattle.std.specs.Ordering.{nat_cmp, ordering_then}
use Rattle.std.specs.Cmp.Lexicographic.{slice_cmp}
use Rattle.std.proofs.Common.{sym, ap, ◌∙◌, arith, inl, inr, length-append}
use Rattle.std.proofs.lemmas.Bool.{true≢false, cond_both}
use Rattle.std.proofs.lemmas.List.Elements.{All-head, All-tail}
use Rattle.bl_files.specs.declared.feed.Feed.{Feed}
use Rattle.bl_files.specs.declared.feed_end.FeedEnd.{FeedEnd}
use Rattle.bl_files.specs.declared.feed_end.FeedEnd.TheVariants as end
use Rattle.bl_files.specs.declared.feed_kind.FeedKind.{FeedKind}
use Rattle.bl_files.specs.declared.feed_kind.FeedKind.TheVariants as kind
use Rattle.bl_files.specs.declared.feed_status.FeedStatus.{FeedStatus}
use Rattle.bl_files.specs.declared.feed_status.FeedStatus.TheVariants as feed
use Rattle.bl_files.specs.declared.log.Log.{Log}
use Rattle.bl_files.specs.Carried.{EndsRefused, feed_cmp, first_log, first_status, is_kept, kept, kept_status, kind_place, new_feed}
use Rattle.bl_queue.specs.Runs.{end_status, ended_feed, open_ended, with_feed, with_open_ended}
use Rattle.bl_queue.specs.Rows.{last_logs}
use Rattle.bl_files.specs.Statuses.{is_completed, is_failed, is_open}
use Rattle.bl_world.specs.Worlds.{IsFirstOpen}
use Rattle.bl_chain.specs.Ends.{cut_end, cut_end_of, end_of, stop_ends, whole_end, whole_end_of}
use Rattle.bl_chain.specs.Frontiers.{IsWhole, shares, takens}
use Rattle.bl_chain.specs.Loads.{lines_from, numbered}
use Rattle.bl_chain.specs.Tables.{Table, any_unread, is_unread}
use Rattle.bl_chain.proofs.CarriedFiles.{carried_at, carry_all, carry_one, plain}
use Rattle.bl_chain.proofs.FedLoads.{AreRun, Done, Front, IsFed, IsOpen, IsRested, NoneDone}
use Rattle.bl_chain.proofs.QuietRows.{unread_unkept}
use Rattle.bl_chain.proofs.TakenRows.{numbered_length}

-- ---- one file

whole_shut : (k : FeedKind) → is_open (whole_end_of k).0 ≡ false
whole_shut kind.Vertex = refl
whole_shut kind.Edge = refl
whole_shut (kind.Refused code column) = refl

rested_shut : (s : Table) (f : Feed) → IsRested s f → is_open f.status ≡ false
rested_shut s f h = ap (λ e. is_open e.0) h ∙ whole_shut s.found.kind

whole_done : (k : FeedKind) → (is_unread k ≡ true) ⊎ (is_completed (whole_end_of k).0 ≡ true)
whole_done kind.Vertex = inr refl
whole_done kind.Edge = inr refl
whole_done (kind.Refused code column) = inl refl

rested_done : (s : Table) (f : Feed) → IsRested s f → (is_unread s.found.kind ≡ true) ⊎ (is_completed f.status ≡ true)
rested_done s f h = elim (whole_done s.found.kind) [ inl unread ↦ inl unread | inr done ↦ inr (ap (λ e. is_completed e.0) h ∙ done) ]

open_undone : (s : FeedStatus) → is_open s ≡ true → is_completed s ≡ false
open_undone feed.NotStarted h = refl
open_undone feed.InProgress h = refl
open_undone feed.Completed h = absurd (true≢false (sym h))
open_undone feed.Failed h = refl
open_undone feed.ReadError h = refl
open_undone feed.Modified h = refl
open_undone feed.CancelledDueToErrors h = refl
open_undone feed.CancelledByUser h = refl

done_shut : (s : FeedStatus) → is_completed s ≡ true → is_open s ≡ false
done_shut feed.Completed h = refl
done_shut feed.NotStarted h = absurd (true≢false (sym h))
done_shut feed.InProgress h = absurd (true≢false (sym h))
done_shut feed.Failed h = refl
done_shut feed.ReadError h = refl
done_shut feed.Modified h = refl
done_shut feed.CancelledDueToErrors h = refl
done_shut feed.CancelledByUser h = refl

pub read_whole : (k : FeedKind) → is_unread k ≡ false → whole_end_of k ≡ (feed.Completed, None)
read_whole kind.Vertex h = refl
read_whole kind.Edge h = refl
read_whole (kind.Refused code column) h = absurd (true≢false h)

read_cut : (k : FeedKind) → is_unread k ≡ false → cut_end_of k ≡ (feed.CancelledDueToErrors, None)
read_cut kind.Vertex h = refl
read_cut kind.Edge h = refl
read_cut (kind.Refused code column) h = absurd (true≢false h)

-- ---- the first open file

-- the files before the place have ended, and those from it on are open
abbrev pub AtFront : List Table → List Feed → ℕ → Type 0
AtFront [] feeds place = ⊥
AtFront (s ∷ tables) [] place = ⊥
AtFront (s ∷ tables) (f ∷ feeds) zero = AllZip IsOpen (s ∷ tables) (f ∷ feeds)
AtFront (s ∷ tables) (f ∷ feeds) (suc place) = IsRested s f × AtFront tables feeds place

pub front_at : (tables : List Table) (feeds : List Feed) (place : ℕ) (of : Feed) → Front tables feeds → IsFirstOpen feeds place of → AtFront tables feeds place
front_at [] [] place of front first = absurd first
front_at [] (f ∷ feeds) place of front first = absurd front
front_at (s ∷ tables) [] place of front first = absurd front
front_at (s ∷ tables) (f ∷ feeds) zero of (inl rested) first = absurd (true≢false (sym first.0 ∙ rested_shut s f rested.0))
front_at (s ∷ tables) (f ∷ feeds) zero of (inr still) first = still
front_at (s ∷ tables) (f ∷ feeds) (suc place) of (inl rested) first = (rested.0, front_at tables feeds place of rested.1 first.1)
front_at (s ∷ tables) (f ∷ feeds) (suc place) of (inr still) first = absurd (true≢false (sym still.0.0 ∙ first.0))

open_front : (tables : List Table) (feeds : List Feed) → AllZip IsOpen tables feeds → Front tables feeds
open_front [] [] still = tt
open_front [] (f ∷ feeds) still = absurd still
open_front (s ∷ tables) [] still = absurd still
open_front (s ∷ tables) (f ∷ feeds) still = inr still

open_none : (tables : List Table) (feeds : List Feed) → AllZip IsOpen tables feeds → NoneDone tables feeds
open_none [] [] still = tt
open_none [] (f ∷ feeds) still = absurd still
open_none (s ∷ tables) [] still = absurd still
open_none (s ∷ tables) (f ∷ feeds) still = (open_undone f.status still.0.0, open_none tables feeds still.1)

none_done : (tables : List Table) (feeds : List Feed) → NoneDone tables feeds → Done tables feeds
none_done [] [] none = tt
none_done [] (f ∷ feeds) none = absurd none
none_done (s ∷ tables) [] none = absurd none
none_done (s ∷ tables) (f ∷ feeds) none = inr none

pub front_done : (tables : List Table) (feeds : List Feed) → Front tables feeds → Done tables feeds
front_done [] [] front = tt
front_done [] (f ∷ feeds) front = absurd front
front_done (s ∷ tables) [] front = absurd front
front_done (s ∷ tables) (f ∷ feeds) (inl rested) = inl (rested_done s f rested.0, front_done tables feeds rested.1)
front_done (s ∷ tables) (f ∷ feeds) (inr still) = inr (open_none (s ∷ tables) (f ∷ feeds) still)

-- ---- the files are changed

-- rows are taken
pub front_fed : (tables : List Table) (feeds : List Feed) (place : ℕ) (g : Feed → Feed) → ((f : Feed) → (is_open (g f).status ≡ true) × ((g f).end_log ≡ f.end_log)) → AtFront tables feeds place → Front tables (with_feed place g feeds)
front_fed [] feeds place g keeps at = absurd at
front_fed (s ∷ tables) [] place g keeps at = absurd at
front_fed (s ∷ tables) (f ∷ feeds) zero g keeps at = inr (((keeps f).0, (keeps f).1 ∙ at.0.1, at.0.2), at.1)
front_fed (s ∷ tables) (f ∷ feeds) (suc place) g keeps at = inl (at.0, front_fed tables feeds place g keeps at.1)

open_last : (tables : List Table) (feeds : List Feed) → AllZip IsOpen tables feeds → AllZip IsOpen tables (last_logs feeds)
open_last [] [] still = tt
open_last [] (f ∷ feeds) still = absurd still
open_last (s ∷ tables) [] still = absurd still
open_last (s ∷ tables) (f ∷ feeds) still = (still.0, open_last tables feeds still.1)

pub front_last : (tables : List Table) (feeds : List Feed) → Front tables feeds → Front tables (last_logs feeds)
front_last [] [] front = tt
front_last [] (f ∷ feeds) front = absurd front
front_last (s ∷ tables) [] front = absurd front
front_last (s ∷ tables) (f ∷ feeds) (inl rested) = inl (rested.0, front_last tables feeds rested.1)
front_last (s ∷ tables) (f ∷ feeds) (inr still) = inr (open_last (s ∷ tables) (f ∷ feeds) still)

-- a file is completed
pub front_completed : (tables : List Table) (feeds : List Feed) (place : ℕ) → AtFront tables feeds place → Front tables (with_feed place (ended_feed end.Completed) feeds)
front_completed [] feeds place at = absurd at
front_completed (s ∷ tables) [] place at = absurd at
front_completed (s ∷ tables) (f ∷ feeds) zero at = inl (sym (read_whole s.found.kind at.0.2), open_front tables feeds at.1)
front_completed (s ∷ tables) (f ∷ feeds) (suc place) at = inl (at.0, front_completed tables feeds place at.1)

-- a file ends otherwise
none_at : (tables : List Table) (feeds : List Feed) (how : FeedEnd) → is_completed (end_status how) ≡ false → AllZip IsOpen tables feeds → NoneDone tables (with_feed zero (ended_feed how) feeds)
none_at [] [] how cut still = tt
none_at [] (f ∷ feeds) how cut still = absurd still
none_at (s ∷ tables) [] how cut still = absurd still
none_at (s ∷ tables) (f ∷ feeds) how cut still = (cut, open_none tables feeds still.1)

pub done_ended : (tables : List Table) (feeds : List Feed) (place : ℕ) (how : FeedEnd) → AtFront tables feeds place → Done tables (with_feed place (ended_feed how) feeds)
done_ended [] feeds place how at = absurd at
done_ended (s ∷ tables) [] place how at = absurd at
done_ended (s ∷ tables) (f ∷ feeds) zero how at = by (is_completed (end_status how)) refl where
  by : (b : Bool) → is_completed (end_status how) ≡ b → Done (s ∷ tables) (with_feed zero (ended_feed how) (f ∷ feeds))
  by true is = inl (inr is, none_done tables feeds (open_none tables feeds at.1))
  by false is = inr (none_at (s ∷ tables) (f ∷ feeds) how is at)
done_ended (s ∷ tables) (f ∷ feeds) (suc place) how at = inl (rested_done s f at.0, done_ended tables feeds place how at.1)

-- the open ones are cut
cut_one : (status : FeedStatus) → is_completed status ≡ false → (f : Feed) → is_completed (open_ended status f).status ≡ is_completed f.status
cut_one status cut f = cond_both (is_open f.status) (record f { status = status }) f (λ x. is_completed x.status ≡ is_completed f.status) (λ h. cut ∙ sym (open_undone f.status h)) (λ h. refl)

pub cut_none : (status : FeedStatus) → is_completed status ≡ false → (tables : List Table) (feeds : List Feed) → NoneDone tables feeds → NoneDone tables (with_open_ended status feeds)
cut_none status cut [] [] none = tt
cut_none status cut [] (f ∷ feeds) none = absurd none
cut_none status cut (s ∷ tables) [] none = absurd none
cut_none status cut (s ∷ tables) (f ∷ feeds) none = (cut_one status cut f ∙ none.0, cut_none status cut tables feeds none.1)

pub done_cut : (status : FeedStatus) → is_completed status ≡ false → (tables : List Table) (feeds : List Feed) → Done tables feeds → Done tables (with_open_ended status feeds)
done_cut status cut [] [] done = tt
done_cut status cut [] (f ∷ feeds) done = absurd done
done_cut status cut (s ∷ tables) [] done = absurd done
done_cut status cut (s ∷ tables) (f ∷ feeds) (inl one) = inl (elim one.0 [ inl unread ↦ inl unread | inr is ↦ inr (cut_one status cut f ∙ is) ], done_cut status cut tables feeds one.1)
done_cut status cut (s ∷ tables) (f ∷ feeds) (inr none) = inr (cut_none status cut (s ∷ tables) (f ∷ feeds) none)

pub done_either : (b : Bool) (tables : List Table) (feeds : List Feed) → Done tables feeds → Done tables (cond b (with_open_ended feed.CancelledDueToErrors feeds) feeds)
done_either true tables feeds done = done_cut feed.CancelledDueToErrors refl tables feeds done
done_either false tables feeds done = done

-- ---- how they have ended

pub rested_ends : (tables : List Table) (feeds : List Feed) → Front tables feeds → list_any (λ (f : Feed). is_open f.status) feeds ≡ false → map end_of feeds ≡ map whole_end tables
rested_ends [] [] front none = refl
rested_ends [] (f ∷ feeds) front none = absurd front
rested_ends (s ∷ tables) [] front none = absurd front
rested_ends (s ∷ tables) (f ∷ feeds) (inl rested) none =
    λ i. rested.0 i ∷ rested_ends tables feeds rested.1 (sym (ap (λ b. b || list_any (λ (x : Feed). is_open x.status) feeds) (rested_shut s f rested.0)) ∙ none) i
rested_ends (s ∷ tables) (f ∷ feeds) (inr still) none = absurd (true≢false (sym (ap (λ b. b || list_any (λ (x : Feed). is_open x.status) feeds) still.0.0) ∙ none))

cut_open : (s : Table) (f : Feed) → IsOpen s f → end_of (open_ended feed.CancelledDueToErrors f) ≡ cut_end s
cut_open s f still = ap (λ b. end_of (cond b (record f { status = feed.CancelledDueToErrors }) f)) still.0 ∙ ap (λ (l : Option Log). (feed.CancelledDueToErrors, l)) still.1 ∙ sym (read_cut s.found.kind still.2)

cut_rest : (tables : List Table) (feeds : List Feed) → AllZip IsOpen tables feeds → map end_of (with_open_ended feed.CancelledDueToErrors feeds) ≡ map cut_end tables
cut_rest [] [] still = refl
cut_rest [] (f ∷ feeds) still = absurd still
cut_rest (s ∷ tables) [] still = absurd still
cut_rest (s ∷ tables) (f ∷ feeds) still = λ i. cut_open s f still.0 i ∷ cut_rest tables feeds still.1 i

shut_stays : (f : Feed) → is_open f.status ≡ false → end_of (open_ended feed.CancelledDueToErrors f) ≡ end_of f
shut_stays f shut = ap (λ b. end_of (cond b (record f { status = feed.CancelledDueToErrors }) f)) shut

pub stopped_ends : (log : Log) (tables : List Table) (feeds : List Feed) (place : ℕ) → AtFront tables feeds place → map end_of (with_open_ended feed.CancelledDueToErrors (with_feed place (ended_feed (end.Stopped log)) feeds)) ≡ stop_ends log place tables
stopped_ends log [] feeds place at = absurd at
stopped_ends log (s ∷ tables) [] place at = absurd at
stopped_ends log (s ∷ tables) (f ∷ feeds) zero at = ap (λ l. (feed.Failed, Some log) ∷ l) (cut_rest tables feeds at.1)
stopped_ends log (s ∷ tables) (f ∷ feeds) (suc place) at = λ i. (shut_stays f (rested_shut s f at.0) ∙ at.0) i ∷ stopped_ends log tables feeds place at.1 i

-- a load that can't begin
pub cut_ends : (tables : List Table) (feeds : List Feed) → Front tables feeds → NoneDone tables feeds → map end_of (with_open_ended feed.CancelledDueToErrors feeds) ≡ map cut_end tables
cut_ends [] [] front none = refl
cut_ends [] (f ∷ feeds) front none = absurd front
cut_ends (s ∷ tables) [] front none = absurd front
cut_ends (s ∷ tables) (f ∷ feeds) (inr still) none = cut_rest (s ∷ tables) (f ∷ feeds) still
cut_ends (s ∷ tables) (f ∷ feeds) (inl rested) none = λ i. (shut_stays f (rested_shut s f rested.0) ∙ rested.0 ∙ unread_same s.found.kind (is_undone s.found.kind (sym (ap (λ e. is_completed e.0) rested.0) ∙ none.0))) i ∷ cut_ends tables feeds rested.1 none.1 i where
  is_undone : (k : FeedKind) → is_completed (whole_end_of k).0 ≡ false → is_unread k ≡ true
  is_undone kind.Vertex h = absurd (true≢false h)
  is_undone kind.Edge h = absurd (true≢false h)
  is_undone (kind.Refused code column) h = refl

  unread_same : (k : FeedKind) → is_unread k ≡ true → whole_end_of k ≡ cut_end_of k
  unread_same kind.Vertex h = absurd (true≢false (sym h))
  unread_same kind.Edge h = absurd (true≢false (sym h))
  unread_same (kind.Refused code column) h = refl

-- ---- all lines are taken

lines_length : (base : ℕ) (s : Table) (tables : List Table) → length (lines_from base (s ∷ tables)) ≡ length s.rows + length (lines_from (base + 1) tables)
lines_length base s tables = length-append (numbered base 0 s.rows) (lines_from (base + 1) tables) ∙ ap (λ n. n + length (lines_from (base + 1) tables)) (numbered_length base 0 s.rows)

first_number : (a b : ℕ) (xs ys : List ℕ) → a ∷ xs ≡ b ∷ ys → (a ≡ b) × (xs ≡ ys)
first_number a b xs ys h = (cc, cc)

pub all_taken : (base k : ℕ) (tables : List Table) (feeds : List Feed) → takens feeds ≡ shares tables k → AllZip IsWhole tables feeds → k ≤ length (lines_from base tables) → k ≡ length (lines_from base tables)
all_taken base k [] [] shared whole within = omega arith
all_taken base k [] (f ∷ feeds) shared whole within = absurd whole
all_taken base k (s ∷ tables) [] shared whole within = absurd whole
all_taken base k (s ∷ tables) (f ∷ feeds) shared whole within =
    let both = first_number f.taken (min k (length s.rows)) (takens feeds) (shares tables (k - length s.rows)) shared in
    let head : f.taken ≡ min k (length s.rows) = both.0 in
    let full : f.taken ≡ length s.rows = whole.0 in
    let total : length (lines_from base (s ∷ tables)) ≡ length s.rows + length (lines_from (base + 1) tables) = lines_length base s tables in
    let rest : k - length s.rows ≡ length (lines_from (base + 1) tables) = all_taken (base + 1) (k - length s.rows) tables feeds both.1 whole.1 (omega arith) in
    omega arith

pub run_whole : (tables : List Table) (feeds : List Feed) → AreRun tables feeds → list_any (λ (f : Feed). is_open f.status) feeds ≡ false → AllZip IsWhole tables feeds
run_whole [] [] run none = tt
run_whole [] (f ∷ feeds) run none = absurd run
run_whole (s ∷ tables) [] run none = absurd run
run_whole (s ∷ tables) (f ∷ feeds) run none = by (is_open f.status) refl none (λ h. run_whole tables feeds run.1 h) where
  by : (b : Bool) → is_open f.status ≡ b → (b || list_any (λ (x : Feed). is_open x.status) feeds) ≡ false → (list_any (λ (x : Feed). is_open x.status) feeds ≡ false → AllZip IsWhole tables feeds) → AllZip IsWhole (s ∷ tables) (f ∷ feeds)
  by true is h rest = absurd (true≢false h)
  by false is h rest = (run.0 is, rest h)

-- ---- the files at a start

-- behind a file that is read there is none that isn't
read_behind : (k l : FeedKind) (name other : List ℕ) → is_unread k ≡ false → ordering_then (nat_cmp (kind_place k) (kind_place l)) (slice_cmp nat_cmp name other) ≡ Less → is_unread l ≡ false
read_behind kind.Vertex kind.Vertex name other h less = refl
read_behind kind.Vertex kind.Edge name other h less = refl
read_behind kind.Edge kind.Vertex name other h less = refl
read_behind kind.Edge kind.Edge name other h less = refl
read_behind kind.Vertex (kind.Refused code column) name other h less = absurd (cc)
read_behind kind.Edge (kind.Refused code column) name other h less = absurd (cc)
read_behind (kind.Refused code column) l name other h less = absurd (true≢false h)

abbrev AllRead : List Table → Type 0
AllRead tables = AllByRecursion (λ s. is_unread s.found.kind ≡ false) tables

read_rest : (s : Table) (tables : List Table) → is_unread s.found.kind ≡ false → AllByRecursion (λ y. feed_cmp (new_feed s.found) y ≡ Less) (plain tables) → AllRead tables
read_rest s [] h all = tt
read_rest s (t ∷ tables) h all = (read_behind s.found.kind t.found.kind s.found.name t.found.name h all.0, read_rest s tables h all.1)

new_open : (k : FeedKind) → is_unread k ≡ false → (is_open (first_status k) ≡ true) × (first_log k ≡ None)
new_open kind.Vertex h = (refl, refl)
new_open kind.Edge h = (refl, refl)
new_open (kind.Refused code column) h = absurd (true≢false h)

new_rested : (k : FeedKind) → is_unread k ≡ true → (first_status k, first_log k) ≡ whole_end_of k
new_rested kind.Vertex h = absurd (true≢false (sym h))
new_rested kind.Edge h = absurd (true≢false (sym h))
new_rested (kind.Refused code column) h = refl

new_undone : (k : FeedKind) → is_completed (first_status k) ≡ false
new_undone kind.Vertex = refl
new_undone kind.Edge = refl
new_undone (kind.Refused code column) = refl

plain_open : (tables : List Table) → AllRead tables → AllZip IsOpen tables (plain tables)
plain_open [] all = tt
plain_open (s ∷ tables) all = (((new_open s.found.kind all.0).0, (new_open s.found.kind all.0).1, all.0), plain_open tables all.1)

pub plain_front : (tables : List Table) → IsStrictlySortedBy feed_cmp (plain tables) → Front tables (plain tables)
unfolding IsStrictlySortedBy
plain_front [] up = tt
plain_front (s ∷ tables) up = by (is_unread s.found.kind) refl (plain_front tables up.1) where
  by : (b : Bool) → is_unread s.found.kind ≡ b → Front tables (plain tables) → Front (s ∷ tables) (plain (s ∷ tables))
  by true is rest = inl (new_rested s.found.kind is, rest)
  by false is rest = inr (((new_open s.found.kind is).0, (new_open s.found.kind is).1, is), plain_open tables (read_rest s tables is up.0))

pub plain_none : (tables : List Table) → NoneDone tables (plain tables)
plain_none [] = tt
plain_none (s ∷ tables) = (new_undone s.found.kind, plain_none tables)

kept_done : (s : FeedStatus) → is_completed s ≡ true → kept_status s ≡ feed.Completed
kept_done s h = ap (λ b. cond b feed.Completed feed.NotStarted) h

kept_open : (s : FeedStatus) → is_completed s ≡ false → kept_status s ≡ feed.NotStarted
kept_open s h = ap (λ b. cond b feed.Completed feed.NotStarted) h

carry_open_one : (s : Table) (f : Feed) → is_unread s.found.kind ≡ false → is_completed f.status ≡ false → IsOpen s (carry_one s f)
carry_open_one s f read none =
    cond_both (is_kept f) (kept f) (new_feed s.found) (λ x. IsOpen s x)
    (λ h. (ap is_open (kept_open f.status none), refl, read)) (λ h. ((new_open s.found.kind read).0, (new_open s.found.kind read).1, read))

carry_open : (tables : List Table) (feeds : List Feed) → AllRead tables → NoneDone tables feeds → AllZip IsOpen tables (carry_all tables feeds)
carry_open [] [] all none = tt
carry_open [] (f ∷ feeds) all none = absurd none
carry_open (s ∷ tables) [] all none = absurd none
carry_open (s ∷ tables) (f ∷ feeds) all none = (carry_open_one s f all.0 none.0, carry_open tables feeds all.1 none.1)

done_tail : (s : Table) (tables : List Table) (f : Feed) (feeds : List Feed) → Done (s ∷ tables) (f ∷ feeds) → Done tables feeds
done_tail s tables f feeds (inl one) = one.1
done_tail s tables f feeds (inr none) = none_done tables feeds none.1

pub carry_front : (tables : List Table) (feeds : List Feed) → IsStrictlySortedBy feed_cmp (plain tables) → AllZip IsFed tables feeds → All (λ (f : Feed). EndsRefused f.kind f) feeds → Done tables feeds → Front tables (carry_all tables feeds)
unfolding IsStrictlySortedBy
carry_front [] [] up zip refused done = tt
carry_front [] (f ∷ feeds) up zip refused done = absurd zip
carry_front (s ∷ tables) [] up zip refused done = absurd zip
carry_front (s ∷ tables) (f ∷ feeds) up zip refused done = by (is_unread s.found.kind) refl done (carry_front tables feeds up.1 zip.1 (All-tail (λ (x : Feed). EndsRefused x.kind x) f feeds refused) (done_tail s tables f feeds done)) where
  by : (b : Bool) → is_unread s.found.kind ≡ b → Done (s ∷ tables) (f ∷ feeds) → Front tables (carry_all tables feeds) → Front (s ∷ tables) (carry_all (s ∷ tables) (f ∷ feeds))
  by true is d rest =
      inl (ap end_of (carried_at s f false (unread_unkept f.kind f (ap is_unread zip.0.kind ∙ is) (All-head (λ (x : Feed). EndsRefused x.kind x) f feeds refused))) ∙ new_rested s.found.kind is, rest)
  by false is (inr none) rest = inr (carry_open_one s f is none.0, carry_open tables feeds (read_rest s tables is up.0) none.1)
  by false is (inl one) rest = elim one.0 [
    | inl unread ↦ absurd (true≢false (sym unread ∙ is))
    | inr completed ↦ inl (ap end_of (carried_at s f true (ap (λ b. b || nat_lt 0 f.taken) completed)) ∙ ap (λ (t : FeedStatus). (t, None)) (kept_done f.status completed) ∙ sym (read_whole s.found.kind is), rest)
  ]

pub carry_none : (tables : List Table) (feeds : List Feed) → NoneDone tables feeds → NoneDone tables (carry_all tables feeds)
carry_none [] [] none = tt
carry_none [] (f ∷ feeds) none = absurd none
carry_none (s ∷ tables) [] none = absurd none
carry_none (s ∷ tables) (f ∷ feeds) none = (
  cond_both (is_kept f) (kept f) (new_feed s.found) (λ x. is_completed x.status ≡ false) (λ h. ap is_completed (kept_open f.status none.0)) (λ h. new_undone s.found.kind),
  carry_none tables feeds none.1,
)

pub none_either : (b : Bool) (tables : List Table) (feeds : List Feed) → NoneDone tables feeds → NoneDone tables (cond b (with_open_ended feed.CancelledDueToErrors feeds) feeds)
none_either true tables feeds none = cut_none feed.CancelledDueToErrors refl tables feeds none
none_either false tables feeds none = none

-- a file that has failed at once isn't read
open_unfailed : (s : FeedStatus) → is_open s ≡ true → is_failed s ≡ false
open_unfailed feed.NotStarted h = refl
open_unfailed feed.InProgress h = refl
open_unfailed feed.Completed h = refl
open_unfailed feed.Failed h = absurd (true≢false (sym h))
open_unfailed feed.ReadError h = refl
open_unfailed feed.Modified h = refl
open_unfailed feed.CancelledDueToErrors h = refl
open_unfailed feed.CancelledByUser h = refl

pub whole_failed : (k : FeedKind) → is_unread k ≡ false → is_failed (whole_end_of k).0 ≡ false
whole_failed kind.Vertex h = refl
whole_failed kind.Edge h = refl
whole_failed (kind.Refused code column) h = absurd (true≢false h)

or_none : (a b : Bool) → (a || b) ≡ false → (a ≡ false) × (b ≡ false)
or_none true b h = absurd (true≢false h)
or_none false b h = (refl, h)

still_none : (tables : List Table) (feeds : List Feed) → AllZip IsOpen tables feeds → list_any (λ (f : Feed). is_failed f.status) feeds ≡ false
still_none [] [] still = refl
still_none [] (f ∷ feeds) still = absurd still
still_none (s ∷ tables) [] still = absurd still
still_none (s ∷ tables) (f ∷ feeds) still = ap (λ b. b || list_any (λ (x : Feed). is_failed x.status) feeds) (open_unfailed f.status still.0.0) ∙ still_none tables feeds still.1

pub unread_none : (tables : List Table) (feeds : List Feed) → Front tables feeds → any_unread tables ≡ false → list_any (λ (f : Feed). is_failed f.status) feeds ≡ false
unread_none [] [] front none = refl
unread_none [] (f ∷ feeds) front none = absurd front
unread_none (s ∷ tables) [] front none = absurd front
unread_none (s ∷ tables) (f ∷ feeds) (inr still) none = still_none (s ∷ tables) (f ∷ feeds) still
unread_none (s ∷ tables) (f ∷ feeds) (inl rested) none =
    let both = or_none (is_unread s.found.kind) (any_unread tables) none in
    ap (λ b. b || list_any (λ (x : Feed). is_failed x.status) feeds) (ap (λ e. is_failed e.0) rested.0 ∙ whole_failed s.found.kind both.0) ∙ unread_none tables feeds rested.1 both.1
