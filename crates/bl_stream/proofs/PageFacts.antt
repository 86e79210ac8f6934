-- What holds of a page, told or not, and that it is the slice where the commits are told.
use Rattle.std.proofs.Common.{◌≡◌, ◌⊎◌, inl, inr, ℕ, ◌+◌, ◌-◌, ◌<◌, ◌≤◌, ◌^◌, Bool, true, false, Option, None, Some, Ok, Err, List, [], ◌∷◌, ◌++◌, length, take, drop, refl, ap, sym, ◌∙◌, subst, arith, append_assoc, append-nil, length-append, length-drop, ◌||◌}
use Rattle.std.specs.Prelude.{slice_get, IfSome}
use Rattle.std.specs.List.{All, filter}
use Rattle.std.proofs.lemmas.List.Elements.{All-nil, All-append, All-take, All-drop, All-weaker, All-same, filter_passes}
use Rattle.std.proofs.lemmas.Bool.{lt-leb, cases_lt}
use Rattle.bl_change.specs.EventTexts.{IsEvent}
use Rattle.bl_change.specs.declared.event.Event.{Event}
use Rattle.bl_stream.specs.Events.{commit_events, RisesAbove}
use Rattle.bl_stream.specs.Slices.{Filled, nothing, is_full, is_wanted, slice, with_events}
use Rattle.bl_stream.specs.Readers.{IsCommit, IsTold, Gives}
use Rattle.bl_stream.specs.Pages.{HasEach, IsPage, IsAtEnd, Pages}
use Rattle.bl_stream.specs.Filling.{Adds, HasTaken, IsFilled, behind, skipped}
use Rattle.bl_stream.specs.declared.commit.Commit.{Commit}
use Rattle.bl_stream.specs.declared.page_ask.Iterator4.{Iterator4}
use Rattle.bl_stream.specs.declared.page_ask.Iterator4.TheVariants.{At, After, TrimHorizon, Latest}
use Rattle.bl_stream.specs.declared.page_ask.PageAsk.{PageAsk}
use Rattle.bl_stream.specs.declared.page.Page.{Page}
use Rattle.bl_stream.specs.declared.page.PageRefusal.TheVariants.{NoRecords}
use Rattle.bl_stream.specs.declared.start.Before.{Before}
use Rattle.bl_stream.proofs.EventLists.{IsOf, of_commit, events_rise, events_valid, events_dropped, length-events_of, rises_lower, rises_take, rises_append}
use Rattle.bl_stream.proofs.FilledPages.{HasFront, has_front, some_added, with_events-append}
use Rattle.bl_stream.proofs.WantedEvents.{Names, Starts, IsBehind}
use Rattle.bl_stream.proofs.ReadSlices.{behind_more, behind_all, wanted_is, wanted_nothing, wanted_of_none}

-- The numbers of commits that are told.
pub told_lower : (told : Option (List Commit)) (low high : ℕ) → 1 ≤ low → low ≤ high → IsTold told high → IsTold told low
told_lower None low high some less is = tt
told_lower (Some commits) low high some less is = (some, omega (arith, is.1))

pub told_each : (told : Option (List Commit)) (bounds : ℕ × ℕ) → 1 ≤ bounds.1 → HasEach told (Some bounds) → IsTold told bounds.1
told_each None bounds some is = tt
told_each (Some commits) bounds some is = (some, is)

-- the events of a commit are in their ranges
commit_valid : (number : ℕ) (commit : Commit) → 1 ≤ number → number < 2 ^ 64 → length commit.changes < 2 ^ 64 → IsCommit commit → All IsEvent (commit_events number commit)
commit_valid number commit some fits count is = events_valid number 1 commit.moment commit.changes some fits is.moment (omega arith) (omega (arith, count)) is.changes

abbrev Under : ℕ → Event → Type 0
Under number event = event.commit ≤ number

abbrev Over : ℕ → Event → Type 0
Over number event = number < event.commit

-- nothing is added
pub adds_nothing : (number : ℕ) (page : Filled) → Adds number number page page
adds_nothing number page =
    record {
      added = [];
      events = sym (append-nil page.events);
      valid = All-nil IsEvent;
      rising = tt;
      after = All-nil (Over number);
      within = All-nil (Under number);
    }

-- one more commit is added
pub adds_more : (number read : ℕ) (old page after : Filled) (commit : Commit) → number ≤ read → read + 1 < 2 ^ 64 → length commit.changes < 2 ^ 64 → IsCommit commit →
    Adds number read old page → after ≡ with_events page (commit_events (read + 1) commit) → Adds number (read + 1) old after
adds_more number read old page after commit from fits count is before now =
    let es : List Event = commit_events (read + 1) commit in
    let front : HasFront page es (with_events page es) = has_front page es in
    let some : List Event = take front.0 es in
    let of : All (IsOf (read + 1)) some = All-take (IsOf (read + 1)) front.0 es (of_commit (read + 1) 1 commit.moment commit.changes) in
    let over : All (Over read) some = All-weaker (IsOf (read + 1)) (Over read) (λ event one. omega (arith, one)) some of in
    record {
      added = before.added ++ some;
      events =
          ap (λ (p : Filled). p.events) now ∙ front.1 ∙ ap (λ (them : List Event). them ++ some) before.events
          ∙ append_assoc old.events before.added some;
      valid =
          All-append IsEvent before.added some before.valid
          (All-take IsEvent front.0 es (commit_valid (read + 1) commit (omega arith) fits count is));
      rising =
          rises_append number 0 read before.added some from before.within over before.rising
          (rises_take front.0 read 0 es
          (rises_lower read 0 (read + 1) 0 es (inl (omega arith)) (events_rise (read + 1) 1 commit.moment 0 commit.changes (omega arith))));
      after =
          All-append (Over number) before.added some before.after
          (All-weaker (Over read) (Over number) (λ event one. omega (arith, one, from)) some over);
      within =
          All-append (Under (read + 1)) before.added some
          (All-weaker (Under read) (Under (read + 1)) (λ event one. omega (arith, one)) before.added before.within)
          (All-weaker (IsOf (read + 1)) (Under (read + 1)) (λ event one. omega (arith, one)) some of);
    }

-- all up to one commit are up to a later one
pub adds_within : (number read newest : ℕ) (old page : Filled) → read ≤ newest → Adds number read old page → Adds number newest old page
adds_within number read newest old page less is =
    record {
      added = is.added;
      events = is.events;
      valid = is.valid;
      rising = is.rising;
      after = is.after;
      within = All-weaker (Under read) (Under newest) (λ event one. omega (arith, one, less)) is.added is.within;
    }

-- A page that is filled with all that is behind a commit, so far: what is behind the last one read would still be added.
abbrev pub Goes : Option (List Commit) → ℕ → ℕ → ℕ → Filled → Filled → Type 0
Goes None number read newest old page = Unit {0}
Goes (Some commits) number read newest old page = with_events page (behind read newest commits) ≡ with_events old (behind number newest commits)

pub goes_none : (told : Option (List Commit)) (number newest : ℕ) (page : Filled) → Goes told number number newest page page
goes_none None number newest page = tt
goes_none (Some commits) number newest page = refl

pub goes_more : (told : Option (List Commit)) (number read newest : ℕ) (old page after : Filled) (commit : Commit) → read < newest → Gives told (read + 1) commit →
    Goes told number read newest old page → after ≡ with_events page (commit_events (read + 1) commit) → Goes told number (read + 1) newest old after
goes_more None number read newest old page after commit less is goes now = tt
goes_more (Some commits) number read newest old page after commit less is goes now =
    let at : slice_get commits read ≡ Some commit = ap (λ (n : ℕ). slice_get commits n) (omega arith) ∙ is in
    ap (λ (p : Filled). with_events p (behind (read + 1) newest commits)) now
    ∙ sym (with_events-append page (commit_events (read + 1) commit) (behind (read + 1) newest commits))
    ∙ ap (with_events page) (sym (behind_more read newest commits commit less at)) ∙ goes

pub goes_full : (told : Option (List Commit)) (number read newest : ℕ) (old page : Filled) → ((events : List Event) → with_events page events ≡ page) →
    Goes told number read newest old page → HasTaken told number newest old page
goes_full None number read newest old page full goes = tt
goes_full (Some commits) number read newest old page full goes = sym (full (behind read newest commits)) ∙ goes

pub goes_all : (told : Option (List Commit)) (number read newest : ℕ) (old page : Filled) → newest ≤ read → Goes told number read newest old page → HasTaken told number newest old page
goes_all None number read newest old page most goes = tt
goes_all (Some commits) number read newest old page most goes = sym (ap (with_events page) (behind_all read newest commits most)) ∙ goes

-- the first commit of a page, and all others
pub record Made (bounds : ℕ × ℕ) (ask : PageAsk) (number : ℕ) (before : Before) (commit : Commit) (first all : Filled) : Type 0 where
  pub starts : Starts bounds ask.iterator number before
  pub some : 1 ≤ number
  pub fits : number < 2 ^ 64
  pub room : 1 ≤ ask.limit
  pub sound : IsCommit commit
  pub count : length commit.changes < 2 ^ 64
  pub begun : first ≡ with_events (nothing ask.limit) (drop (skipped before (length commit.changes)) (commit_events number commit))
  pub adds : Adds number bounds.1 first all
  pub full : number < bounds.1 → 1 ≤ length all.events

abbrev IsWanted : ℕ × ℕ → PageAsk → Event → Type 0
IsWanted bounds ask event = is_wanted (Some bounds) ask.iterator event ≡ true

pub made_page : (bounds : ℕ × ℕ) (ask : PageAsk) (number : ℕ) (before : Before) (commit : Commit) (first all : Filled) → Made bounds ask number before commit first all →
    1 ≤ length all.events → length all.events ≤ ask.limit → IsPage (Some bounds) ask all.events
made_page bounds ask number before commit first all is some count =
    let skip : ℕ = skipped before (length commit.changes) in
    let es : List Event = commit_events number commit in
    let left : List Event = drop skip es in
    let front : HasFront (nothing ask.limit) left (with_events (nothing ask.limit) left) = has_front (nothing ask.limit) left in
    let here : first.events ≡ take front.0 left = ap (λ (p : Filled). p.events) is.begun ∙ front.1 in
    let own : All IsEvent (take front.0 left) =
    All-take IsEvent front.0 left (All-drop IsEvent skip es (commit_valid number commit is.some is.fits is.count is.sound)) in
    let rise : RisesAbove 0 0 (take front.0 left) =
    rises_take front.0 0 0 left
    (rises_lower 0 0 number 0 left (inl (omega (arith, is.some)))
    (subst (RisesAbove number 0) (sym (events_dropped skip number 1 commit.moment commit.changes))
    (events_rise number (1 + skip) commit.moment 0 (drop skip commit.changes) (omega arith)))) in
    let under : All (Under number) (take front.0 left) =
    All-take (Under number) front.0 left
    (All-drop (Under number) skip es
    (All-weaker (IsOf number) (Under number) (λ event one. omega (arith, one)) es (of_commit number 1 commit.moment commit.changes))) in
    let wants : All (IsWanted bounds ask) (take front.0 left) =
    All-take (IsWanted bounds ask) front.0 left
    (All-same (IsWanted bounds ask) left (filter (is_wanted (Some bounds) ask.iterator) es) (sym (is.starts.here commit))
    (filter_passes (is_wanted (Some bounds) ask.iterator) es)) in
    let whole : all.events ≡ take front.0 left ++ is.adds.added = is.adds.events ∙ ap (λ (them : List Event). them ++ is.adds.added) here in
    let wants_more : All (IsWanted bounds ask) is.adds.added =
    λ k d less. is.starts.later _ (is.adds.after k d less) (is.adds.within k d less) _ refl in
    record {
      some = some;
      count = count;
      valid = All-same IsEvent all.events (take front.0 left ++ is.adds.added) whole (All-append IsEvent (take front.0 left) is.adds.added own is.adds.valid);
      rising = subst (RisesAbove 0 0) (sym whole) (rises_append 0 0 number (take front.0 left) is.adds.added (omega arith) under is.adds.after rise is.adds.rising);
      asked = All-same (IsWanted bounds ask) all.events (take front.0 left ++ is.adds.added) whole (All-append (IsWanted bounds ask) (take front.0 left) is.adds.added wants wants_more);
    }

-- the page is the slice
made_slice : (bounds : ℕ × ℕ) (ask : PageAsk) (number : ℕ) (before : Before) (commit : Commit) (first all : Filled) (commits : List Commit) →
    Made bounds ask number before commit first all → slice_get commits (number - 1) ≡ Some commit → all ≡ with_events first (behind number bounds.1 commits) →
    all.events ≡ slice (Some bounds) ask commits
made_slice bounds ask number before commit first all commits is at taken =
    let left : List Event = drop (skipped before (length commit.changes)) (commit_events number commit) in
    let rest : List Event = behind number bounds.1 commits in
    ap (λ (p : Filled). p.events)
    (taken ∙ ap (λ (p : Filled). with_events p rest) is.begun ∙ sym (with_events-append (nothing ask.limit) left rest)
    ∙ ap (with_events (nothing ask.limit)) (sym (wanted_is bounds ask.iterator number before commits commit is.some is.starts at)))

pub made_told : (told : Option (List Commit)) (bounds : ℕ × ℕ) (ask : PageAsk) (number : ℕ) (before : Before) (commit : Commit) (first all : Filled) →
    Made bounds ask number before commit first all → Gives told number commit → HasTaken told number bounds.1 first all → IfSome told (λ commits. all.events ≡ slice (Some bounds) ask commits)
made_told None bounds ask number before commit first all is gives taken = tt
made_told (Some commits) bounds ask number before commit first all is gives taken = made_slice bounds ask number before commit first all commits is gives taken

-- The answer where a page was filled.
pub slice_answer : (told : Option (List Commit)) (bounds : ℕ × ℕ) (ask : PageAsk) (all : Filled) (page : Page) →
    IfSome told (λ commits. all.events ≡ slice (Some bounds) ask commits) → page.events ≡ all.events → Pages told (Some bounds) ask (Ok page)
slice_answer None bounds ask all page is same = tt
slice_answer (Some commits) bounds ask all page is same = same ∙ is

empty_list : (events : List Event) → length events ≡ 0 → events ≡ []
empty_list [] none = refl
empty_list (event ∷ more) none = absurd (omega (arith, none))

pub slice_none : (told : Option (List Commit)) (bounds : ℕ × ℕ) (ask : PageAsk) (all : Filled) →
    IfSome told (λ commits. all.events ≡ slice (Some bounds) ask commits) → length all.events ≡ 0 → Pages told (Some bounds) ask (Err NoRecords)
slice_none None bounds ask all is none = tt
slice_none (Some commits) bounds ask all is none = sym is ∙ empty_list all.events none

-- a list that has items begins with one
pub some_of : (page : Filled) (events : List Event) → is_full page ≡ false → 1 ≤ length events → 1 ≤ length (with_events page events).events
some_of page [] is some = absurd (omega (arith, some))
some_of page (event ∷ more) is some = some_added page event more is

named_end : (bounds : ℕ × ℕ) (iterator : Iterator4) (number : ℕ) → bounds.1 ≤ number → Names iterator number → IsAtEnd (Some bounds) iterator
named_end bounds (At commit op) number most is = omega (arith, most, is)
named_end bounds (After commit op) number most is = omega (arith, most, is)
named_end bounds TrimHorizon number most is = absurd is
named_end bounds Latest number most is = absurd is

end_by : (bounds : ℕ × ℕ) (ask : PageAsk) (number : ℕ) (before : Before) (commit : Commit) (first all : Filled) → Made bounds ask number before commit first all →
    length all.events ≡ 0 → bounds.1 ≤ number → ((n : ℕ) → 1 ≤ n → skipped before n < n) ⊎ Names ask.iterator number → IsAtEnd (Some bounds) ask.iterator
end_by bounds ask number before commit first all is none most (inr names) = named_end bounds ask.iterator number most names
end_by bounds ask number before commit first all is none most (inl part) =
    let skip : ℕ = skipped before (length commit.changes) in
    let es : List Event = commit_events number commit in
    let less : skip < length commit.changes = part (length commit.changes) is.sound.some in
    let left : 1 ≤ length (drop skip es) = omega (arith, length-drop skip es, length-events_of number 1 commit.moment commit.changes, less) in
    let empty : is_full (nothing ask.limit) ≡ false = ap (λ (b : Bool). b || false) (lt-leb ask.limit 0 (omega (arith, is.room))) in
    let some : 1 ≤ length (with_events (nothing ask.limit) (drop skip es)).events = some_of (nothing ask.limit) (drop skip es) empty left in
    absurd
    (omega (arith, some, ap (λ (p : Filled). length p.events) is.begun, ap length is.adds.events, none, length-append first.events is.adds.added))

-- no commit is behind the one that is named, where nothing was found
pub made_end : (bounds : ℕ × ℕ) (ask : PageAsk) (number : ℕ) (before : Before) (commit : Commit) (first all : Filled) → Made bounds ask number before commit first all →
    length all.events ≡ 0 → IsAtEnd (Some bounds) ask.iterator
made_end bounds ask number before commit first all is none =
    end_by bounds ask number before commit first all is none (newest_by (cases_lt number bounds.1)) is.starts.part
  where
    newest_by : (number < bounds.1) ⊎ (bounds.1 ≤ number) → bounds.1 ≤ number
    newest_by (inl less) = absurd (omega (arith, is.full less, none))
    newest_by (inr most) = most

-- Where there is no start.
pub behind_end : (bounds : ℕ × ℕ) (iterator : Iterator4) → IsBehind bounds iterator → IsAtEnd (Some bounds) iterator
behind_end bounds (At commit op) is = omega (arith, is)
behind_end bounds (After commit op) is = omega (arith, is)
behind_end bounds TrimHorizon is = is
behind_end bounds Latest is = is

pub behind_nothing : (told : Option (List Commit)) (bounds : ℕ × ℕ) (ask : PageAsk) → IsBehind bounds ask.iterator → Pages told (Some bounds) ask (Err NoRecords)
behind_nothing None bounds ask is = tt
behind_nothing (Some commits) bounds ask is = ap (λ (es : List Event). (with_events (nothing ask.limit) es).events) (wanted_nothing bounds ask.iterator commits is)

-- where there is no commit
pub none_nothing : (told : Option (List Commit)) (ask : PageAsk) → Pages told None ask (Err NoRecords)
none_nothing None ask = tt
none_nothing (Some commits) ask = ap (λ (es : List Event). (with_events (nothing ask.limit) es).events) (wanted_of_none ask.iterator commits)

-- all of it
pub made_filled : (told : Option (List Commit)) (bounds : ℕ × ℕ) (ask : PageAsk) (number : ℕ) (before : Before) (commit : Commit) (first all : Filled) →
    Made bounds ask number before commit first all → Gives told number commit → HasTaken told number bounds.1 first all → all.limit ≡ ask.limit → IsFilled told bounds ask all
made_filled told bounds ask number before commit first all is gives taken limit =
    record {
      limit = limit;
      slice_is = made_told told bounds ask number before commit first all is gives taken;
      page_is = made_page bounds ask number before commit first all is;
      none = made_end bounds ask number before commit first all is;
    }
