-- A slice, read commit by commit.
use Rattle.std.proofs.Common.{◌≡◌, ℕ, zero, suc, ◌+◌, ◌-◌, ◌<◌, ◌≤◌, Bool, true, false, None, Some, List, [], ◌∷◌, ◌++◌, length, take, drop, refl, ap, sym, ◌∙◌, subst, arith}
use Rattle.std.specs.Prelude.{slice_get}
use Rattle.std.specs.List.{filter}
use Rattle.std.proofs.lemmas.List.Elements.{filter-append}
use Rattle.bl_change.specs.declared.event.Event.{Event}
use Rattle.bl_stream.specs.Events.{commit_events, events_from}
use Rattle.bl_stream.specs.Slices.{is_wanted, wanted}
use Rattle.bl_stream.specs.Filling.{behind, skipped}
use Rattle.bl_stream.specs.declared.commit.Commit.{Commit}
use Rattle.bl_stream.specs.declared.page_ask.Iterator4.{Iterator4}
use Rattle.bl_stream.specs.declared.start.Before.{Before}
use Rattle.bl_stream.proofs.WantedEvents.{Says, commit_kept, commit_dropped, unwanted_behind, Starts, IsBehind, nothing_wanted}

-- the commit at an index, and those behind it
pub drop_at_get : (i : ℕ) (commits : List Commit) (commit : Commit) → slice_get commits i ≡ Some commit → drop i commits ≡ commit ∷ drop (i + 1) commits
drop_at_get i [] commit is = cc
drop_at_get zero (first ∷ more) commit is = let same : first ≡ commit = cc in subst (λ (c : Commit). first ∷ more ≡ c ∷ more) same refl
drop_at_get (suc i) (first ∷ more) commit is = let up : i + 1 + 1 ≡ suc (i + 1) = omega arith in
    let up_more : suc i + 1 ≡ suc (i + 1) = omega arith in
    drop_at_get i more commit is ∙ sym (ap (λ (n : ℕ). commit ∷ drop n (first ∷ more)) up_more)

-- one more commit of those behind a commit
pub behind_more : (number newest : ℕ) (commits : List Commit) (commit : Commit) → number < newest → slice_get commits number ≡ Some commit →
    behind number newest commits ≡ commit_events (number + 1) commit ++ behind (number + 1) newest commits
behind_more number newest commits commit less is =
    let count : newest - number ≡ suc (newest - (number + 1)) = omega arith in
    ap (λ (n : ℕ). events_from (number + 1) (take n (drop number commits))) count
    ∙ ap (λ (rest : List Commit). events_from (number + 1) (take (suc (newest - (number + 1))) rest)) (drop_at_get number commits commit is)

pub behind_all : (number newest : ℕ) (commits : List Commit) → newest ≤ number → behind number newest commits ≡ []
behind_all number newest commits most =
    let none : newest - number ≡ 0 = omega arith in
    ap (λ (n : ℕ). events_from (number + 1) (take n (drop number commits))) none

-- nothing of commits is kept of which nothing is
none_from : (p : Event → Bool) (number : ℕ) (commits : List Commit) → ((k : ℕ) → number ≤ k → Says p false k) → filter p (events_from number commits) ≡ []
none_from p number [] none = refl
none_from p number (commit ∷ more) none =
    filter-append p (commit_events number commit) (events_from (number + 1) more)
    ∙ ap (λ (front : List Event). front ++ filter p (events_from (number + 1) more)) (commit_dropped p number commit (none number (omega arith)))
    ∙ none_from p (number + 1) more (λ k from. none k (omega (arith, from)))

-- commits at the front of which nothing is kept
skip_front : (p : Event → Bool) (n number at : ℕ) (commits : List Commit) → at ≡ number + n → ((k : ℕ) → k < at → Says p false k) →
    filter p (events_from number commits) ≡ filter p (events_from at (drop n commits))
skip_front p zero number at commits is none = ap (λ (m : ℕ). filter p (events_from m commits)) (omega (arith, is))
skip_front p (suc n) number at [] is none = refl
skip_front p (suc n) number at (commit ∷ more) is none =
    filter-append p (commit_events number commit) (events_from (number + 1) more)
    ∙ ap (λ (front : List Event). front ++ filter p (events_from (number + 1) more)) (commit_dropped p number commit (none number (omega (arith, is))))
    ∙ skip_front p n (number + 1) at more (omega (arith, is)) none

-- so many commits of which all is kept, and then none
keep_front : (p : Event → Bool) (n number : ℕ) (commits : List Commit) → ((k : ℕ) → number ≤ k → k < number + n → Says p true k) → ((k : ℕ) → number + n ≤ k → Says p false k) →
    filter p (events_from number commits) ≡ events_from number (take n commits)
keep_front p zero number commits all none = none_from p number commits (λ k from. none k (omega (arith, from)))
keep_front p (suc n) number [] all none = refl
keep_front p (suc n) number (commit ∷ more) all none =
    filter-append p (commit_events number commit) (events_from (number + 1) more)
    ∙ ap (λ (front : List Event). front ++ filter p (events_from (number + 1) more)) (commit_kept p number commit (all number (omega arith) (omega arith)))
    ∙ ap (λ (rest : List Event). commit_events number commit ++ rest)
    (keep_front p n (number + 1) more (λ k from below. all k (omega (arith, from)) (omega (arith, below))) (λ k from. none k (omega (arith, from))))

-- what is asked for, from the commit on that is read first
pub wanted_is : (bounds : ℕ × ℕ) (iterator : Iterator4) (number : ℕ) (before : Before) (commits : List Commit) (commit : Commit) → 1 ≤ number →
    Starts bounds iterator number before → slice_get commits (number - 1) ≡ Some commit →
    wanted (Some bounds) iterator commits ≡ drop (skipped before (length commit.changes)) (commit_events number commit) ++ behind number bounds.1 commits
wanted_is bounds iterator number before commits commit from starts is =
    let p : Event → Bool = is_wanted (Some bounds) iterator in
    let up : number - 1 + 1 ≡ number = omega arith in
    let front : drop (number - 1) commits ≡ commit ∷ drop number commits =
    drop_at_get (number - 1) commits commit is ∙ ap (λ (n : ℕ). commit ∷ drop n commits) up in
    skip_front p (number - 1) 1 number commits (omega arith) starts.earlier
    ∙ ap (λ (rest : List Commit). filter p (events_from number rest)) front
    ∙ filter-append p (commit_events number commit) (events_from (number + 1) (drop number commits))
    ∙ ap (λ (es : List Event). es ++ filter p (events_from (number + 1) (drop number commits))) (starts.here commit)
    ∙ ap (λ (es : List Event). drop (skipped before (length commit.changes)) (commit_events number commit) ++ es)
    (keep_front p (bounds.1 - number) (number + 1) (drop number commits)
    (λ k least below. starts.later k (omega (arith, least)) (omega (arith, below, starts.high)))
    (λ k past. unwanted_behind bounds iterator k (omega (arith, past, starts.high))))

-- where there is no start, nothing is asked for
pub wanted_nothing : (bounds : ℕ × ℕ) (iterator : Iterator4) (commits : List Commit) → IsBehind bounds iterator → wanted (Some bounds) iterator commits ≡ []
wanted_nothing bounds iterator commits is = none_from (is_wanted (Some bounds) iterator) 1 commits (λ k from. nothing_wanted bounds iterator is k)

pub wanted_of_none : (iterator : Iterator4) (commits : List Commit) → wanted None iterator commits ≡ []
wanted_of_none iterator commits = none_from (is_wanted None iterator) 1 commits (λ k from event of. refl)
