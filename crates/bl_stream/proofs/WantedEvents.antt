-- The events of one commit that are asked for.
use Rattle.std.proofs.Common.{◌≡◌, ◌⊎◌, inl, inr, ℕ, suc, ◌+◌, ◌-◌, ◌<◌, ◌≤◌, Bool, true, false, cond, not, ◌&&◌, ◌||◌, Option, None, Some, nat_eq, nat_lt, nat_le, List, [], ◌∷◌, length, drop, refl, ap, sym, ◌∙◌, subst, arith}
use Rattle.std.specs.Prelude.{unwrap_or}
use Rattle.std.specs.List.{All, filter}
use Rattle.std.proofs.lemmas.List.{drop_all}
use Rattle.std.proofs.lemmas.List.Elements.{All-head, All-tail, All-weaker}
use Rattle.std.proofs.lemmas.Bool.{ltb-true, ltb-false, leb-true, leb-false, lt-ltb, le-ltb, le-leb, lt-leb, eq-eqb, ne_eqb, and_from, and_left, and_right, cases_lt}
use Rattle.bl_value.specs.declared.change.Change.{Change}
use Rattle.bl_change.specs.declared.event.Event.{Event}
use Rattle.bl_stream.specs.Events.{is_end, events_of, commit_events}
use Rattle.bl_stream.specs.Slices.{is_below, is_above, is_asked, is_wanted}
use Rattle.bl_stream.specs.Filling.{start_at, start_of, skipped}
use Rattle.bl_stream.specs.declared.start.Start.{Start}
use Rattle.bl_stream.specs.declared.commit.Commit.{Commit}
use Rattle.bl_stream.specs.declared.page_ask.Iterator4.{Iterator4}
use Rattle.bl_stream.specs.declared.page_ask.Iterator4.TheVariants.{At, After, TrimHorizon, Latest}
use Rattle.bl_stream.specs.declared.start.Before.{Before}
use Rattle.bl_stream.specs.declared.start.Before.TheVariants.{Operations, AllButOne}
use Rattle.bl_stream.proofs.EventLists.{IsOf, of_commit}

-- Filters that keep all, or nothing.
pub all_kept : (p : Event → Bool) (events : List Event) → All (λ event. p event ≡ true) events → filter p events ≡ events
all_kept p [] all = refl
all_kept p (event ∷ more) all =
    ap (λ (b : Bool). cond b (event ∷ filter p more) (filter p more)) (All-head (λ (e : Event). p e ≡ true) event more all)
    ∙ ap (λ (rest : List Event). event ∷ rest) (all_kept p more (All-tail (λ (e : Event). p e ≡ true) event more all))

pub none_kept : (p : Event → Bool) (events : List Event) → All (λ event. p event ≡ false) events → filter p events ≡ []
none_kept p [] all = refl
none_kept p (event ∷ more) all =
    ap (λ (b : Bool). cond b (event ∷ filter p more) (filter p more)) (All-head (λ (e : Event). p e ≡ false) event more all)
    ∙ none_kept p more (All-tail (λ (e : Event). p e ≡ false) event more all)

-- what a test says of each event of a commit
abbrev pub Says : (Event → Bool) → Bool → ℕ → Type 0
Says p answer number = (event : Event) → event.commit ≡ number → p event ≡ answer

pub commit_kept : (p : Event → Bool) (number : ℕ) (commit : Commit) → Says p true number → filter p (commit_events number commit) ≡ commit_events number commit
commit_kept p number commit says =
    all_kept p (commit_events number commit)
    (All-weaker (IsOf number) (λ (e : Event). p e ≡ true) says (commit_events number commit) (of_commit number 1 commit.moment commit.changes))

pub commit_dropped : (p : Event → Bool) (number : ℕ) (commit : Commit) → Says p false number → filter p (commit_events number commit) ≡ []
commit_dropped p number commit says =
    none_kept p (commit_events number commit)
    (All-weaker (IsOf number) (λ (e : Event). p e ≡ false) says (commit_events number commit) (of_commit number 1 commit.moment commit.changes))

-- a test that asks of the events of a commit whether they are from an operation on
pub record IsFrom (p : Event → Bool) (commit op : ℕ) : Type 0 where
  pub under : (event : Event) → event.commit ≡ commit → event.op < op → p event ≡ false
  pub over : (event : Event) → event.commit ≡ commit → op ≤ event.op → p event ≡ true

abbrev first_of : ℕ → ℕ → ℕ → Change → List Change → Event
first_of commit op moment change more = record { commit = commit; op = op; moment = moment; last = is_end more; change = change }

abbrev kept_first : (Event → Bool) → Event → List Event → Bool → List Event
kept_first p event rest b = cond b (event ∷ filter p rest) (filter p rest)

from_by : (p : Event → Bool) (commit from op moment : ℕ) (change : Change) (more : List Change) → IsFrom p commit from → (op < from) ⊎ (from ≤ op) →
    filter p (events_of commit (op + 1) moment more) ≡ drop (from - (op + 1)) (events_of commit (op + 1) moment more) →
    filter p (events_of commit op moment (change ∷ more)) ≡ drop (from - op) (events_of commit op moment (change ∷ more))
from_by p commit from op moment change more is (inl less) rest =
    let one : Event = first_of commit op moment change more in
    let others : List Event = events_of commit (op + 1) moment more in
    let count : from - op ≡ suc (from - (op + 1)) = omega arith in
    ap (kept_first p one others) (is.under one refl less) ∙ rest ∙ sym (ap (λ (n : ℕ). drop n (one ∷ others)) count)
from_by p commit from op moment change more is (inr least) rest =
    let one : Event = first_of commit op moment change more in
    let others : List Event = events_of commit (op + 1) moment more in
    let none : from - op ≡ 0 = omega arith in
    let none_more : from - (op + 1) ≡ 0 = omega arith in
    ap (kept_first p one others) (is.over one refl least) ∙ ap (λ (es : List Event). one ∷ es) (rest ∙ ap (λ (n : ℕ). drop n others) none_more)
    ∙ sym (ap (λ (n : ℕ). drop n (one ∷ others)) none)

-- it keeps what is left behind the operations before
pub filter_from : (p : Event → Bool) (commit from op moment : ℕ) (changes : List Change) → IsFrom p commit from →
    filter p (events_of commit op moment changes) ≡ drop (from - op) (events_of commit op moment changes)
filter_from p commit from op moment [] is = sym (drop_all (from - op) [] (omega arith))
filter_from p commit from op moment (change ∷ more) is =
    from_by p commit from op moment change more is (cases_lt op from) (filter_from p commit from (op + 1) moment more is)

-- a test that asks of the events of a commit whether they are the last
abbrev pub IsLast : (Event → Bool) → ℕ → Type 0
IsLast p commit = (event : Event) → event.commit ≡ commit → p event ≡ event.last

pub filter_last : (p : Event → Bool) (commit op moment : ℕ) (changes : List Change) → IsLast p commit →
    filter p (events_of commit op moment changes) ≡ drop (length changes - 1) (events_of commit op moment changes)
filter_last p commit op moment [] is = refl
filter_last p commit op moment (change ∷ []) is = ap (kept_first p (first_of commit op moment change []) []) (is (first_of commit op moment change []) refl)
filter_last p commit op moment (change ∷ (next ∷ more)) is =
    let one : Event = first_of commit op moment change (next ∷ more) in
    let others : List Event = events_of commit (op + 1) moment (next ∷ more) in
    let count : length (change ∷ (next ∷ more)) - 1 ≡ suc (length (next ∷ more) - 1) = omega arith in
    ap (kept_first p one others) (is one refl) ∙ filter_last p commit (op + 1) moment (next ∷ more) is ∙ sym (ap (λ (n : ℕ). drop n (one ∷ others)) count)

-- An event and a pair.
below_before : (commit op : ℕ) (event : Event) → event.commit < commit → is_below commit op event ≡ true
below_before commit op event h = ap (λ (b : Bool). b || (nat_eq event.commit commit && nat_lt event.op op)) (lt-ltb event.commit commit h)

below_behind : (commit op : ℕ) (event : Event) → commit < event.commit → is_below commit op event ≡ false
below_behind commit op event h =
    ap (λ (b : Bool). b || (nat_eq event.commit commit && nat_lt event.op op)) (le-ltb event.commit commit (omega arith))
    ∙ and_left (nat_eq event.commit commit) (nat_lt event.op op) (ne_eqb event.commit commit (λ same. omega (arith, same)))

below_within : (commit op : ℕ) (event : Event) → event.commit ≡ commit → is_below commit op event ≡ nat_lt event.op op
below_within commit op event h =
    ap (λ (b : Bool). b || (nat_eq event.commit commit && nat_lt event.op op)) (le-ltb event.commit commit (omega (arith, h)))
    ∙ ap (λ (b : Bool). b && nat_lt event.op op) (eq-eqb event.commit commit h)

above_before : (commit op : ℕ) (event : Event) → event.commit < commit → is_above commit op event ≡ false
above_before commit op event h =
    ap (λ (b : Bool). b || (nat_eq event.commit commit && nat_lt op event.op)) (le-ltb commit event.commit (omega arith))
    ∙ and_left (nat_eq event.commit commit) (nat_lt op event.op) (ne_eqb event.commit commit (λ same. omega (arith, same)))

above_behind : (commit op : ℕ) (event : Event) → commit < event.commit → is_above commit op event ≡ true
above_behind commit op event h = ap (λ (b : Bool). b || (nat_eq event.commit commit && nat_lt op event.op)) (lt-ltb commit event.commit h)

above_within : (commit op : ℕ) (event : Event) → event.commit ≡ commit → is_above commit op event ≡ nat_lt op event.op
above_within commit op event h =
    ap (λ (b : Bool). b || (nat_eq event.commit commit && nat_lt op event.op)) (le-ltb commit event.commit (omega (arith, h)))
    ∙ ap (λ (b : Bool). b && nat_lt op event.op) (eq-eqb event.commit commit h)

-- An event and a stream.
abbrev is_inside : ℕ × ℕ → Event → Bool
is_inside bounds event = nat_le bounds.0 event.commit && nat_le event.commit bounds.1

inside : (bounds : ℕ × ℕ) (event : Event) → bounds.0 ≤ event.commit → event.commit ≤ bounds.1 → is_inside bounds event ≡ true
inside bounds event low high = and_from (nat_le bounds.0 event.commit) (nat_le event.commit bounds.1) (le-leb bounds.0 event.commit low) (le-leb event.commit bounds.1 high)

abbrev asks : ℕ × ℕ → Iterator4 → Event → Bool
asks bounds iterator event = is_asked iterator bounds.1 event

-- inside the stream a test is that of the iterator
inside_is : (bounds : ℕ × ℕ) (iterator : Iterator4) (event : Event) → bounds.0 ≤ event.commit → event.commit ≤ bounds.1 → is_wanted (Some bounds) iterator event ≡ asks bounds iterator event
inside_is bounds iterator event low high = ap (λ (b : Bool). b && asks bounds iterator event) (inside bounds event low high)

unasked : (bounds : ℕ × ℕ) (iterator : Iterator4) (event : Event) → asks bounds iterator event ≡ false → is_wanted (Some bounds) iterator event ≡ false
unasked bounds iterator event is = and_right (is_inside bounds event) (asks bounds iterator event) is

outside_low : (bounds : ℕ × ℕ) (iterator : Iterator4) (event : Event) → event.commit < bounds.0 → is_wanted (Some bounds) iterator event ≡ false
outside_low bounds iterator event h =
    and_left (is_inside bounds event) (asks bounds iterator event)
    (and_left (nat_le bounds.0 event.commit) (nat_le event.commit bounds.1) (lt-leb bounds.0 event.commit h))

outside_high : (bounds : ℕ × ℕ) (iterator : Iterator4) (event : Event) → bounds.1 < event.commit → is_wanted (Some bounds) iterator event ≡ false
outside_high bounds iterator event h =
    and_left (is_inside bounds event) (asks bounds iterator event)
    (and_right (nat_le bounds.0 event.commit) (nat_le event.commit bounds.1) (lt-leb event.commit bounds.1 h))

pub unwanted_behind : (bounds : ℕ × ℕ) (iterator : Iterator4) (number : ℕ) → bounds.1 < number → Says (is_wanted (Some bounds) iterator) false number
unwanted_behind bounds iterator number h = λ event is. outside_high bounds iterator event (omega (arith, h, is))

-- the iterator names the commit of this number
abbrev pub Names : Iterator4 → ℕ → Type 0
Names (At commit op) number = commit ≡ number
Names (After commit op) number = commit ≡ number
Names TrimHorizon number = ⊥
Names Latest number = ⊥

-- Where a page begins: of the commit there, so much is left out, all later ones count, and no earlier one does.
pub record Starts (bounds : ℕ × ℕ) (iterator : Iterator4) (number : ℕ) (before : Before) : Type 0 where
  pub low : bounds.0 ≤ number
  pub high : number ≤ bounds.1
  pub earlier : (k : ℕ) → k < number → Says (is_wanted (Some bounds) iterator) false k
  pub later : (k : ℕ) → number < k → k ≤ bounds.1 → Says (is_wanted (Some bounds) iterator) true k
  -- not all of the commit is left out, but where the iterator names it
  pub part : ((n : ℕ) → 1 ≤ n → skipped before n < n) ⊎ Names iterator number
  pub here : (commit : Commit) → filter (is_wanted (Some bounds) iterator) (commit_events number commit) ≡ drop (skipped before (length commit.changes)) (commit_events number commit)

-- a start at the first commit of the stream
at_first : (bounds : ℕ × ℕ) (iterator : Iterator4) → bounds.0 ≤ bounds.1 →
    ((event : Event) → bounds.0 ≤ event.commit → asks bounds iterator event ≡ true) → Starts bounds iterator bounds.0 (Operations 0)
at_first bounds iterator some all =
    record {
      low = omega arith;
      high = some;
      earlier = λ k less event is. outside_low bounds iterator event (omega (arith, less, is));
      later =
          λ k more most event is.
          inside_is bounds iterator event (omega (arith, more, is)) (omega (arith, most, is)) ∙ all event (omega (arith, more, is));
      part = inl (λ n some_of. omega (arith, some_of));
      here =
          λ commit.
          commit_kept (is_wanted (Some bounds) iterator) bounds.0 commit
          (λ event is. inside_is bounds iterator event (omega (arith, is)) (omega (arith, some, is)) ∙ all event (omega (arith, is)));
    }

at_place : (bounds : ℕ × ℕ) (commit op : ℕ) → bounds.0 ≤ commit → commit ≤ bounds.1 → Starts bounds (At commit op) commit (Operations (op - 1))
at_place bounds commit op low high =
    record {
      low = low;
      high = high;
      earlier = λ k less event is. unasked bounds (At commit op) event (ap not (below_before commit op event (omega (arith, less, is))));
      later =
          λ k more most event is.
          inside_is bounds (At commit op) event (omega (arith, low, more, is)) (omega (arith, most, is))
          ∙ ap not (below_behind commit op event (omega (arith, more, is)));
      part = inr refl;
      here =
          λ it.
          filter_from (is_wanted (Some bounds) (At commit op)) commit op 1 it.moment it.changes
          (record {
            under = λ event is less. unasked bounds (At commit op) event (ap not (below_within commit op event is ∙ lt-ltb event.op op less));
            over =
                λ event is least.
                inside_is bounds (At commit op) event (omega (arith, low, is)) (omega (arith, high, is))
                ∙ ap not (below_within commit op event is ∙ le-ltb event.op op least);
          });
    }

behind_place : (bounds : ℕ × ℕ) (commit op : ℕ) → bounds.0 ≤ commit → commit ≤ bounds.1 → Starts bounds (After commit op) commit (Operations op)
behind_place bounds commit op low high =
    record {
      low = low;
      high = high;
      earlier = λ k less event is. unasked bounds (After commit op) event (above_before commit op event (omega (arith, less, is)));
      later =
          λ k more most event is.
          inside_is bounds (After commit op) event (omega (arith, low, more, is)) (omega (arith, most, is))
          ∙ above_behind commit op event (omega (arith, more, is));
      part = inr refl;
      here =
          λ it.
          filter_from (is_wanted (Some bounds) (After commit op)) commit (op + 1) 1 it.moment it.changes
          (record {
            under = λ event is less. unasked bounds (After commit op) event (above_within commit op event is ∙ le-ltb op event.op (omega (arith, less)));
            over =
                λ event is least.
                inside_is bounds (After commit op) event (omega (arith, low, is)) (omega (arith, high, is))
                ∙ above_within commit op event is ∙ lt-ltb op event.op (omega (arith, least));
          })
          ∙ ap (λ (n : ℕ). drop n (commit_events commit it)) (omega arith);
    }

at_latest : (bounds : ℕ × ℕ) → bounds.0 ≤ bounds.1 → Starts bounds Latest bounds.1 AllButOne
at_latest bounds some =
    record {
      low = some;
      high = omega arith;
      earlier =
          λ k less event is.
          unasked bounds Latest event (and_left (nat_eq event.commit bounds.1) event.last (ne_eqb event.commit bounds.1 (λ same. omega (arith, less, is, same))));
      later = λ k more most. absurd (omega (arith, more, most));
      part = inl (λ n some_of. omega (arith, some_of));
      here =
          λ it.
          filter_last (is_wanted (Some bounds) Latest) bounds.1 1 it.moment it.changes
          (λ event is.
          inside_is bounds Latest event (omega (arith, some, is)) (omega (arith, is)) ∙ ap (λ (b : Bool). b && event.last) (eq-eqb event.commit bounds.1 is));
    }

some_same : {x y : Start} → Some x ≡ Some y → x ≡ y
some_same {x} p = ap (λ (o : Option (Start)). unwrap_or o x) p

moved_start : (bounds : ℕ × ℕ) (iterator : Iterator4) (a b : Start) → a ≡ b → Starts bounds iterator a.number a.before → Starts bounds iterator b.number b.before
moved_start bounds iterator a b same starts = subst (λ (s : Start). Starts bounds iterator s.number s.before) same starts

abbrev place_by : ℕ × ℕ → ℕ → ℕ → Bool → Bool → Option (Start)
place_by bounds commit before low high = cond low (Some (start_at bounds.0 (Operations 0))) (cond high (Some (start_at commit (Operations before))) None)

-- by whether the commit that is named lies before the stream, in it, or behind it
start_by : (bounds : ℕ × ℕ) (iterator : Iterator4) (commit before : ℕ) (low high : Bool) → nat_lt commit bounds.0 ≡ low → nat_le commit bounds.1 ≡ high →
    (commit < bounds.0 → Starts bounds iterator bounds.0 (Operations 0)) →
    (bounds.0 ≤ commit → commit ≤ bounds.1 → Starts bounds iterator commit (Operations before)) →
    (at : Start) → place_by bounds commit before low high ≡ Some at → Starts bounds iterator at.number at.before
start_by bounds iterator commit before true high l h first place at is =
    moved_start bounds iterator (start_at bounds.0 (Operations 0)) at (some_same is) (first (ltb-true commit bounds.0 l))
start_by bounds iterator commit before false true l h first place at is =
    moved_start bounds iterator (start_at commit (Operations before)) at (some_same is) (place (ltb-false commit bounds.0 l) (leb-true commit bounds.1 h))
start_by bounds iterator commit before false false l h first place at is = cc

pub starts : (bounds : ℕ × ℕ) (iterator : Iterator4) (at : Start) → bounds.0 ≤ bounds.1 → start_of bounds iterator ≡ Some at → Starts bounds iterator at.number at.before
starts bounds (At commit op) at some is =
    start_by bounds (At commit op) commit (op - 1) (nat_lt commit bounds.0) (nat_le commit bounds.1) refl refl
    (λ less. at_first bounds (At commit op) some (λ event from. ap not (below_behind commit op event (omega (arith, less, from)))))
    (at_place bounds commit op) at is
starts bounds (After commit op) at some is =
    start_by bounds (After commit op) commit op (nat_lt commit bounds.0) (nat_le commit bounds.1) refl refl
    (λ less. at_first bounds (After commit op) some (λ event from. above_behind commit op event (omega (arith, less, from))))
    (behind_place bounds commit op) at is
starts bounds TrimHorizon at some is = moved_start bounds TrimHorizon (start_at bounds.0 (Operations 0)) at (some_same is) (at_first bounds TrimHorizon some (λ event from. refl))
starts bounds Latest at some is = moved_start bounds Latest (start_at bounds.1 AllButOne) at (some_same is) (at_latest bounds some)

-- Where there is no start, the commit that is named lies behind the stream.
nowhere : (bounds : ℕ × ℕ) (commit before : ℕ) (low high : Bool) → nat_le commit bounds.1 ≡ high →
    place_by bounds commit before low high ≡ None → bounds.1 < commit
nowhere bounds commit before true high h is = cc
nowhere bounds commit before false true h is = cc
nowhere bounds commit before false false h is = leb-false commit bounds.1 h

-- the commit that an iterator names lies behind the stream
abbrev pub IsBehind : ℕ × ℕ → Iterator4 → Type 0
IsBehind bounds (At commit op) = bounds.1 < commit
IsBehind bounds (After commit op) = bounds.1 < commit
IsBehind bounds TrimHorizon = ⊥
IsBehind bounds Latest = ⊥

pub no_start : (bounds : ℕ × ℕ) (iterator : Iterator4) → start_of bounds iterator ≡ None → IsBehind bounds iterator
no_start bounds (At commit op) is = nowhere bounds commit (op - 1) (nat_lt commit bounds.0) (nat_le commit bounds.1) refl is
no_start bounds (After commit op) is = nowhere bounds commit op (nat_lt commit bounds.0) (nat_le commit bounds.1) refl is
no_start bounds TrimHorizon is = cc
no_start bounds Latest is = cc

wanted_none : (bounds : ℕ × ℕ) (iterator : Iterator4) → IsBehind bounds iterator → (number : ℕ) → (bounds.1 < number) ⊎ (number ≤ bounds.1) → Says (is_wanted (Some bounds) iterator) false number
wanted_none bounds iterator is number (inl far) = unwanted_behind bounds iterator number far
wanted_none bounds (At commit op) is number (inr near) = λ event of. unasked bounds (At commit op) event (ap not (below_before commit op event (omega (arith, is, near, of))))
wanted_none bounds (After commit op) is number (inr near) = λ event of. unasked bounds (After commit op) event (above_before commit op event (omega (arith, is, near, of)))
wanted_none bounds TrimHorizon is number (inr near) = absurd is
wanted_none bounds Latest is number (inr near) = absurd is

pub nothing_wanted : (bounds : ℕ × ℕ) (iterator : Iterator4) → IsBehind bounds iterator → (number : ℕ) → Says (is_wanted (Some bounds) iterator) false number
nothing_wanted bounds iterator is number = wanted_none bounds iterator is number (cases_lt bounds.1 number)
