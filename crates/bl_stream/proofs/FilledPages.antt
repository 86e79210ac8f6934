-- Pages that are being filled.
use Rattle.std.proofs.Common.{◌≡◌, ℕ, suc, ◌+◌, ◌-◌, ◌<◌, ◌≤◌, Bool, true, false, cond, List, [], ◌∷◌, ◌++◌, length, take, drop, nat_eq, refl, ap, sym, ◌∙◌, arith, append_assoc, append-nil, length-append, length-drop, eq-eqb}
use Rattle.std.proofs.lemmas.Bool.{ne_eqb}
use Rattle.std.proofs.lemmas.List.{drop_all}
use Rattle.std.proofs.lemmas.List.Folds.{fold_stays}
use Rattle.std.proofs.lemmas.List.Sums.{fold-append}
use Rattle.bl_change.specs.declared.event.Event.{Event}
use Rattle.bl_value.specs.declared.change.Change.{Change}
use Rattle.bl_change.specs.EventText.{event_text}
use Rattle.bl_stream.specs.Events.{is_end, events_of, commit_events}
use Rattle.bl_stream.specs.declared.commit.Commit.{Commit}
use Rattle.bl_stream.proofs.EventLists.{events_dropped, length-events_of}
use Rattle.bl_stream.specs.Slices.{Filled, is_full, with_event, with_events}

-- the page with one more event
abbrev with_one : Filled → Event → Filled
with_one page event = record { limit = page.limit; events = page.events ++ event ∷ []; room = page.room - length (event_text event) }

-- a full page takes nothing
pub full_stays : (page : Filled) (events : List Event) → is_full page ≡ true → with_events page events ≡ page
full_stays page events full = fold_stays with_event page (λ event. ap (λ (b : Bool). cond b page (with_one page event)) full) events

-- what is added in two parts is added
pub with_events-append : (page : Filled) (xs ys : List Event) → with_events page (xs ++ ys) ≡ with_events (with_events page xs) ys
with_events-append page xs ys = fold-append with_event page xs ys

takes : (page : Filled) (event : Event) → is_full page ≡ false → with_event page event ≡ with_one page event
takes page event is = ap (λ (b : Bool). cond b page (with_one page event)) is

-- a front of the events is added
abbrev pub HasFront : Filled → List Event → Filled → Type 0
HasFront page added after = (n : ℕ) × (after.events ≡ page.events ++ take n added)

front_by : (full : Bool) (page : Filled) (event : Event) (more : List Event) → is_full page ≡ full →
    ((after : Filled) → HasFront after more (with_events after more)) → HasFront page (event ∷ more) (with_events page (event ∷ more))
front_by true page event more is rest = (0, ap (λ (after : Filled). after.events) (full_stays page (event ∷ more) is) ∙ sym (append-nil page.events))
front_by false page event more is rest =
    let after : Filled = with_one page event in
    let front : HasFront after more (with_events after more) = rest after in (
      suc front.0,
      ap (λ (p : Filled). (with_events p more).events) (takes page event is) ∙ front.1 ∙ append_assoc page.events (event ∷ []) (take front.0 more),
    )

pub has_front : (page : Filled) (added : List Event) → HasFront page added (with_events page added)
has_front page [] = (0, sym (append-nil page.events))
has_front page (event ∷ more) = front_by (is_full page) page event more refl (λ after. has_front after more)

limit_by : (full : Bool) (page : Filled) (event : Event) → is_full page ≡ full → (with_event page event).limit ≡ page.limit
limit_by true page event is = ap (λ (b : Bool). (cond b page (with_one page event)).limit) is
limit_by false page event is = ap (λ (b : Bool). (cond b page (with_one page event)).limit) is

pub limit_stays : (page : Filled) (added : List Event) → (with_events page added).limit ≡ page.limit
limit_stays page [] = refl
limit_stays page (event ∷ more) = limit_stays (with_event page event) more ∙ limit_by (is_full page) page event refl

-- an open page has an event once it was given one
pub some_added : (page : Filled) (event : Event) (more : List Event) → is_full page ≡ false → 1 ≤ length (with_events page (event ∷ more)).events
some_added page event more is =
    let front : HasFront (with_event page event) more (with_events (with_event page event) more) = has_front (with_event page event) more in
    let events : (with_events page (event ∷ more)).events ≡ (page.events ++ event ∷ []) ++ take front.0 more =
    front.1 ∙ ap (λ (p : Filled). p.events ++ take front.0 more) (takes page event is) in
    omega (arith, ap length events, length-append (page.events ++ event ∷ []) (take front.0 more), length-append page.events (event ∷ []))

-- the change behind which none is left is the last
pub last_is : (left : ℕ) (rest : List Change) → left ≡ length rest → nat_eq left 0 ≡ is_end rest
last_is left [] h = eq-eqb left 0 (omega (arith, h))
last_is left (change ∷ rest) h = ne_eqb left 0 (λ none. omega (arith, h, none))

-- one more change of a commit
pub one_more : (page after : Filled) (commit op moment : ℕ) (last : Bool) (change : Change) (rest : List Change) → last ≡ is_end rest →
    after ≡ with_event page (record { commit = commit; op = op; moment = moment; last = last; change = change }) →
    with_events after (events_of commit (op + 1) moment rest) ≡ with_events page (events_of commit op moment (change ∷ rest))
one_more page after commit op moment last change rest is_last now =
    ap (λ (p : Filled). with_events p (events_of commit (op + 1) moment rest))
    (now ∙ ap (λ (b : Bool). with_event page (record { commit = commit; op = op; moment = moment; last = b; change = change })) is_last)

-- what is left of a commit without its first operations
pub left_events : (number before operations : ℕ) (commit : Commit) (changes : List Change) → changes ≡ drop before commit.changes → operations ≡ length commit.changes → before < operations →
    events_of number (operations - length changes + 1) commit.moment changes ≡ drop before (commit_events number commit)
left_events number before operations commit changes same count less =
    let op : operations - length changes + 1 ≡ 1 + before = omega (arith, ap length same, length-drop before commit.changes) in
    ap (λ (o : ℕ). events_of number o commit.moment changes) op ∙ ap (events_of number (1 + before) commit.moment) same
    ∙ sym (events_dropped before number 1 commit.moment commit.changes)

pub none_left : (page : Filled) (number before : ℕ) (commit : Commit) → length commit.changes ≤ before → page ≡ with_events page (drop before (commit_events number commit))
none_left page number before commit most =
    ap (with_events page) (sym (drop_all before (commit_events number commit) (omega (arith, length-events_of number 1 commit.moment commit.changes, most))))
