-- The events of a commit: whose they are, that they rise, and that they are in their ranges.
use Rattle.std.proofs.Common.{◌≡◌, ◌⊎◌, inl, inr, ℕ, zero, suc, ◌+◌, ◌<◌, ◌≤◌, ◌^◌, List, [], ◌∷◌, ◌++◌, length, take, drop, refl, ap, ◌∙◌, arith}
use Rattle.std.specs.List.{All}
use Rattle.std.proofs.lemmas.List.Elements.{All-nil, All-cons, All-head, All-tail}
use Rattle.bl_value.specs.Valid.{IsChange}
use Rattle.bl_value.specs.declared.change.Change.{Change}
use Rattle.bl_change.specs.EventTexts.{IsEvent}
use Rattle.bl_change.specs.declared.event.Event.{Event}
use Rattle.bl_stream.specs.Events.{is_end, events_of, RisesAbove}

-- the first event of changes
abbrev first_event : ℕ → ℕ → ℕ → Change → List Change → Event
first_event commit op moment change more = record { commit = commit; op = op; moment = moment; last = is_end more; change = change }

abbrev pub IsOf : ℕ → Event → Type 0
IsOf commit event = event.commit ≡ commit

pub of_commit : (commit op moment : ℕ) (changes : List Change) → All (IsOf commit) (events_of commit op moment changes)
of_commit commit op moment [] = All-nil (IsOf commit)
of_commit commit op moment (change ∷ more) =
    All-cons (IsOf commit) (first_event commit op moment change more) (events_of commit (op + 1) moment more) refl (of_commit commit (op + 1) moment more)

pub events_rise : (commit op moment low : ℕ) (changes : List Change) → low < op → RisesAbove commit low (events_of commit op moment changes)
events_rise commit op moment low [] h = tt
events_rise commit op moment low (change ∷ more) h = (inr (refl, h), events_rise commit (op + 1) moment op more (omega arith))

pub events_valid : (commit op moment : ℕ) (changes : List Change) → 1 ≤ commit → commit < 2 ^ 64 → moment < 2 ^ 64 → 1 ≤ op →
    op + length changes ≤ 2 ^ 64 → All IsChange changes → All IsEvent (events_of commit op moment changes)
events_valid commit op moment [] some fits time from count valid = All-nil IsEvent
events_valid commit op moment (change ∷ more) some fits time from count valid =
    All-cons IsEvent (first_event commit op moment change more) (events_of commit (op + 1) moment more)
    (record { commit = some; commit_fits = fits; op = from; op_fits = omega arith; moment = time; change = All-head IsChange change more valid })
    (events_valid commit (op + 1) moment more some fits time (omega arith) (omega arith) (All-tail IsChange change more valid))

-- without the first of them they are those of the other changes
pub events_dropped : (before commit op moment : ℕ) (changes : List Change) →
    drop before (events_of commit op moment changes) ≡ events_of commit (op + before) moment (drop before changes)
events_dropped zero commit op moment changes = ap (λ (o : ℕ). events_of commit o moment changes) (omega arith)
events_dropped (suc before) commit op moment [] = refl
events_dropped (suc before) commit op moment (change ∷ more) =
    events_dropped before commit (op + 1) moment more ∙ ap (λ (o : ℕ). events_of commit o moment (drop before more)) (omega arith)

pub length-events_of : (commit op moment : ℕ) (changes : List Change) → length (events_of commit op moment changes) ≡ length changes
length-events_of commit op moment [] = refl
length-events_of commit op moment (change ∷ more) = ap suc (length-events_of commit (op + 1) moment more)

-- what rises from a pair on rises from a lower one
pub rises_lower : (commit op high above : ℕ) (events : List Event) → (commit < high) ⊎ ((commit ≡ high) × (op ≤ above)) → RisesAbove high above events → RisesAbove commit op events
rises_lower commit op high above [] lower h = tt
rises_lower commit op high above (event ∷ more) (inl l) (inl r, h) = (inl (omega arith), h)
rises_lower commit op high above (event ∷ more) (inl l) (inr r, h) = (inl (omega (arith, r.0)), h)
rises_lower commit op high above (event ∷ more) (inr l) (inl r, h) = (inl (omega (arith, l.0)), h)
rises_lower commit op high above (event ∷ more) (inr l) (inr r, h) = (inr (l.0 ∙ r.0, omega (arith, l.1, r.1)), h)

pub rises_take : (n commit op : ℕ) (events : List Event) → RisesAbove commit op events → RisesAbove commit op (take n events)
rises_take zero commit op events h = tt
rises_take (suc n) commit op [] h = tt
rises_take (suc n) commit op (event ∷ more) h = (h.0, rises_take n event.commit event.op more h.1)

-- what rises behind a commit stands behind events up to it
pub rises_append : (commit op low : ℕ) (xs ys : List Event) → commit ≤ low → All (λ event. event.commit ≤ low) xs → All (λ event. low < event.commit) ys →
    RisesAbove commit op xs → RisesAbove low 0 ys → RisesAbove commit op (xs ++ ys)
rises_append commit op low [] [] under below above h k = tt
rises_append commit op low [] (y ∷ ys) under below above h k =
    (inl (let least : low < y.commit = All-head (λ (event : Event). low < event.commit) y ys above in omega arith), k.1)
rises_append commit op low (x ∷ xs) ys under below above h k =
    (h.0, rises_append x.commit x.op low xs ys (All-head (λ (event : Event). event.commit ≤ low) x xs below) (All-tail (λ (event : Event). event.commit ≤ low) x xs below) above h.1 k)
