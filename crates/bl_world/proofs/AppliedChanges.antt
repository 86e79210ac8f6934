-- One change more is applied.
use Rattle.std.specs.Prelude.{◌≡◌, ℕ, ◌+◌, ◌<◌, ◌&&◌, Bool, true, List, [], ◌∷◌, length, All}
use Rattle.std.proofs.Common.{sym, ap, ◌∙◌, drop, get_or}
use Rattle.std.proofs.lemmas.List.{drop_more}
use Rattle.std.proofs.lemmas.List.Elements.{All-cons, All-nil}
use Rattle.bl_value.specs.Valid.{IsChange}
use Rattle.bl_value.specs.declared.change.Change.{Change}
use Rattle.bl_graph.specs.Graph.{Graph}
use Rattle.bl_graph.specs.Replay.{after, after_one, fit, fits}

first_left : (changes : List Change) (i : ℕ) (change : Change) → i < length changes → change ≡ get_or changes i change → drop i changes ≡ change ∷ drop (i + 1) changes
first_left changes i change within is = drop_more changes i change within ∙ ap (λ first. first ∷ drop (i + 1) changes) (sym is)

pub fit_next : (graph next : Graph) (changes : List Change) (i : ℕ) (change : Change) → i < length changes → change ≡ get_or changes i change → fits graph change ≡ true → next ≡ after_one graph change → fit graph (drop i changes) ≡ fit next (drop (i + 1) changes)
fit_next graph next changes i change within is fitting made =
    ap (fit graph) (first_left changes i change within is) ∙ ap (λ b. b && fit (after_one graph change) (drop (i + 1) changes)) fitting ∙ ap (λ g. fit g (drop (i + 1) changes)) (sym made)

pub after_next : (graph next : Graph) (changes : List Change) (i : ℕ) (change : Change) → i < length changes → change ≡ get_or changes i change → next ≡ after_one graph change → after graph (drop i changes) ≡ after next (drop (i + 1) changes)
after_next graph next changes i change within is made =
    ap (after graph) (first_left changes i change within is) ∙ ap (λ g. after g (drop (i + 1) changes)) (sym made)

-- where one doesn't fit the rest doesn't
pub fit_stops : (graph : Graph) (changes : List Change) (i : ℕ) (change : Change) (b : Bool) → i < length changes → change ≡ get_or changes i change → fits graph change ≡ b → fit graph (drop i changes) ≡ (b && fit (after_one graph change) (drop (i + 1) changes))
fit_stops graph changes i change b within is stops =
    ap (fit graph) (first_left changes i change within is) ∙ ap (λ b. b && fit (after_one graph change) (drop (i + 1) changes)) stops

pub one_change : (change : Change) → IsChange change → All IsChange (change ∷ [])
one_change change is = All-cons IsChange change [] is (All-nil IsChange)
