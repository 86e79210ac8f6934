-- Replay is one fold.
use Rattle.std.specs.Prelude.{◌≡◌, ℕ, ◌<◌, ◌+◌, List, [], ◌∷◌, ◌++◌, take, length, get_or, refl}
use Rattle.std.proofs.Common.{sym, ap, ◌∙◌}
use Rattle.std.proofs.lemmas.List.{take_more}
use Rattle.bl_value.specs.declared.change.Change.{Change}
use Rattle.bl_graph.specs.Graph.{Graph}
use Rattle.bl_graph.specs.Replay.{after_one, after}

-- the changes of two lists, one list after the other
pub after-append : (graph : Graph) (changes more : List Change) → after graph (changes ++ more) ≡ after (after graph changes) more
after-append graph [] more = refl
after-append graph (change ∷ changes) more = after-append (after_one graph change) changes more

-- one more of the changes
pub after-more : (graph : Graph) (changes : List Change) (i : ℕ) (change : Change) → i < length changes → change ≡ get_or changes i change → after_one (after graph (take i changes)) change ≡ after graph (take (i + 1) changes)
after-more graph changes i change h is =
    ap (after_one (after graph (take i changes))) is
    ∙ sym (ap (after graph) (take_more changes i change h) ∙ after-append graph (take i changes) (get_or changes i change ∷ []))
