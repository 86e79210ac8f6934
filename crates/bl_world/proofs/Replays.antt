-- The stream, replayed, gives the graph.
use Rattle.std.specs.Prelude.{◌≡◌, ℕ, List, [], ◌∷◌, ◌++◌, refl}
use Rattle.std.specs.List.{flat_map}
use Rattle.std.proofs.Common.{sym, ap, ◌∙◌}
use Rattle.std.proofs.lemmas.List.{append-nil}
use Rattle.std.proofs.lemmas.List.Concat.{flat_map-append}
use Rattle.bl_value.specs.declared.change.Change.{Change}
use Rattle.bl_graph.specs.Graph.{Graph, empty}
use Rattle.bl_graph.specs.Replay.{after, after_one}
use Rattle.bl_world.specs.declared.job_commit.JobCommit.{JobCommit}
use Rattle.bl_world.specs.Worlds.{StreamsGiveGraphs, World, changes_of, commit_of, job_number, moment_of}

after_both : (graph : Graph) (changes more : List Change) → after graph (changes ++ more) ≡ after (after graph changes) more
after_both graph [] more = refl
after_both graph (change ∷ changes) more = after_both (after_one graph change) changes more

commit_changes : (job moment : ℕ) (changes : List Change) → flat_map (λ (c : JobCommit). c.changes) (commit_of job moment changes) ≡ changes
commit_changes job moment [] = refl
commit_changes job moment (change ∷ changes) = append-nil (change ∷ changes)

pub replays : StreamsGiveGraphs
replays [] world is = ap (λ (w : World). after empty (flat_map (λ (c : JobCommit). c.changes) w.commits)) is ∙ ap (λ (w : World). w.graph) (sym is)
replays (entry ∷ older) world is =
    let before : World = is.0 in
    let flat : List JobCommit → List Change = λ l. flat_map (λ (c : JobCommit). c.changes) l in
    ap (λ l. after empty (flat l)) is.2.next.commits
    ∙ ap (λ l. after empty l) (flat_map-append (λ (c : JobCommit). c.changes) before.commits (commit_of (job_number entry) (moment_of entry) (changes_of entry)))
    ∙ ap (λ l. after empty (flat before.commits ++ l)) (commit_changes (job_number entry) (moment_of entry) (changes_of entry))
    ∙ after_both empty (flat before.commits) (changes_of entry)
    ∙ ap (λ g. after g (changes_of entry)) (replays older before is.1)
    ∙ sym is.2.next.graph
