use Rattle.bl_graph.proofs.Places.{place_guessed}
use Rattle.std.proofs.Common.{sym, ◌∙◌}
use Rattle.bl_graph.proofs.owner.is_at.Goals as goal

pub returns-in-Some : goal.returns-in-Some
returns-in-Some g c = λ same.
    place_guessed c.args.owners.now.entries c.args.id.now c.in-Some.text.now c.args.place c.in-Some.field-0-1.now c.in-Some.ensures.entry c.in-Some.ensures.value (sym c.eq.ensures ∙ same)
