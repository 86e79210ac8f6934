use Rattle.std.proofs.Common.{◌≡◌, ◌∙◌, ℕ, ◌+◌, ◌-◌, List, ◌∷◌, ap, sym, subst, arith, length}
use Rattle.std.specs.List.{All}
use Rattle.std.specs.Vec.Iter.{into_iter_items}
use Rattle.std.proofs.lemmas.List.Elements.{All-tail}
use Rattle.bl_value.specs.Valid.{IsChange}
use Rattle.bl_value.specs.declared.change.Change.{Change}
use Rattle.bl_stream.specs.Events.{events_of}
use Rattle.bl_stream.specs.Slices.{with_events}
use Rattle.bl_stream.proofs.FilledPages.{last_is, one_more}
use Rattle.bl_stream.proofs.filling.Filling.add_changes.Goals as goal

pub loop-change-preserved : goal.loop-change-preserved
loop-change-preserved c =
    let now = c.loop-change in
    let rest : List Change = into_iter_items c.next.new.self in
    let more : into_iter_items now.change-iterator ≡ c.in-Some.change ∷ rest = c.in-Some.ensures.steps.0 in
    let left : now.left - 1 ≡ length rest = omega (arith, now.invariant.left, ap length more) in
    let op : ℕ = c.args.operations - (now.left - 1) in
    record {
      left = left;
      count = omega (arith, now.invariant.count);
      filled =
          one_more now.self c.add.new.self c.args.number op c.args.moment _ c.in-Some.change rest (last_is (now.left - 1) rest left) c.in_ok-add.ensures
          ∙ ap (λ (o : ℕ). with_events now.self (events_of c.args.number o c.args.moment (c.in-Some.change ∷ rest)))
          (omega (arith, now.invariant.left, now.invariant.count, ap length more))
          ∙ ap (λ (items : List Change). with_events now.self (events_of c.args.number (c.args.operations - now.left + 1) c.args.moment items)) (sym more)
          ∙ now.invariant.filled;
      valid = All-tail IsChange c.in-Some.change rest (subst (All IsChange) more now.invariant.valid);
    }
