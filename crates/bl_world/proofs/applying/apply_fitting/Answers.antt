use Rattle.std.proofs.Common.{◌∙◌, subst, sym}
use Rattle.std.specs.Prelude.{All, List, [], ◌∷◌}
use Rattle.bl_value.specs.declared.change.Change.{Change}
use Rattle.bl_graph.specs.ValidChanges.{HasValidValues}
use Rattle.bl_value.specs.Valid.{IsChange}
use Rattle.bl_world.proofs.AppliedChanges.{after_next, fit_next, one_change}
use Rattle.bl_world.proofs.applying.apply_fitting.Goals as goal

pub loop-change-preserved : goal.loop-change-preserved
loop-change-preserved c =
    let changes = c.as_slice-change-items.result.now in
    let i = c.loop-change.change-index in
    let change = c.change-item.result in
    let fitting = sym c.fits.ensures ∙ c.if-not-fits.false in
    let made = c.in_ok-apply.ensures.ok in
    record {
      fits = c.loop-change.invariant.fits ∙ fit_next c.loop-change.graph c.apply.new.self changes i change c.loop-change-test.true c.change-item.is fitting made;
      goes = c.loop-change.invariant.goes ∙ after_next c.loop-change.graph c.apply.new.self changes i change c.loop-change-test.true c.change-item.is made;
      valid = λ h. c.in_ok-apply.ensures.valid fitting (c.loop-change.invariant.valid h);
      values = λ h. subst HasValidValues (sym made) (c.valid_changes_keep_values_valid.ensures c.loop-change.graph (change ∷ []) (c.loop-change.invariant.values h) (one_change change (subst IsChange (sym c.change-item.is) (subst (λ (l : List Change). All IsChange l) (sym c.as_slice-change-items.ensures) c.requires i change c.loop-change-test.true))));
    }
