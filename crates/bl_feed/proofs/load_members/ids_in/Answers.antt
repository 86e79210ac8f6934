use Rattle.std.proofs.Common.{◌∙◌, ℕ, ◌<◌, ◌^◌, [], ◌∷◌, ◌++◌, List, ap, arith, subst, sym}
use Rattle.std.specs.Prelude.{All}
use Rattle.std.proofs.lemmas.List.Elements.{All-push}
use Rattle.bl_feed.proofs.Dependencies.{ids_more}
use Rattle.bl_feed.proofs.load_members.ids_in.Goals as goal

pub loop-value-preserved : goal.loop-value-preserved
loop-value-preserved c =
    let pushed = c.in_ok-push.ensures.ok in
    record {
      ids =
          ids_more c.args.texts.now c.loop-value.value-index c.value-item.result c.in-Some.text.now c.loop-value.ids c.push.new.self c.loop-value-test.true c.value-item.is c.in-Some.ensures
          (pushed ∙ ap (λ (id : ℕ). c.loop-value.ids ++ id ∷ []) c.id_in.ensures)
          ∙ c.loop-value.invariant.ids;
      range = subst (λ (l : List ℕ). All (λ (id : ℕ). id < 2 ^ 128) l) (sym pushed) (All-push (λ (id : ℕ). id < 2 ^ 128) c.loop-value.ids c.id_in.result c.loop-value.invariant.range (omega arith));
    }
