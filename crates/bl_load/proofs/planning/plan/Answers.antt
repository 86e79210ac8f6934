use Rattle.std.proofs.Common.{◌≡◌, ◌∙◌, ◌↔◌, true, false, ap, sym}
use Rattle.std.proofs.lemmas.Bool.{true≢false}
use Rattle.std.proofs.lemmas.Result.{IfOk-weaker}
use Rattle.bl_files.specs.declared.plan_result.PlanResult.TheVariants as plan
use Rattle.bl_files.specs.Sources.{path_of}
use Rattle.bl_load.specs.Planning.{IsPlanAt, is_no_previous}
use Rattle.bl_load.specs.Prepares.{IsPlanFor}
use Rattle.bl_load.proofs.PlannedNames.{plan_for}
use Rattle.bl_load.proofs.planning.plan.Goals as goal

pub returns-in-Some-clause-none : goal.returns-in-Some-clause-none
returns-in-Some-clause-none g c =
    IfOk-weaker c.plan_at.result (λ planned. is_no_previous planned ≡ false) (λ planned. (planned ≡ plan.NoPrevious) ↔ (c.args.no_previous ≡ true))
    (λ planned is. (λ same. absurd (true≢false (sym (ap is_no_previous same) ∙ is)), λ h. absurd (true≢false (sym h ∙ c.if-no_previous.false)))) c.plan_at.ensures.some

pub returns-in-Some-clause-told : goal.returns-in-Some-clause-told
returns-in-Some-clause-told g c = λ files told.
    IfOk-weaker c.plan_at.result (IsPlanAt files c.in-Some.path c.args.previous.now) (IsPlanFor files c.args.source.now c.args.no_previous c.args.previous.now)
    (λ planned is. plan_for files c.args.source.now c.in-Some.path c.args.no_previous c.args.previous.now planned (sym (c.in_ok-path.ensures.path ∙ ap path_of c.as_slice.ensures) ∙ c.in-Some.is) c.if-no_previous.false is) (c.plan_at.ensures.told files told)
