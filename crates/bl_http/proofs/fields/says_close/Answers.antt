use Rattle.std.proofs.Common.{◌∙◌, ◌+◌, List, ℕ, length, length-drop, sym, ap, arith}
use Rattle.std.proofs.lemmas.List.{take_rest}
use Rattle.bl_http.specs.Fields.{says_close}
use Rattle.bl_http.proofs.FieldLemmas.{says_here, says_last, says_later}
use Rattle.bl_http.proofs.fields.says_close.Goals as goal

pub loop-comma-preserved : goal.loop-comma-preserved
loop-comma-preserved c =
    let rest = c.loop-comma.rest.now in
    let i = c.in-Some.comma + 1 in
    record {
      same =
          ap (λ (t : List ℕ). says_close t) (take_rest rest i)
          ∙ sym (says_later rest c.in-Some.comma c.in-Some.ensures.value c.if-is_close.ensures)
          ∙ c.loop-comma.invariant.same;
      shorter = omega (arith, ap length (take_rest rest i), length-drop i rest, c.loop-comma.invariant.shorter);
    }

pub returns-then-is_close : goal.returns-then-is_close
returns-then-is_close c =
    sym (says_here c.loop-comma.rest.now c.in-Some.comma c.in-Some.ensures.value c.if-is_close.ensures) ∙ c.loop-comma.invariant.same

pub returns : goal.returns
returns c = c.is_close-2.ensures ∙ sym (says_last c.loop-comma.rest.now c.in_default.ensures.value) ∙ c.loop-comma.invariant.same
