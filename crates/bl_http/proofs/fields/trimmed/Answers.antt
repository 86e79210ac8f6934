use Rattle.std.proofs.Common.{◌≡◌, ◌∙◌, ℕ, List, length, reverse, slice_range, sym, ap, arith}
use Rattle.std.proofs.lemmas.List.{reverse-reverse}
use Rattle.httparse.specs.Grammar.{skip_ows, trim_ows}
use Rattle.httparse.proofs.TrimLemmas.{skip_ows_yes, skip_ows_no, slice_first, slice_last, slice_empty}
use Rattle.bl_http.proofs.fields.trimmed.Goals.{
  then-loop-start-test+else-is_blank,
  else-loop-start-test,
  then-loop-end-test+else-is_blank-2,
  else-loop-end-test,
}
use Rattle.bl_http.proofs.fields.trimmed.Goals as goal

pub loop-end-init : goal.loop-end-init
unfolding trim_ows
loop-end-init c =
    let word = c.args.word.now in
    let here = slice_range word c.loop-start.start (length word) in
    let stays : skip_ows here ≡ here =
    elim c.loop-start-test.branch [
      | then-loop-start-test+else-is_blank w ↦ skip_ows_no (slice_first word _ _ w.loop-start-test.true (omega arith)) w.if-is_blank.ensures
      | else-loop-start-test w ↦
          let empty = slice_empty word c.loop-start.start (length word) (omega (arith, w.loop-start-test.false)) (omega arith) in
          ap skip_ows empty ∙ sym empty
    ] in
    record {
      order = c.loop-start.invariant.order;
      inside = omega arith;
      same = ap (λ (t : List ℕ). reverse (skip_ows (reverse t))) (c.loop-start.invariant.same ∙ stays);
    }

pub loop-end-preserved : goal.loop-end-preserved
loop-end-preserved c =
    let last = slice_last c.args.word.now c.loop-start.start c.loop-end.end c.loop-end-test.true c.loop-end.invariant.inside in
    record {
      order = omega (arith, c.loop-end-test.true);
      inside = omega (arith, c.loop-end.invariant.inside);
      same = c.loop-end.invariant.same ∙ ap reverse (skip_ows_yes last c.if-is_blank-2.ensures);
    }

pub returns : goal.returns
returns c =
    let word = c.args.word.now in
    let inside = c.loop-end.invariant.inside in
    elim c.loop-end-test.branch [
      | then-loop-end-test+else-is_blank-2 w ↦
          let last = slice_last word c.loop-start.start c.loop-end.end w.loop-end-test.true inside in
          sym (c.loop-end.invariant.same ∙ ap reverse (skip_ows_no last w.if-is_blank-2.ensures) ∙ reverse-reverse _)
      | else-loop-end-test w ↦
          let empty = slice_empty word c.loop-start.start c.loop-end.end (omega (arith, w.loop-end-test.false, c.loop-end.invariant.order)) inside in
          empty ∙ sym (c.loop-end.invariant.same ∙ ap (λ (t : List ℕ). reverse (skip_ows (reverse t))) empty)
    ]
