use Rattle.serde_json.specs.View.{view}
use Rattle.bl_change.proofs.ReadTexts.{none_found, other_found}
use Rattle.bl_change.proofs.reading.read_event.Goals as goal

pub returns-in_err-event : goal.returns-in_err-event
returns-in_err-event c =
    none_found c.args.text.now (view c.in_ok-json.json) c.from_residual-in_err-event.result c.in_err-event.field-0.0 c.from_residual-in_err-event.ensures.1
    c.in_ok-json.ensures.ok.0 c.in_ok-json.ensures.ok.1 c.in_err-event.ensures.found

pub returns : goal.returns
returns c =
    other_found c.args.text.now (view c.in_ok-json.json) c.in_ok-event.event c.in_ok-json.ensures.ok.0 c.in_ok-json.ensures.ok.1 c.in_ok-event.ensures.found
    (λ same. let yes = c.in_ok-same.ensures.1 same in let no = c.if-same.false in cc)
