use Rattle.std.proofs.Common.{◌∙◌, codes, is_some, ap}
use Rattle.serde_json.specs.Find.{get}
use Rattle.bl_change.specs.EventText.{op_name, place_data}
use Rattle.bl_change.proofs.Finding.{handed_on, one_data, one_text}
use Rattle.bl_change.proofs.EventParts.{event_is, last_there, op_there, there_is}
use Rattle.bl_change.proofs.event_in.event_in.Goals as goal

pub returns-in_err-moment-clause-found : goal.returns-in_err-moment-clause-found
returns-in_err-moment-clause-found c =
    handed_on _ _ c.from_residual.result c.in_err-moment.field-0.0 c.from_residual.ensures.1
    (λ event is. (event.moment, ap (get (codes "commitTimestamp")) is.1)) c.in_err-moment.ensures

pub returns-in_err-member_at-clause-found : goal.returns-in_err-member_at-clause-found
returns-in_err-member_at-clause-found c =
    handed_on _ _ c.from_residual-in_err-member_at.result c.in_err-member_at.field-0.0 c.from_residual-in_err-member_at.ensures.1
    (λ event is. (place_data event.commit event.op, ap (get (codes "eventId")) is.1)) c.in_err-member_at.ensures

pub returns-in_err-commit-clause-found : goal.returns-in_err-commit-clause-found
returns-in_err-commit-clause-found c =
    handed_on _ _ c.from_residual-in_err-commit.result c.in_err-commit.field-0.0 c.from_residual-in_err-commit.ensures.1
    (λ event is. ((event.commit, event.op), (is.0.commit, is.0.op, one_data _ _ _ c.in_ok-member_at.ensures (ap (get (codes "eventId")) is.1)))) c.in_err-commit.ensures.found

pub returns-in_err-text_at-clause-found : goal.returns-in_err-text_at-clause-found
returns-in_err-text_at-clause-found c =
    handed_on _ _ c.from_residual-in_err-text_at.result c.in_err-text_at.field-0.0 c.from_residual-in_err-text_at.ensures.1
    (λ event is. (op_name event.change, ap (get (codes "op")) is.1 ∙ op_there event)) c.in_err-text_at.ensures

pub returns-clause-found : goal.returns-clause-found
returns-clause-found c =
    λ event is.
    let moment = c.in_ok-moment.ensures event.moment (ap (get (codes "commitTimestamp")) is.1) in
    let place = c.in_ok-commit.ensures.found (event.commit, event.op) (is.0.commit, is.0.op, one_data _ _ _ c.in_ok-member_at.ensures (ap (get (codes "eventId")) is.1)) in
    let last = c.is_some-last.ensures ∙ there_is _ _ _ c.get.ensures ∙ ap (λ json. is_some (get (codes "isLastOp") json)) is.1 ∙ last_there event in
    let op = one_text _ _ _ c.in_ok-text_at.ensures (ap (get (codes "op")) is.1 ∙ op_there event) in
    let change = c.in_ok-change.ensures.found event.change (is.0.change, op, one_data _ _ _ c.in_ok-member_at-2.ensures (ap (get (codes "data")) is.1)) in
    event_is event _ _ _ _ _ (ap (λ p. p.0) place) (ap (λ p. p.1) place) moment last change
