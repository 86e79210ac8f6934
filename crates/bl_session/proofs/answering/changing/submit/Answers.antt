use Rattle.std.proofs.Common.{Ok}
use Rattle.bl_feed.specs.Bodies.{submitted_text}
use Rattle.bl_session.proofs.ToldBodies.{told_made}
use Rattle.bl_session.proofs.answering.changing.submit.Goals as goal

pub returns-in-Ok : goal.returns-in-Ok
returns-in-Ok g c = record {
  answer = Ok c.in-Ok.id;
  finds = c.in-Ok.ensures.finds;
  attempts = c.in-Ok.ensures.attempts;
  tells = told_made c.submitted_json.result (submitted_text c.in-Ok.id) c.args.close c.success_reply.result c.submitted_json.ensures c.success_reply.ensures;
}
