use Rattle.std.proofs.Common.{Ok}
use Rattle.bl_feed.specs.StatusBodies.{status_text}
use Rattle.bl_session.proofs.ToldBodies.{told_made}
use Rattle.bl_session.proofs.answering.looking.show.Goals as goal

pub returns-in-Ok : goal.returns-in-Ok
returns-in-Ok g c = record {
  answer = Ok c.in-Ok.job;
  looks = c.in-Ok.ensures.looks;
  ready = c.in-Ok.ensures.ready;
  job = c.in-Ok.ensures.job;
  unknown = c.in-Ok.ensures.unknown;
  tells = told_made c.status_body.result (status_text c.in-Ok.job c.args.details c.args.errors) c.args.close c.success_reply.result c.status_body.ensures c.success_reply.ensures;
}
