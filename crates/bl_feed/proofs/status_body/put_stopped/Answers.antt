use Rattle.std.proofs.Common.{◌∙◌, codes, ap, sym, Bool}
use Rattle.serde_json.specs.Data.{put, Data}
use Rattle.serde_json.specs.View.{members_view}
use Rattle.bl_feed.specs.StatusBodies.{and_stopped}
use Rattle.bl_feed.proofs.status_body.put_stopped.Goals as goal

pub returns-then-details : goal.returns-then-details
returns-then-details c =
    c.in_ok-put.ensures.ok ∙ ap (λ (d : Data). put (codes "failedFeeds") d (members_view c.args.members.now.entries)) c.in_ok-stopped.ensures
    ∙ ap (λ (t : Bool). and_stopped c.args.job.now t (members_view c.args.members.now.entries)) (sym c.if-details.true)
