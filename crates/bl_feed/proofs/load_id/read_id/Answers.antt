use Rattle.std.proofs.lemmas.Bool.{false≢true}
use Rattle.uuid.specs.Text.{parsed}
use Rattle.bl_feed.proofs.ReadNumbers.{no_id}
use Rattle.bl_feed.proofs.load_id.read_id.Goals as goal

pub returns-in-Err : goal.returns-in-Err
returns-in-Err c = no_id (parsed c.args.text.now) (λ bytes is. false≢true (c.in-Err.ensures.ok.1 (bytes, is)))
