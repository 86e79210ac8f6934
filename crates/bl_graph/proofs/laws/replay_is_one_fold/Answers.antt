use Rattle.bl_graph.proofs.Replayed.{after-append}
use Rattle.bl_graph.proofs.laws.replay_is_one_fold.Goals as goal

pub returns : goal.returns
returns c = after-append
