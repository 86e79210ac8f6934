use Rattle.bl_graph.proofs.OneWay.{one_way}
use Rattle.bl_graph.proofs.laws.a_row_is_taken_in_one_way.Goals as goal

pub returns : goal.returns
returns c = one_way
