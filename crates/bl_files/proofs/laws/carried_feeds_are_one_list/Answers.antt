use Rattle.bl_files.proofs.FeedOrder.{same_members}
use Rattle.bl_files.proofs.laws.carried_feeds_are_one_list.Goals as goal

pub returns : goal.returns
returns c = λ previous found a b is other.
    same_members a b is.ordered other.ordered (λ feed h. (other.each feed).1 ((is.each feed).0 h)) (λ feed h. (is.each feed).1 ((other.each feed).0 h))
