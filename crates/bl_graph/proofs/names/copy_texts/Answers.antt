use Rattle.std.specs.Map.Iter.{deref}
use Rattle.std.proofs.lemmas.Map.Iter.{rest_more}
use Rattle.bl_graph.proofs.Copies.{text_copied}
use Rattle.bl_graph.proofs.names.copy_texts.Goals as goal

pub loop-text-preserved : goal.loop-text-preserved
loop-text-preserved c =
    text_copied c.loop-text.copy.keys c.insert.new.self.keys c.loop-text.text-iterator c.next.new.self c.args.texts.now.keys c.in-Some.text.now c.in_ok-copy.field-0
    (rest_more deref _ _ _ c.in-Some.text c.in-Some.is c.next.ensures.steps) c.in_ok-copy.ensures c.in_ok-insert.ensures.keys c.iter-text-items.ensures.unique c.loop-text.invariant
