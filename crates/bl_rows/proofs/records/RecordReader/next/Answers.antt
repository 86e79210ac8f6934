use Rattle.std.proofs.Common.{◌∙◌}
use Rattle.bl_rows.proofs.Readers.{gives-none, gives-some, sound-some}
use Rattle.bl_rows.proofs.records.RecordReader.next.Goals as goal

pub returns-then-self-3 : goal.returns-then-self-3
returns-then-self-3 c = λ rows has.
    gives-none c.self.inside rows c.in_ok-self-inside.field-0 _ c.take_record.new.reader c.if-self.false c.if-self-2.false c.self.invariant (c.self.view_is ∙ has) c.in_ok-self-inside.ensures c.if-self-3.true

pub invariant_of-self-2 : goal.invariant_of-self-2
invariant_of-self-2 c =
    sound-some c.self.inside c.in_ok-self-inside.field-0 _ c.take_record.new.reader c.if-self.false c.if-self-2.false c.self.invariant c.in_ok-self-inside.ensures c.if-self-3.false

pub returns : goal.returns
returns c = λ rows has.
    gives-some c.self.inside rows c.in_ok-self-inside.field-0 _ c.in_ok-fields.fields c.take_record.new.reader c.if-self.false c.if-self-2.false c.self.invariant (c.self.view_is ∙ has) c.in_ok-self-inside.ensures c.if-self-3.false c.in_ok-fields.ensures
