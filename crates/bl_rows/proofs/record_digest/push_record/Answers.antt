use Rattle.std.proofs.Common.{◌∙◌, length, arith, append_assoc}
use Rattle.std.specs.Int.{w32, to_be_bytes}
use Rattle.std.specs.List.{flat_map}
use Rattle.std.proofs.lemmas.List.{take_all}
use Rattle.bl_rows.specs.Digests.{field_text, record_text}
use Rattle.bl_rows.proofs.record_digest.push_record.Goals as goal

pub returns : goal.returns
unfolding record_text
returns c =
    let fields = c.args.fields.now in
    rw (take_all c.loop-field.field-index fields (omega (arith, c.loop-field-test.false))) at c.loop-field.invariant
    ∙ append_assoc c.args.room.now.items (to_be_bytes w32 (length fields)) (flat_map field_text fields)
