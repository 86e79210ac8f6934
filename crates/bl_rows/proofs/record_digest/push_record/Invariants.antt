use Rattle.std.proofs.Common.{◌≡◌, ◌++◌, length, take}
use Rattle.std.specs.Int.{w32, to_be_bytes}
use Rattle.std.specs.List.{flat_map}
use Rattle.bl_rows.specs.Digests.{field_text}
use Rattle.bl_rows.proofs.record_digest.push_record.Given as goal

-- the number of fields, and the fields so far
abbrev pub invariant-loop-field : goal.invariant-loop-field
invariant-loop-field l =
    l.room.items ≡ (l.fn.room.items ++ to_be_bytes w32 (length l.fields)) ++ flat_map field_text (take l.field-index l.fields)
