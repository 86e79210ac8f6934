use Rattle.std.proofs.Common.{◌≡◌, drop, map}
use Rattle.httparse.specs.Spans.{header_bytes}
use Rattle.bl_http.specs.Fields.{is_there}
use Rattle.bl_http.proofs.fields.is_there.Given as goal

-- what the fields say, those that are left say
abbrev pub invariant-loop-field : goal.invariant-loop-field
invariant-loop-field l =
    is_there l.name (map (header_bytes l.head) (drop l.field-index l.fields))
    ≡ is_there l.name (map (header_bytes l.head) l.fields)
