use Rattle.std.proofs.Common.{◌≡◌, drop, map}
use Rattle.std.specs.List.{list_any}
use Rattle.httparse.specs.Spans.{header_bytes}
use Rattle.bl_http.specs.Fields.{ends_connection}
use Rattle.bl_http.proofs.fields.closes.Given as goal

-- what the fields say, those that are left say
abbrev pub invariant-loop-field : goal.invariant-loop-field
invariant-loop-field l =
    list_any ends_connection (map (header_bytes l.head) (drop l.field-index l.fields))
    ≡ list_any ends_connection (map (header_bytes l.head) l.fields)
