use Rattle.std.proofs.Common.{◌≡◌, ◌++◌, drop, map}
use Rattle.std.specs.Option.{option_copied, option_to_list}
use Rattle.httparse.specs.Spans.{header_bytes}
use Rattle.bl_http.specs.Fields.{values_of}
use Rattle.bl_http.proofs.fields.found_values.Given as goal

-- the value that was found and those of the fields that are left are all
abbrev pub invariant-loop-field : goal.invariant-loop-field
invariant-loop-field l =
    option_to_list (option_copied l.found) ++ values_of l.name (map (header_bytes l.head) (drop l.field-index l.fields))
    ≡ values_of l.name (map (header_bytes l.head) l.fields)
