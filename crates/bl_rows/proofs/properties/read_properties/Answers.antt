use Rattle.std.proofs.Common.{subst, sym}
use Rattle.std.specs.Str.{IsUtf8}
use Rattle.std.proofs.lemmas.List.Elements.{All-get_or}
use Rattle.bl_rows.proofs.properties.read_properties.Goals as goal

pub add_property-requires-clause-text : goal.add_property-requires-clause-text
add_property-requires-clause-text c =
    subst IsUtf8 (sym c.in-Some.ensures.lookup.1) (All-get_or IsUtf8 c.args.fields.now c.loop-i.i c.in-Some.field.now c.in-Some.ensures.lookup.3.0 c.requires.texts)
