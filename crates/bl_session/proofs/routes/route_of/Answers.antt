use Rattle.std.proofs.Common.{◌∙◌, ap, sym}
use Rattle.std.proofs.lemmas.Str.{IsUtf8-from_is_utf8}
use Rattle.std.specs.Str.{is_utf8}
use Rattle.bl_session.proofs.routes.route_of.Goals as goal

pub as_str-requires : goal.as_str-requires
as_str-requires c = IsUtf8-from_is_utf8 c.args.path.now (ap is_utf8 (sym c.as_slice.ensures) ∙ sym c.is_utf8.ensures ∙ c.if-is_utf8.true)
