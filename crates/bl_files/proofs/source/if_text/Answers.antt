use Rattle.std.proofs.Common.{◌∙◌, ap, sym}
use Rattle.std.proofs.lemmas.Str.{IsUtf8-from_is_utf8}
use Rattle.std.specs.Str.{is_utf8}
use Rattle.bl_files.proofs.source.if_text.Goals as goal

pub returns-then-is_utf8-clause-utf8 : goal.returns-then-is_utf8-clause-utf8
returns-then-is_utf8-clause-utf8 c = IsUtf8-from_is_utf8 c.args.path (ap is_utf8 (sym c.as_slice.ensures) ∙ sym c.is_utf8.ensures ∙ c.if-is_utf8.true)
