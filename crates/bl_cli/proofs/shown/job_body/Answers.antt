use Rattle.std.proofs.Common.{◌∙◌, ap, sym}
use Rattle.std.proofs.lemmas.Str.{IsUtf8-from_is_utf8}
use Rattle.std.specs.Str.{is_utf8}
use Rattle.bl_cli.proofs.shown.job_body.Goals as goal

pub status_json-requires-clause-source : goal.status_json-requires-clause-source
status_json-requires-clause-source c = IsUtf8-from_is_utf8 c.args.job.now.request.source (ap is_utf8 (sym c.as_slice.ensures) ∙ sym c.is_utf8.ensures ∙ c.if-not-is_utf8.false)
