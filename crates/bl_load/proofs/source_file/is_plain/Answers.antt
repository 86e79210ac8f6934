use Rattle.std.proofs.Common.{◌∙◌, sym}
use Rattle.std.proofs.lemmas.Bool.{true≢false}
use Rattle.std.proofs.lemmas.Str.{IsUtf8-from_is_utf8, is_utf8-from_IsUtf8}
use Rattle.bl_load.proofs.source_file.is_plain.Goals as goal

pub returns-then-not-is_utf8 : goal.returns-then-not-is_utf8
returns-then-not-is_utf8 c = (
  λ h. absurd (true≢false (sym h)),
  λ all. absurd (true≢false (sym (is_utf8-from_IsUtf8 c.args.name.now all.0) ∙ sym c.is_utf8.ensures ∙ c.if-not-is_utf8.true)),
)

pub returns : goal.returns
returns c = (
  λ h. (IsUtf8-from_is_utf8 c.args.name.now (sym c.is_utf8.ensures ∙ c.if-not-is_utf8.false), c.is_flat.ensures.0 h),
  λ all. c.is_flat.ensures.1 all.1,
)
