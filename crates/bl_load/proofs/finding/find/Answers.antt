use Rattle.std.proofs.Common.{◌∙◌, ap, sym, subst, Some, Err}
use Rattle.std.specs.Str.{IsUtf8}
use Rattle.bl_rows.specs.File.{ReadsWhole}
use Rattle.bl_rows.specs.declared.file.FileRefusal.TheVariants.{TooLarge}
use Rattle.bl_chain.specs.Folders.{is_compressed}
use Rattle.bl_load.proofs.Findings.{compressed_found, large_found}
use Rattle.bl_load.proofs.SourceBytes.{path_utf8}
use Rattle.bl_load.proofs.finding.find.Goals as goal

pub returns-then-is_compressed-clause-told : goal.returns-then-is_compressed-clause-told
returns-then-is_compressed-clause-told g c = λ files told there.
    compressed_found files c.args.source.now c.args.previous.now c.args.name.now c.in_ok-refused.field-0 c.in_default.ensures.none
    (ap is_compressed (sym c.in_ok-path.ensures) ∙ ap is_compressed (sym c.as_slice.ensures) ∙ sym c.is_compressed.ensures ∙ c.if-is_compressed.true) there c.in_ok-refused.ensures.0 c.in_ok-refused.ensures.1 c.in_ok-refused.ensures.2

pub read_file-requires : goal.read_file-requires
read_file-requires g c = subst IsUtf8 (sym c.in_ok-path.ensures) (path_utf8 c.args.source.now c.args.name.now c.requires.source c.requires.name.utf8)

pub returns-in-Err-TooLarge-clause-told : goal.returns-in-Err-TooLarge-clause-told
returns-in-Err-TooLarge-clause-told g c = λ files told there.
    let whole = subst (λ p. ReadsWhole (Some files) p (Err TooLarge)) c.in_ok-path.ensures (subst (λ f. ReadsWhole f c.in_ok-path.path (Err TooLarge)) told (subst (λ e. ReadsWhole (g.F.Folder.files c.args.folder.now) c.in_ok-path.path (Err e)) c.in-Err-TooLarge.field-0-is c.in-Err-TooLarge.ensures.whole)) in
    large_found files c.args.source.now c.args.previous.now c.args.name.now c.in_ok-refused-in-Err-TooLarge.field-0 c.in_default.ensures.none
    (ap is_compressed (sym c.in_ok-path.ensures) ∙ ap is_compressed (sym c.as_slice.ensures) ∙ sym c.is_compressed.ensures ∙ c.if-is_compressed.false) whole
    c.in_ok-refused-in-Err-TooLarge.ensures.0 c.in_ok-refused-in-Err-TooLarge.ensures.1 c.in_ok-refused-in-Err-TooLarge.ensures.2
