use Rattle.std.proofs.Common.{◌≡◌, ◌∙◌, All, sym, subst}
use Rattle.std.specs.Str.{IsUtf8}
use Rattle.bl_rows.specs.File.{ReadsWhole}
use Rattle.bl_load.specs.SourceFiles.{IsThere, file_path}
use Rattle.bl_load.proofs.SourceBytes.{named, path_utf8, reads_inside}
use Rattle.bl_load.proofs.source_file.read_source.Goals as goal

pub read_file-requires-2 : goal.read_file-requires-2
read_file-requires-2 g c =
    let plain = subst (λ n. IsUtf8 n × All (λ b. b ≡ 47 → ⊥) n) c.as_slice.ensures (c.is_plain.ensures.0 c.if-not-is_plain.false) in
    subst IsUtf8 (sym c.in_ok-path.ensures) (path_utf8 c.args.source.now c.args.name.now c.requires plain.0)

pub returns-clause-whole : goal.returns-clause-whole
returns-clause-whole g c =
    let source = c.args.source.now in
    let name = c.args.name.now in
    let files = g.F.Folder.files c.args.folder.now in
    let plain = subst (λ n. IsUtf8 n × All (λ b. b ≡ 47 → ⊥) n) c.as_slice.ensures (c.is_plain.ensures.0 c.if-not-is_plain.false) in
    reads_inside files source name c.read_file-2.result (named name (sym c.is_empty.ensures ∙ c.if-is_empty.false)) plain
    (subst (λ b. IsThere files source b) c.if-branch.false c.in_ok-is_there.ensures.there)
    (subst (λ f. ReadsWhole f (file_path source name) c.read_file-2.result) c.in_ok-is_there.ensures.files
    (subst (λ p. ReadsWhole (g.F.Folder.files c.is_there.new.folder) p c.read_file-2.result) c.in_ok-path.ensures c.read_file-2.ensures.whole))
