use Rattle.std.proofs.Common.{subst, sym}
use Rattle.bl_rows.specs.Contents.{contents, rows_of}
use Rattle.bl_load.specs.Finding.{IsContentFound}
use Rattle.bl_load.proofs.Contents.{content_found}
use Rattle.bl_load.proofs.finding.found_in.Goals as goal

pub returns-clause-found : goal.returns-clause-found
returns-clause-found c =
    let all = contents c.args.file.bytes in
    let left = rows_of all in
    let name = c.args.name.now in
    let found = content_found name all _ c.digest.result (c.in_ok-content_of.ensures.content all 0 left c.in_ok-reader.ensures) (c.digest.ensures all 0 left c.in_ok-reader.ensures) in
    subst (λ n. IsContentFound name all (record { name = n; kind = c.kind-kind.result; digest = c.digest.result })) (sym c.in_ok-copy.ensures)
    (subst (λ k. IsContentFound name all (record { name = name; kind = k; digest = c.digest.result })) (sym c.kind-kind.ensures) found)
