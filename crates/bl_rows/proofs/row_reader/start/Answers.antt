use Rattle.bl_rows.proofs.Readers.{contents-few}
use Rattle.bl_rows.proofs.RowReaders.{starts-behind, starts-empty}
use Rattle.bl_rows.specs.Contents.{contents}
use Rattle.std.proofs.Common.{refl}
use Rattle.bl_rows.proofs.row_reader.start.Goals as goal

pub returns-in_default : goal.returns-in_default
returns-in_default c =
    let few = contents-few c.args.file.bytes c.requires in
    let gives = rw c.in_default.is at (c.in_ok-header.ensures (contents c.args.file.bytes) c.in_ok-records.ensures) in
    starts-empty _ (contents c.args.file.bytes) gives few c.new.ensures refl refl c.digest_of_none.ensures

pub returns : goal.returns
returns c =
    let few = contents-few c.args.file.bytes c.requires in
    let gives = rw c.in-Some.is at (c.in_ok-header.ensures (contents c.args.file.bytes) c.in_ok-records.ensures) in
    starts-behind _ (contents c.args.file.bytes) c.in-Some.header gives few refl refl refl c.in_ok-digest.ensures
