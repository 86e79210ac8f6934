use Rattle.std.proofs.Common.{rules, arith, false}
use Rattle.csv.specs.Reading.{strip_bom}
use Rattle.csv.specs.declared.parser.State.TheVariants.{StartRecord}
use Rattle.bl_rows.specs.Contents.{contents}
use Rattle.bl_rows.specs.RecordReaders.{HasLeftBy}
use Rattle.bl_rows.proofs.Readers.{contents-start, left_by, sound_by, strip-small}
use Rattle.bl_rows.proofs.records.RecordReader.start.Goals as goal

pub invariant_of-result : goal.invariant_of-result
invariant_of-result c =
    let has : HasLeftBy false c.from_reader-reader.result (contents c.args.bytes) =
    (StartRecord, strip_bom c.args.bytes, search rules, contents-start c.args.bytes, omega (arith, strip-small c.args.bytes, c.requires)) in
    sound_by false c.from_reader-reader.result (contents c.args.bytes) has

pub returns : goal.returns
returns c =
    let has : HasLeftBy false c.from_reader-reader.result (contents c.args.bytes) =
    (StartRecord, strip_bom c.args.bytes, search rules, contents-start c.args.bytes, omega (arith, strip-small c.args.bytes, c.requires)) in
    left_by false c.from_reader-reader.result (contents c.args.bytes) has
