use Rattle.bl_rows.specs.Contents.{contents, rows_of}
use Rattle.bl_rows_tests.proofs.csv_tests.lines_of.Goals as goal

pub columns_of-requires : goal.columns_of-requires
columns_of-requires c = (contents c.in_ok-bytes.bytes, 0, rows_of (contents c.in_ok-bytes.bytes), c.in-Ok.ensures)
