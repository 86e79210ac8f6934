use Rattle.bl_rows_tests.proofs.csv_tests.columns_of.Goals as goal

pub read_header-requires : goal.read_header-requires
read_header-requires c = (c.header.ensures.short c.requires.0 c.requires.1 c.requires.2 c.requires.3).few
