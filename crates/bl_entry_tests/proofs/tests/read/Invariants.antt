use Rattle.bl_entry_tests.proofs.tests.read.Given as goal

abbrev pub ghosts-decoded : goal.ghosts-decoded
ghosts-decoded a = record { name = a.blank.name; parts = a.blank.parts }
