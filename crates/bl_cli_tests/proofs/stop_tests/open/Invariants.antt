use Rattle.bl_cli_tests.proofs.stop_tests.open.Given as goal

abbrev pub ghosts-opened : goal.ghosts-opened
ghosts-opened a = record { name = a.blank.name; parts = a.blank.parts }
