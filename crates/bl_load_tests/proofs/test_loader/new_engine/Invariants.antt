use Rattle.bl_load_tests.proofs.test_loader.new_engine.Given as goal

abbrev pub ghosts-opened : goal.ghosts-opened
ghosts-opened a = record { name = a.blank.name; parts = a.blank.parts }
