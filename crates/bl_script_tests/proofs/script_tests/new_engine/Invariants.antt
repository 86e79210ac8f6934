use Rattle.bl_script_tests.proofs.script_tests.new_engine.Given as goal

abbrev pub ghosts-opened : goal.ghosts-opened
ghosts-opened a = record { name = a.blank.name; parts = a.blank.parts }
