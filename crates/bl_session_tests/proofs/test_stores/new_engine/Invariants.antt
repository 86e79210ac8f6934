use Rattle.bl_session_tests.proofs.test_stores.new_engine.Given as goal

abbrev pub ghosts-opened : goal.ghosts-opened
ghosts-opened a = record { name = a.blank.name; parts = a.blank.parts }
