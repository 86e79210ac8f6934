use Rattle.bl_bench.proofs.committing.filled.Given as goal

abbrev pub ghosts-opened : goal.ghosts-opened
ghosts-opened a = record { name = a.blank.name; parts = a.blank.parts }
