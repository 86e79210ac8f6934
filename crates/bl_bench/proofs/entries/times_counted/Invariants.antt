use Rattle.bl_bench.proofs.entries.times_counted.Given as goal

abbrev pub ghosts-times : goal.ghosts-times
ghosts-times a = record { name = a.blank.name; parts = a.blank.parts }
