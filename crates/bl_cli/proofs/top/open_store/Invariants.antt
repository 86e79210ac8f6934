use Rattle.bl_cli.proofs.top.open_store.Given as goal

abbrev pub ghosts-open_counted : goal.ghosts-open_counted
ghosts-open_counted g a = record { name = a.blank.name; parts = a.blank.parts }
