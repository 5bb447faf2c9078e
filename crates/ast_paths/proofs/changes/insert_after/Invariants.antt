use Rattle.ast_paths.proofs.changes.insert_after.Given as goal

abbrev pub ghosts-change : goal.ghosts-change
ghosts-change a = record { name = a.blank.name; parts = a.blank.parts }
