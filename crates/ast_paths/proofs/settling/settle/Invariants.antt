use Rattle.ast_paths.proofs.settling.settle.Given as goal

abbrev pub ghosts-settle_counting : goal.ghosts-settle_counting
ghosts-settle_counting a = record { name = a.blank.name; parts = a.blank.parts }
