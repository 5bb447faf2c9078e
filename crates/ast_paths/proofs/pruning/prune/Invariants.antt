use Rattle.ast_paths.proofs.pruning.prune.Given as goal

abbrev pub ghosts-prune_counting : goal.ghosts-prune_counting
ghosts-prune_counting a = record { name = a.blank.name; parts = a.blank.parts }
