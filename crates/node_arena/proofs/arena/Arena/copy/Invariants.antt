use Rattle.node_arena.proofs.arena.Arena.copy.Given as goal

abbrev pub ghosts-copy_one : goal.ghosts-copy_one
ghosts-copy_one a = record { name = a.blank.name; parts = a.blank.parts }
