use Rattle.node_arena.proofs.arena.Arena.copy_all.Given as goal

abbrev pub ghosts-copy_each : goal.ghosts-copy_each
ghosts-copy_each a = record { name = a.blank.name; parts = a.blank.parts }
