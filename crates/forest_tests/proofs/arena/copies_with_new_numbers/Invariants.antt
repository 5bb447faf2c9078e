use Rattle.forest_tests.proofs.arena.copies_with_new_numbers.Given as goal

abbrev pub ghosts-copied : goal.ghosts-copied
ghosts-copied g a = record { name = a.blank.name; parts = a.blank.parts }
