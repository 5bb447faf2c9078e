use Rattle.arena_trees.proofs.places.make_slot.Given as goal

abbrev pub ghosts-make_list : goal.ghosts-make_list
ghosts-make_list a = record { name = a.blank.name; parts = a.blank.parts }
