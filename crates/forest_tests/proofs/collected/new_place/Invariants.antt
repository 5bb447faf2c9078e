use Rattle.forest_tests.proofs.collected.new_place.Given as goal

abbrev pub ghosts-add_place : goal.ghosts-add_place
ghosts-add_place a = record { name = a.blank.name; parts = a.blank.parts }
