use Rattle.host_fields.proofs.list_changes.clear_place.Given as goal

abbrev pub ghosts-clear_counting : goal.ghosts-clear_counting
ghosts-clear_counting a = record { name = a.blank.name; parts = a.blank.parts }
