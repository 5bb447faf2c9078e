use Rattle.host_fields.proofs.list_changes.insert_place.Given as goal

abbrev pub ghosts-insert_counting : goal.ghosts-insert_counting
ghosts-insert_counting a = record { name = a.blank.name; parts = a.blank.parts }
