use Rattle.host_fields.proofs.list_changes.unlink_place.Given as goal

abbrev pub ghosts-unlink_counting : goal.ghosts-unlink_counting
ghosts-unlink_counting a = record { name = a.blank.name; parts = a.blank.parts }
