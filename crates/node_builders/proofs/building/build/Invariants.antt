use Rattle.node_builders.proofs.building.build.Given as goal

abbrev pub ghosts-build_node : goal.ghosts-build_node
ghosts-build_node a = record { name = a.blank.name; parts = a.blank.parts }
