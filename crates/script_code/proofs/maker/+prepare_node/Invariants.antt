use Rattle.script_code.proofs.maker.+prepare_node.Given as goal

abbrev pub decreases-prepare_node : goal.decreases-prepare_node
decreases-prepare_node l = l.levels
