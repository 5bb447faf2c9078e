use Rattle.first_grammar.proofs.reader.+node.Given as goal

abbrev pub decreases-node : goal.decreases-node
decreases-node l = l.depth
