use Rattle.js_parser.proofs.grammar.+node.Given as goal

abbrev pub decreases-node : goal.decreases-node
decreases-node l = l.depth
