use Rattle.pattern_cover.proofs.conversion.+convert.Given as goal

abbrev pub decreases-convert : goal.decreases-convert
decreases-convert l = l.depth
