use Rattle.host_api.proofs.filters.+test_part.Given as goal

abbrev pub decreases-test_part : goal.decreases-test_part
decreases-test_part l = l.left
