use Rattle.script_code.proofs.declared.+declare_pattern.Given as goal

abbrev pub decreases-declare_pattern : goal.decreases-declare_pattern
decreases-declare_pattern l = l.levels
