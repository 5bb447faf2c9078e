use Rattle.std.proofs.Common.{◌≡◌, ◌-◌, length}
use Rattle.first_grammar.specs.Words.{run, is_part}
use Rattle.first_grammar.proofs.words.name_end.Given as goal

abbrev pub invariant-loop-at : goal.invariant-loop-at
invariant-loop-at l = run is_part l.bytes (length l.bytes - l.from) l.from ≡ run is_part l.bytes (length l.bytes - l.at) l.at
