use Rattle.std.proofs.Common.{◌≡◌, ◌-◌, length}
use Rattle.first_grammar.specs.Words.{run, is_blank}
use Rattle.first_grammar.proofs.words.blanks_end.Given as goal

abbrev pub invariant-loop-at : goal.invariant-loop-at
invariant-loop-at l = run is_blank l.bytes (length l.bytes - l.from) l.from ≡ run is_blank l.bytes (length l.bytes - l.at) l.at
