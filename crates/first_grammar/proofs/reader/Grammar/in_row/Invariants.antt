use Rattle.std.proofs.Common.{◌≡◌, ◌-◌}
use Rattle.first_grammar.specs.Growing.{children_view}
use Rattle.first_grammar.specs.Reading.{node, in_row, in_row_from}
use Rattle.first_grammar.proofs.reader.Grammar.in_row.Given as goal

abbrev pub invariant-loop-turn : goal.invariant-loop-turn
invariant-loop-turn g l = in_row (node l.self.depth) l.category l.close l.fn.cursor ≡ in_row_from (node l.self.depth) l.category l.close (l._turn-end - l._turn) (children_view l.found) l.cursor
