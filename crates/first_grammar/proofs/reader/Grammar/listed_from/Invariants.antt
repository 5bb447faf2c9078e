use Rattle.std.proofs.Common.{[], ◌≡◌, ◌-◌}
use Rattle.first_grammar.specs.Growing.{children_view}
use Rattle.first_grammar.specs.Input.{turns}
use Rattle.first_grammar.specs.Reading.{node, listed_from}
use Rattle.first_grammar.proofs.reader.Grammar.listed_from.Given as goal

abbrev pub invariant-loop-turn : goal.invariant-loop-turn
invariant-loop-turn g l = listed_from (node l.self.depth) l.category l.least (turns l.fn.cursor) [] l.fn.cursor ≡ listed_from (node l.self.depth) l.category l.least (l._turn-end - l._turn) (children_view l.found) l.cursor
