use Rattle.std.proofs.Common.{◌≡◌, ◌-◌}
use Rattle.first_grammar.specs.Growing.{grown_view, kinded_view}
use Rattle.first_grammar.specs.Reading.{node, climbed, climb}
use Rattle.first_grammar.proofs.reader.Grammar.climbed.Given as goal

abbrev pub invariant-loop-turn : goal.invariant-loop-turn
invariant-loop-turn g l = climbed l.self.depth (node l.self.depth) l.category l.least l.start (kinded_view l.fn.first) l.fn.cursor ≡ climb l.self.depth (node l.self.depth) l.category l.least l.start (l._turn-end - l._turn) (grown_view l.tree) l.kind l.cursor
