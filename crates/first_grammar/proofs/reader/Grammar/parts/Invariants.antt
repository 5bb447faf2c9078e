use Rattle.std.proofs.Common.{◌≡◌, drop}
use Rattle.first_grammar.specs.Reading.{node, parts}
use Rattle.first_grammar.specs.Growing.{parts_view}
use Rattle.first_grammar.proofs.reader.Grammar.parts.Given as goal

abbrev pub invariant-loop-part : goal.invariant-loop-part
invariant-loop-part g l = parts (node l.self.depth) l.parts (parts_view l.fn.read) l.fn.cursor ≡ parts (node l.self.depth) (drop l.part-index l.parts) (parts_view l.read) l.cursor
