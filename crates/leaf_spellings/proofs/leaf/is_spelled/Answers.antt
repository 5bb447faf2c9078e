use Rattle.std.proofs.Common.{rules}
use Rattle.leaf_spellings.proofs.Slotted.{with_slots}
use Rattle.leaf_spellings.proofs.leaf.is_spelled.Goals as goal

pub returns-then-not-is_empty : goal.returns-then-not-is_empty
returns-then-not-is_empty c = λ _. with_slots c.args.source.now c.args.span c.args.tree.now (λ none. search rules)
