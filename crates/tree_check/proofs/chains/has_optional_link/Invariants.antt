use Rattle.std.proofs.Common.{◌≡◌, ◌-◌}
use Rattle.std.specs.Option.{option_copied, option_map}
use Rattle.tree_core.specs.View.{syntax}
use Rattle.tree_check.specs.Parts as spec
use Rattle.tree_check.specs.declared.rule.TheConstants.{MAX_DEPTH}
use Rattle.tree_check.proofs.chains.has_optional_link.Given as goal

abbrev pub invariant-loop-turn : goal.invariant-loop-turn
invariant-loop-turn l = spec.has_optional_link MAX_DEPTH (option_map syntax (option_copied l.first)) ≡ spec.has_optional_link (MAX_DEPTH - l._turn) (option_map syntax (option_copied l.here))
