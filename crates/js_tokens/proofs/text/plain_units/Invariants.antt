use Rattle.std.proofs.Common.{length, drop, ◌-◌, ◌++◌, ◌≡◌, ◌≤◌}
use Rattle.js_tokens.specs.Texts.{plain_units}
use Rattle.js_tokens.proofs.text.plain_units.Given as goal

abbrev pub invariant-loop-at : goal.invariant-loop-at
invariant-loop-at l = record {
  so_far : plain_units l.how 0 l.raw ≡ l.units ++ plain_units l.how 0 (drop l.at l.raw);
  within : l.at ≤ length l.raw;
}

abbrev pub decreases-loop-at : goal.decreases-loop-at
decreases-loop-at l = length l.raw - l.at
