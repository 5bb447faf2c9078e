use Rattle.std.proofs.Common.{length, drop, ◌-◌, ◌≡◌, ◌≤◌}
use Rattle.js_tokens.specs.Texts.{cooked_units, before}
use Rattle.js_tokens.proofs.text.cooked_units.Given as goal

abbrev pub invariant-loop-at : goal.invariant-loop-at
invariant-loop-at l = record {
  so_far : cooked_units l.how 0 0 l.raw ≡ before l.units (cooked_units l.how l.at 0 (drop l.at l.raw));
  within : l.at ≤ length l.raw;
}

abbrev pub decreases-loop-at : goal.decreases-loop-at
decreases-loop-at l = length l.raw - l.at
