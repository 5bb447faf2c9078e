use Rattle.std.proofs.Common.{◌≡◌, ◌≤◌, ◌<◌, ◌-◌, ℕ, length, get_or}
use Rattle.js_parser.proofs.tokens.flags_at.Given as goal

abbrev pub invariant-loop-i : goal.invariant-loop-i
invariant-loop-i l = record {
  within : l.at ≤ length l.text;
  behind : l.at < length l.text → get_or l.text (l.at - 1) 0 ≡ 0x2F;
  last : (k : ℕ) → l.at ≤ k → k < l.i → get_or l.text k 0 ≡ 0x2F → ⊥;
}
