use Rattle.std.proofs.Common.{◌≡◌, ◌≤◌, ◌<◌, ◌-◌, ℕ, length, get_or}
use Rattle.leaf_spellings.proofs.literals.flags_at.Given as goal

abbrev pub invariant-loop-i : goal.invariant-loop-i
invariant-loop-i l = record {
  within : l.at ≤ length l.text;
  behind : 0 < l.at → get_or l.text (l.at - 1) 0 ≡ 0x2F;
  last : (k : ℕ) → l.at ≤ k → k < l.i → get_or l.text k 0 ≡ 0x2F → ⊥;
}
