use Rattle.std.proofs.Common.{◌≡◌, ℕ, ◌<◌, get_or}
use Rattle.leaf_spellings.proofs.same.is_plain.Given as goal

abbrev pub invariant-loop-at : goal.invariant-loop-at
invariant-loop-at l = record {
  low : (k : ℕ) → k < l.at → get_or l.bytes k 0 < 0x80;
  no_escape : (k : ℕ) → k < l.at → get_or l.bytes k 0 ≡ 0x5C → ⊥;
  no_return : (k : ℕ) → k < l.at → get_or l.bytes k 0 ≡ 0x0D → ⊥;
  same : (k : ℕ) → k < l.at → get_or l.bytes k 0 ≡ get_or l.units k 0;
}
