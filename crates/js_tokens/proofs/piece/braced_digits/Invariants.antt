use Rattle.std.proofs.Common.{◌≡◌, ◌≤◌, drop}
use Rattle.js_tokens.specs.Pieces.{digits_to_brace}
use Rattle.js_tokens.proofs.piece.braced_digits.Given as goal

abbrev pub invariant-loop-at : goal.invariant-loop-at
invariant-loop-at g l = record {
  rest : digits_to_brace l.value l.at (drop l.at (g.T.Text.bytes l.text)) ≡ digits_to_brace 0 3 (drop 3 (g.T.Text.bytes l.text));
  small : l.value ≤ 0x10_FFFF;
}
