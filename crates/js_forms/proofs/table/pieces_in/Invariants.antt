use Rattle.std.proofs.Common.{◌≡◌, drop, map}
use Rattle.js_forms.specs.Table as spec
use Rattle.js_forms.proofs.table.pieces_in.Given as goal

abbrev pub invariant-loop-one : goal.invariant-loop-one
invariant-loop-one l = spec.pieces_in l.spelling (map (λ s. (s.0, s.1.now)) l.spellings) ≡ spec.pieces_in l.spelling (map (λ s. (s.0, s.1.now)) (drop l.one-index l.spellings))
