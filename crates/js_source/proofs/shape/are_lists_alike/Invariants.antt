use Rattle.std.proofs.Common.{◌≡◌, take}
use Rattle.js_source.proofs.Shapes.{slots_listed, fields_listed}
use Rattle.js_source.proofs.shape.are_lists_alike.Given as goal

abbrev pub invariant-loop-at : goal.invariant-loop-at
invariant-loop-at l = take l.at (slots_listed l.slots) ≡ take l.at (fields_listed l.fields)
