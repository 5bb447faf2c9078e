use Rattle.std.proofs.Common.{◌≡◌, ◌≢◌, ◌<◌, ℕ, Some, slice_get}
use Rattle.type_defs.specs.Fields.{Field, slots_at}
use Rattle.ast_paths.proofs.reads.slot_named.Given as goal

abbrev pub invariant-loop-slot : goal.invariant-loop-slot
invariant-loop-slot l = (s : ℕ) (f : Field) → s < l.slot → slice_get (slots_at l.fn.kind) s ≡ Some f → f.name ≢ l.name
