use Rattle.std.proofs.Common.{◌≡◌, ◌≢◌, Some, slice_get, below_more, arith}
use Rattle.std.proofs.lemmas.Bool.{iff_false}
use Rattle.type_defs.specs.Fields.{Field, slots_at}
use Rattle.ast_paths.proofs.Walks.{slot_found_at, slot_lacks, slot_within}
use Rattle.ast_paths.proofs.reads.slot_named.Goals as goal

pub returns-then-is_called-clause-found : goal.returns-then-is_called-clause-found
returns-then-is_called-clause-found c = slot_found_at _ _ _ _ _ c.slots-slots.ensures.slots c.loop-slot-test.true (c.is_called.ensures.0 c.if-is_called.true)

pub loop-slot-preserved : goal.loop-slot-preserved
loop-slot-preserved c = λ s f below row.
    below_more (λ k. (f : Field) → slice_get (slots_at c.args.kind) k ≡ Some f → f.name ≢ c.args.name.now) c.loop-slot.slot
    (λ k lt f row. c.loop-slot.invariant k f lt row)
    (λ f row. slot_lacks c.args.kind c.loop-slot.slot _ _ _ c.slots-slots.ensures.slots (iff_false c.is_called.ensures c.if-is_called.false) f row) s below f row

pub returns-clause-missing : goal.returns-clause-missing
returns-clause-missing c = λ s f row.
    let within = slot_within c.args.kind s _ f c.slots-slots.ensures.slots row in
    let past = c.loop-slot-test.false in
    c.loop-slot.invariant s f (omega arith) row
