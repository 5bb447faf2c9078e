use Rattle.text_guard.proofs.Lengths.{places_length, slots_length}
use Rattle.text_guard.proofs.nodes.+nodes.Goals as goal

pub same_list-returns-then-a-b : goal.same_list-returns-then-a-b
same_list-returns-then-a-b t c = ((λ h. cc), (λ e. absurd (c.if-a-b.true (places_length c.args.a.now c.args.b.now e))))

pub same_slots-returns-then-a-b : goal.same_slots-returns-then-a-b
same_slots-returns-then-a-b t c = ((λ h. cc), (λ e. absurd (c.if-a-b.true (slots_length c.args.a.now c.args.b.now e))))
