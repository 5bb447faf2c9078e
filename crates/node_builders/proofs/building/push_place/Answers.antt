use Rattle.std.proofs.Common.{◌≡◌, sym, subst, true, None}
use Rattle.node_arena.specs.Store.{Store}
use Rattle.ast_paths.specs.Paths.{is_filled}
use Rattle.ast_paths.proofs.Filled.{first_filled}
use Rattle.node_builders.proofs.building.push_place.Goals as goal

pub returns-in-Ok-insert_first-clause-filled : goal.returns-in-Ok-insert_first-clause-filled
returns-in-Ok-insert_first-clause-filled g c = λ x h. subst (λ (s : Store). is_filled s.forest x ≡ true) (sym c.in-Ok-insert_first.ensures.ok) (first_filled c.args.arena.now.forest _ None x h)
