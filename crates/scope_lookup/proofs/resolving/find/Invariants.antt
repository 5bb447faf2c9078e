use Rattle.std.proofs.Common.{◌≡◌, ◌<◌, ◌-◌, length}
use Rattle.scope_lookup.specs.Resolve.{find_from, find_in}
use Rattle.scope_lookup.proofs.resolving.find.Given as goal

abbrev pub invariant-loop-turn : goal.invariant-loop-turn
invariant-loop-turn l = record {
  within : l.asked.owner < length l.arena.forest.nodes;
  told : find_in (l._turn-end - l._turn) l.arena l.name l.asked ≡ find_from l.arena l.name l.fn.scope;
}
