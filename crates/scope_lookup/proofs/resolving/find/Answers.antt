use Rattle.std.proofs.Common.{◌≡◌, ◌+◌, ◌*◌, ◌-◌, Some, None, rules, arith}
use Rattle.std.proofs.lemmas.Grind.{common_steps}
use Rattle.scope_lookup.specs.Climbs.{outer_of}
use Rattle.scope_lookup.specs.Resolve.{declaration, find_from}
use Rattle.scope_lookup.proofs.Names.{find_outside}
use Rattle.scope_lookup.proofs.resolving.find.Goals as goal

pub loop-turn-preserved : goal.loop-turn-preserved
loop-turn-preserved c =
    let t = c.loop-turn-test.true in
    let e : None ≡ declaration c.args.arena.now c.args.name.now c.loop-turn.asked = first_of (search rules, grind (arith, common_steps)) in
    let o : Some c.in-Some-outer.next ≡ outer_of c.args.arena.now c.loop-turn.asked = first_of (search rules, grind (arith, common_steps)) in
    record {
      within = c.in-Some-outer.ensures.within;
      told = find_outside (2 * c.nodes-turn-end.result - c.loop-turn._turn) (2 * c.nodes-turn-end.result - (c.loop-turn._turn + 1)) c.args.arena.now c.args.name.now
          c.loop-turn.asked c.in-Some-outer.next (find_from c.args.arena.now c.args.name.now c.args.scope.now) (omega (arith, t)) e o c.loop-turn.invariant.told;
    }
