use Rattle.std.proofs.Common.{◌≡◌, ◌+◌, ◌-◌, ◌∙◌, rules, arith}
use Rattle.std.proofs.lemmas.Grind.{common_steps}
use Rattle.scope_lookup.specs.declared.climbing.Around.TheVariants.{Inside, Above}
use Rattle.scope_lookup.specs.Climbs.{around, climb_from}
use Rattle.scope_lookup.proofs.Climbs.{climb_inside, climb_above}
use Rattle.scope_lookup.proofs.climbing.climb.Goals as goal

pub returns-in-Inside-clause-value : goal.returns-in-Inside-clause-value
returns-in-Inside-clause-value c =
    let t = c.loop-turn-test.true in
    let e : Inside c.in-Inside.scope ≡ around c.args.arena.now c.loop-turn.at = first_of (search rules, grind (arith, common_steps)) in
    climb_inside (c.nodes-turn-end.result + 1 - c.loop-turn._turn) c.args.arena.now c.loop-turn.at c.in-Inside.scope (omega (arith, t)) e ∙ c.loop-turn.invariant.told

pub loop-turn-preserved : goal.loop-turn-preserved
loop-turn-preserved c =
    let t = c.loop-turn-test.true in
    let e : Above c.in-Above.place ≡ around c.args.arena.now c.loop-turn.at = first_of (search rules, grind (arith, common_steps)) in
    record {
      at = c.in-Above.ensures.within;
      told = climb_above (c.nodes-turn-end.result + 1 - c.loop-turn._turn) (c.nodes-turn-end.result + 1 - (c.loop-turn._turn + 1)) c.args.arena.now c.loop-turn.at c.in-Above.place
          (climb_from c.args.arena.now c.args.place) (omega (arith, t)) e c.loop-turn.invariant.told;
    }
