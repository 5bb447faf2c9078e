use Rattle.std.proofs.Common.{◌≡◌, arith, length, map, true, Some}
use Rattle.collections.specs.Reads.{seen}
use Rattle.collections.specs.Matches.{field_tried, fields_told, has_places}
use Rattle.collections.proofs.Trials.{fields_end, fields_next, items_end, items_none, told_long}
use Rattle.collections.proofs.matching.+matching.Goals as goal

pub try_fields-loop-field-preserved : goal.try_fields-loop-field-preserved
try_fields-loop-field-preserved t c =
    let sum = c.saturating_add-visits.ensures in
    let next = fields_next c.args.arena.now c.args.node c.loop-field.field-index c.loop-field.visits c.saturating_add-visits.result c.try_value-trial.result.visits c.args.fields.now c.field-item.result
    c.get.result.now (seen c.read_field-value.result) c.try_value-trial.result.fits (fields_told (map field_tried c.args.fields.now) c.args.arena.now c.args.node)
    c.loop-field-test.true c.field-item.is c.get.ensures c.read_field-value.ensures.reads c.try_value-trial.ensures.fits c.try_value-trial.ensures.visits c.if-not-trial.false sum
    c.loop-field.invariant.fits c.loop-field.invariant.visits in
    record { fits = next.0; few = omega (arith, sum); visits = next.1 }

pub try_fields-returns-clause-visits : goal.try_fields-returns-clause-visits
try_fields-returns-clause-visits t c =
    fields_end c.args.arena.now c.args.node c.loop-field.field-index c.loop-field.visits _ c.args.fields.now (omega (arith, c.loop-field-test.false)) c.loop-field.invariant.few c.loop-field.invariant.visits

pub try_items-returns-in_default-clause-visits : goal.try_items-returns-in_default-clause-visits
try_items-returns-in_default-clause-visits t c =
    let yes : has_places c.args.arena.now.forest (length c.args.patterns.now) (Some c.args.first) ≡ true = grind arith in
    told_long c.args.arena.now (Some c.args.first) c.args.patterns.now c.loop-pattern.visits yes
    (items_none c.args.arena.now c.loop-pattern.pattern-index c.loop-pattern.visits _ c.loop-pattern.at c.args.patterns.now c.in_default.is c.loop-pattern.invariant.few c.loop-pattern.invariant.visits)

pub try_items-returns-clause-visits : goal.try_items-returns-clause-visits
try_items-returns-clause-visits t c =
    let yes : has_places c.args.arena.now.forest (length c.args.patterns.now) (Some c.args.first) ≡ true = grind arith in
    told_long c.args.arena.now (Some c.args.first) c.args.patterns.now c.loop-pattern.visits yes
    (items_end c.args.arena.now c.loop-pattern.pattern-index c.loop-pattern.visits _ c.loop-pattern.at c.args.patterns.now (omega (arith, c.loop-pattern-test.false)) c.loop-pattern.invariant.few c.loop-pattern.invariant.visits)
