use Rattle.collections.proofs.Readings.{too_much}
use Rattle.collections.proofs.field_values.spelled.Goals as goal

pub returns-then-more-gt-MAX_WHOLE-clause-none : goal.returns-then-more-gt-MAX_WHOLE-clause-none
returns-then-more-gt-MAX_WHOLE-clause-none c =
    too_much c.args.units.now c.loop-unit.unit-index c.loop-unit.value c.in-Some.digit _ c.digit.result c.loop-unit-test.true c.loop-unit.invariant.spelled c.digit.ensures.digit c.in-Some.is c.in-Some.ensures.value c.if-more-gt-MAX_WHOLE.true
