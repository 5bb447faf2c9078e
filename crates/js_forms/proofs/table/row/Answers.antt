use Rattle.js_forms.proofs.Places.{second_level, third_level}
use Rattle.js_forms.proofs.table.row.Goals as goal

pub returns-then-at-lt52-clause-level : goal.returns-then-at-lt52-clause-level
returns-then-at-lt52-clause-level c =
    second_level c.args.form c.place-at.result c.operation_row.result.2 c.place-at.ensures.place c.if-at-lt23.false c.if-at-lt52.true c.operation_row.ensures.level

pub returns-then-at-lt82-clause-level : goal.returns-then-at-lt82-clause-level
returns-then-at-lt82-clause-level c =
    third_level c.args.form c.place-at.result c.statement_row.result.2 c.place-at.ensures.place c.if-at-lt23.false c.if-at-lt52.false c.if-at-lt82.true c.statement_row.ensures.level
