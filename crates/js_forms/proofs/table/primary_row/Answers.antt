use Rattle.std.proofs.Common.{map}
use Rattle.js_forms.proofs.Columns.{in_column}
use Rattle.js_forms.proofs.table.primary_row.Goals as goal

pub returns-clause-kind : goal.returns-clause-kind
returns-clause-kind c = in_column (λ row. row.1) c.primary_rows.result.now _ c.args.at _ c.primary_rows.ensures.kinds

pub returns-clause-level : goal.returns-clause-level
returns-clause-level c = in_column (λ row. row.2) c.primary_rows.result.now _ c.args.at _ c.primary_rows.ensures.levels

pub returns-clause-spellings : goal.returns-clause-spellings
returns-clause-spellings c = in_column (λ row. map (λ s. (s.0, s.1.now)) row.3.now) c.primary_rows.result.now _ c.args.at _ c.primary_rows.ensures.spellings
