use Rattle.std.proofs.Common.{◌∙◌, ap, take}
use Rattle.type_defs.specs.Fields.{row_of, fields_of}
use Rattle.collections.proofs.Readings.{map_take}
use Rattle.collections.proofs.field_values.scalars.Goals as goal

pub returns-clause-fields : goal.returns-clause-fields
returns-clause-fields c =
    map_take row_of c.scalar_count-count.result c.fields-fields.result.now
    ∙ (ap (take c.scalar_count-count.result) c.fields-fields.ensures ∙ ap (λ n. take n (fields_of c.args.kind)) c.scalar_count-count.ensures.count)
