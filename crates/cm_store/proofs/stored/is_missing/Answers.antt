use Rattle.std.proofs.Common.{◌∙◌, sym, ap, not}
use Rattle.cm_store.proofs.Lookup.{is_none-get}
use Rattle.cm_store.proofs.stored.is_missing.Goals as goal

pub returns : goal.returns
returns c = sym (is_none-get c.args.name.now c.args.files.now ∙ ap not (sym c.has_name.ensures))
