use Rattle.std.proofs.Common.{◌∙◌, arith}
use Rattle.tree_core.specs.View.{syntax}
use Rattle.tree_forms.proofs.LinkLemmas.{links_step}
use Rattle.tree_forms.proofs.chains.links_below.Goals as goal

pub returns-in-Some : goal.returns-in-Some
returns-in-Some c =
    c.saturating_sub.ensures ∙ links_step (syntax c.args.tree.now) (syntax c.args.first.now) c.args.links_here c.form.result c.in-Some.field-0 c.requires.here c.requires.first c.form.ensures c.in-Some.ensures (omega arith)
