-- A node from its shell.
use Rattle.std.specs.Prelude.{ℕ, Option}
use Rattle.tree_core.specs.Syntax.{Syntax, node, Slots}
use Rattle.first_grammar.specs.declared.number.Shell.{Shell}

abbrev pub shelled : Shell → Slots → Option ℕ → Syntax
shelled shell slots from = node shell.kind shell.scalars slots shell.notes from
