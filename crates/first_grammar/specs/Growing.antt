-- What the reader's types stand for.
use Rattle.std.specs.Prelude.{List, map}
use Rattle.tree_core.specs.Syntax.{Syntax}
use Rattle.tree_core.specs.View.{Spot, syntax, place_view, slot_view}
use Rattle.first_grammar.specs.declared.table.Kind.{Kind}
use Rattle.first_grammar.specs.declared.measured.Grown.{Grown}
use Rattle.first_grammar.specs.declared.measured.Children.{Children}
use Rattle.first_grammar.specs.declared.measured.Parts.{Parts}
use Rattle.first_grammar.specs.Reading.{Read, Kinded}

abbrev pub grown_view : Grown → Syntax
grown_view g = syntax g.tree

abbrev pub kinded_view : Grown × Kind → Kinded
kinded_view x = (grown_view x.0, x.1)

abbrev pub children_view : Children → List Spot
children_view c = map place_view c.places

abbrev pub parts_view : Parts → Read
parts_view r = (r.scalars, map slot_view r.slots)
