-- What the builder of each kind takes.
use Rattle.std.specs.Prelude.{List, [], slice_index_or}
use Rattle.type_defs.specs.declared.kind.Kind.{Kind}
use Rattle.type_defs.specs.declared.builders.BuilderArg.{BuilderArg}
use Rattle.type_defs.specs.Kinds.{place_of, argument_lists}

-- the arguments of the kind's builder
abbrev pub args_of : Kind → List BuilderArg
args_of kind = slice_index_or argument_lists (place_of kind) []
