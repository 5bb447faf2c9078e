-- All edits of a rename.
use Rattle.std.specs.Prelude.{ℕ, Bool, true, false, if◌then◌else◌, List}
use Rattle.js_tokens.specs.declared.word.Word.{Word}
use Rattle.js_tokens.specs.declared.word.Word.TheVariants.{From}
use Rattle.tree_core.specs.declared.span.Span.{Span}
use Rattle.tree_core.specs.Syntax.{Syntax}
use Rattle.source_rename.specs.declared.edits.Edit.{Edit}
use Rattle.source_rename.specs.declared.places.Seat.TheVariants.{Free}
use Rattle.source_rename.specs.Edits.{edits}
use Rattle.source_rename.specs.Exports.{ended_in}

-- the word `from`, which alone is told from other names behind an export
abbrev pub is_from : Word → Bool
is_from From = true
is_from _ = false

-- the edits of a program in which the identifiers of the old name get this word for a name
abbrev pub all_edits : List ℕ → List Span → List ℕ → Word → Syntax → List Edit
all_edits s spans old word t = if is_from word then ended_in s spans t (edits s spans old word Free t) else edits s spans old word Free t
