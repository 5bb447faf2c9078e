-- What is answered for a whole text.
use Rattle.std.specs.Prelude.{◌≡◌, ◌≢◌, ℕ, List, Result, Ok, Err}
use Rattle.tree_core.specs.declared.span.Span.{Span}
use Rattle.tree_core.specs.declared.tree.Tree.{Tree}
use Rattle.tree_core.specs.Syntax.{Syntax}
use Rattle.tree_core.specs.View.{syntax}
use Rattle.first_grammar.specs.declared.error.ReadError.{ReadError}
use Rattle.first_grammar.specs.declared.error.ReadError.TheVariants.{NoMemory}
use Rattle.first_grammar.specs.Input.{Outcome, begin}
use Rattle.first_grammar.specs.Reading.{program}

abbrev pub with_spans : Outcome Syntax → Result (Syntax × List Span) ReadError
with_spans (Ok r) = Ok (r.0, r.1.spans)
with_spans (Err e) = Err e

-- the tree that is read, and the spans of its nodes, numbered in the order in which they end
abbrev pub raw : List ℕ → Result (Syntax × List Span) ReadError
raw s = with_spans (program (begin s))

-- the answer is this outcome, unless memory runs out
abbrev pub Is : Result (Syntax × List Span) ReadError → Result (Tree × List Span) ReadError → Type 0
Is outcome (Ok r) = outcome ≡ Ok (syntax r.0, r.1)
Is outcome (Err e) = e ≢ NoMemory → outcome ≡ Err e

-- why it is refused, unless memory runs out
abbrev pub Refused : List ℕ → ReadError → Type 0
Refused s e = e ≢ NoMemory → program (begin s) ≡ Err e
