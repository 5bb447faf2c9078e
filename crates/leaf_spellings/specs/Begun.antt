-- A stretch of a text with the token at its start, and the end of a statement.
use Rattle.std.specs.Prelude.{◌≡◌, ◌<◌, ◌≤◌, ℕ, false, List, [], ◌∷◌, None, length, Ok}
use Rattle.tree_core.specs.declared.span.Span.{Span}
use Rattle.js_tokens.specs.declared.token.Goal.TheVariants.{Div}
use Rattle.js_tokens.specs.declared.token.Token.{Token}
use Rattle.js_lexer.specs.Scan.{scan}
use Rattle.asi_rules.specs.declared.rules.Ending.TheVariants as e
use Rattle.js_forms.specs.Contexts.{outermost}
use Rattle.js_forms.specs.declared.form.Form.{Form}
use Rattle.js_tokens.specs.declared.punctuator.Punctuator.TheVariants as m
use Rattle.js_forms.specs.declared.piece.MetaWord.{MetaWord}
use Rattle.js_forms.specs.declared.piece.Piece.{Piece}
use Rattle.js_forms.specs.declared.piece.Piece.TheVariants as p
use Rattle.js_forms.specs.declared.piece.Test.TheVariants as t
use Rattle.spelling_rules.specs.Spells.{Anything, Fills}

-- the token is the first of the stretch, and begins where that does
pub record Begins (s : List ℕ) (span : Span) (token : Token) : Type 0 where
  pub some : span.start < span.end
  pub within : span.end ≤ length s
  pub found : scan s span.start Div ≡ Ok token
  pub at_start : token.start ≡ span.start
  pub ordered : token.start ≤ token.end
  pub last : token.end ≤ length s

-- behind blanks from i on, the bytes up to j end a statement of the form whose ends have this greatest level
-- (ECMA-262, clause 12.10)
pub record EndsStatement (s : List ℕ) (form : Form) (most i j : ℕ) : Type 0 where
  pub greatest : ℕ
  pub fills : Fills Anything s form outermost most (p.End e.Statement false ∷ []) i j [] [] None greatest

-- a dot and the word of a meta property (clause 13.3.12)
abbrev pub dotted : MetaWord → List Piece
dotted word = p.Token (t.Punctuator m.Dot) ∷ p.Token (t.Spelled word) ∷ []
