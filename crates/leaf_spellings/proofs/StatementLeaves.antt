-- Statements without slots as leaves.
use Rattle.std.proofs.Common.{◌≡◌, ◌+◌, ◌-◌, ℕ, List, [], ◌∷◌, length, None, Some, Ok, true, false, ap, sym, ◌∙◌}
use Rattle.std.specs.Prelude.{slice_range}
use Rattle.asi_rules.specs.declared.rules.Ending.TheVariants as e
use Rattle.tree_core.specs.declared.scalars.Scalar.{Scalar}
use Rattle.tree_core.specs.declared.scalars.Scalar.TheVariants as scalar
use Rattle.tree_core.specs.declared.span.Span.{Span}
use Rattle.js_tokens.specs.Texts.{code_units}
use Rattle.js_tokens.specs.declared.punctuator.Punctuator.TheVariants as m
use Rattle.js_tokens.specs.declared.token.Goal.TheVariants.{Div}
use Rattle.js_tokens.specs.declared.token.Token.{Token}
use Rattle.js_tokens.specs.declared.token.TokenKind.{TokenKind}
use Rattle.js_tokens.specs.declared.token.TokenKind.TheVariants as t
use Rattle.js_tokens.specs.declared.word.Word.TheVariants as w
use Rattle.js_lexer.specs.Cursors.{is_mark, is_word}
use Rattle.js_lexer.specs.Scan.{scan}
use Rattle.js_forms.specs.Contexts.{outermost}
use Rattle.js_forms.specs.declared.form.Form.{Form}
use Rattle.js_forms.specs.declared.form.Form.TheVariants as f
use Rattle.js_forms.specs.declared.levels.TheConstants.{PRIMARY}
use Rattle.js_forms.specs.declared.piece.Lexeme.TheVariants as l
use Rattle.js_forms.specs.declared.piece.Piece.TheVariants as p
use Rattle.js_forms.specs.declared.piece.Spelling.TheVariants as v
use Rattle.js_forms.specs.declared.piece.Test.TheVariants as test
use Rattle.spelling_rules.specs.Tokens.{texts, texts_of}
use Rattle.spelling_rules.specs.Spells as spells
use Rattle.spelling_rules.specs.Spells.{a_token, a_text, is_missing, may_miss}
use Rattle.type_defs.specs.declared.kind.Kind.TheVariants as of_kind
use Rattle.leaf_spellings.specs.Begun.{Begins, EndsStatement}
use Rattle.leaf_spellings.specs.Leaves.{Leaf}
use Rattle.leaf_spellings.proofs.OneToken.{leaf_of, token_fills, none_left, nothing_held}
use Rattle.leaf_spellings.proofs.Rows as rows

pub a_semicolon : (s : List ℕ) (form : Form) (most i j : ℕ) (found : Token) → scan s i Div ≡ Ok found → is_mark found.kind m.Semicolon ≡ true → found.end ≡ j → EndsStatement s form most i j
a_semicolon s form most i j found scanned is ends = record {
  greatest = 0;
  fills = spells.a_semicolon form outermost most 0 i j [] [] [] None e.Statement false found scanned is (none_left s form 0 found.end j ends);
}

pub a_missing_one : (s : List ℕ) (form : Form) (most i j : ℕ) (found : Token) → scan s i Div ≡ Ok found → may_miss e.Statement false most found ≡ true → i ≡ j → EndsStatement s form most i j
a_missing_one s form most i j found scanned is ends = record {
  greatest = most;
  fills = is_missing form outermost most most i j [] [] [] None e.Statement false found scanned is (none_left s form most i j ends);
}

pub an_empty_one : (s : List ℕ) (span : Span) (first : Token) (found : List Scalar) → Begins s span first → length found ≡ 0 → first.end ≡ span.end → is_mark first.kind m.Semicolon ≡ true
    → Leaf s span.start span.end of_kind.EmptyStatement found
an_empty_one s span first found begins none ends is =
    leaf_of s span first f.Empty of_kind.EmptyStatement v.Usual (p.Token (test.Punctuator m.Semicolon) ∷ []) [] found [] 0 rows.an_empty rows.an_empty_kind begins (nothing_held found none)
    (token_fills s f.Empty span.start span.end first (test.Punctuator m.Semicolon) begins.found is ends)

pub a_debugger : (s : List ℕ) (span : Span) (first : Token) (found : List Scalar) → Begins s span first → length found ≡ 0 → is_word first.kind w.Debugger ≡ true
    → EndsStatement s f.Debugger 0 first.end span.end → Leaf s span.start span.end of_kind.DebuggerStatement found
a_debugger s span first found begins none is ends =
    leaf_of s span first f.Debugger of_kind.DebuggerStatement v.Usual (p.Token (test.Word w.Debugger) ∷ p.End e.Statement false ∷ []) [] found [] ends.greatest rows.a_debugger rows.a_debugger_kind begins (nothing_held found none)
    (a_token f.Debugger outermost 0 ends.greatest span.start span.end (p.End e.Statement false ∷ []) [] [] None (test.Word w.Debugger) first begins.found is ends.fills)

abbrev one : List ℕ → List Scalar
one units = scalar.Text units ∷ []

directive-text : (s : List ℕ) (first : Token) (units : List ℕ) → first.kind ≡ t.Quoted → units ≡ code_units false (slice_range s (first.start + 1) (first.end - 1)) → texts l.Directive s first ≡ Some (one units)
directive-text s first units kind is =
    ap (λ (k : TokenKind). texts_of l.Directive k s first) kind ∙ ap (λ (found : List ℕ). Some (one found)) (sym is)

pub a_directive : (s : List ℕ) (span : Span) (first : Token) (found : List Scalar) (units : List ℕ) → Begins s span first → first.kind ≡ t.Quoted → found ≡ one units
    → units ≡ code_units false (slice_range s (first.start + 1) (first.end - 1)) → EndsStatement s f.Directive PRIMARY first.end span.end → Leaf s span.start span.end of_kind.Directive found
a_directive s span first found units begins kind has is ends =
    leaf_of s span first f.Directive of_kind.Directive v.Usual (p.Text l.Directive ∷ p.End e.Statement false ∷ []) [] found (one units) ends.greatest rows.a_directive rows.a_directive_kind begins has
    (a_text f.Directive outermost 0 ends.greatest span.start span.end (p.End e.Statement false ∷ []) [] [] None l.Directive first (one units) begins.found (directive-text s first units kind is) ends.fills)
