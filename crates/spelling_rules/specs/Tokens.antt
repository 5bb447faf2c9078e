-- What is said of the next token, and what a token's text gives as scalars (ECMA-262, clause 12).
use Rattle.std.specs.Prelude.{ℕ, ◌+◌, ◌-◌, ◌==◌, Bool, true, false, not, ◌&&◌, ◌||◌, List, [], ◌∷◌, length, slice_range, Option, Some, None, Result, Ok, Err, if◌then◌else◌, bytes_eq}
use Rattle.std.specs.List.{list_any}
use Rattle.tree_core.specs.declared.scalars.Scalar.{Scalar}
use Rattle.tree_core.specs.declared.scalars.Scalar.TheVariants as scalar
use Rattle.js_tokens.specs.Texts.{code_units, name_units, string_value, template_value}
use Rattle.js_tokens.specs.Words.{reserved, word_of}
use Rattle.js_tokens.specs.declared.punctuator.Punctuator.TheVariants as m
use Rattle.js_tokens.specs.declared.token.Goal.{Goal}
use Rattle.js_tokens.specs.declared.token.Goal.TheVariants as goal
use Rattle.js_tokens.specs.declared.token.TemplatePart.TheVariants as part
use Rattle.js_tokens.specs.declared.token.Token.{Token}
use Rattle.js_tokens.specs.declared.token.TokenKind.{TokenKind}
use Rattle.js_tokens.specs.declared.token.TokenKind.TheVariants as t
use Rattle.js_tokens.specs.declared.word.Word.TheVariants as w
use Rattle.asi_rules.specs.Semicolons.{closes}
use Rattle.js_forms.specs.Table.{meta_spelling}
use Rattle.js_forms.specs.declared.form.Standing.{Standing}
use Rattle.js_forms.specs.declared.form.Standing.TheVariants as standing
use Rattle.js_forms.specs.declared.piece.Lexeme.{Lexeme}
use Rattle.js_forms.specs.declared.piece.Lexeme.TheVariants as l
use Rattle.js_forms.specs.declared.piece.Test.{Test}
use Rattle.js_forms.specs.declared.piece.Test.TheVariants as test
use Rattle.js_lexer.specs.declared.fault.LexFault.{LexFault}
use Rattle.js_lexer.specs.Cursors.{is_end, is_mark, is_word}
use Rattle.js_lexer.specs.Scan.{scan}

abbrev pub stretch : List ℕ → Token → List ℕ
stretch s token = slice_range s token.start token.end

-- between the first and the last character
abbrev pub inside : List ℕ → Token → List ℕ
inside s token = slice_range s (token.start + 1) (token.end - 1)

abbrev pub is_name : TokenKind → Bool
is_name (t.Name _) = true
is_name _ = false

-- a name that is spelled so, without an escape
abbrev pub spelled : List ℕ → List ℕ → Token → Bool
spelled text s token = is_name token.kind && bytes_eq (stretch s token) text

abbrev pub is_function_here : Result Token LexFault → Bool
is_function_here (Ok token) = is_word token.kind w.Function && not token.broken_before
is_function_here (Err _) = false

-- `function`, or `async` with it on the same line
abbrev pub begins_function : List ℕ → Token → Bool
begins_function s token = is_word token.kind w.Function || (is_word token.kind w.Async && is_function_here (scan s token.end goal.Div))

abbrev pub begins_declaration : List ℕ → Token → Bool
begins_declaration s token = begins_function s token || is_word token.kind w.Class

abbrev pub goal_of : Lexeme → Goal
goal_of l.Regex = goal.RegExp
goal_of _ = goal.Div

abbrev pub one_text : List ℕ → Option (List Scalar)
one_text units = Some (scalar.Text units ∷ [])

-- a value of a literal, without flags
abbrev pub value_text : List ℕ → Option (List Scalar)
value_text units = Some (scalar.Text units ∷ scalar.Null ∷ [])

abbrev pub free_text : List ℕ → Option (List Scalar)
free_text units = if reserved (word_of units) then None else one_text units

abbrev pub string_text : Result (List ℕ) ℕ → Option (List Scalar)
string_text (Ok units) = value_text units
string_text (Err at) = None

-- behind the last `/` of a text that begins with one
abbrev pub flags_of : List ℕ → List ℕ
flags_of [] = []
flags_of (byte ∷ more) = if list_any (λ c. c == 0x2F) more then flags_of more else more

abbrev pub regex_texts : List ℕ → Option (List Scalar)
regex_texts text = Some (scalar.Text (code_units false (slice_range text 1 (length text - length (flags_of text) - 1))) ∷ scalar.Text (code_units false (flags_of text)) ∷ [])

abbrev pub texts_of : Lexeme → TokenKind → List ℕ → Token → Option (List Scalar)
texts_of l.FreeName (t.Name _) s token = free_text (name_units (stretch s token))
texts_of l.AnyName (t.Name _) s token = one_text (name_units (stretch s token))
texts_of l.PrivateName t.Private s token = one_text (name_units (slice_range s (token.start + 1) token.end))
texts_of l.Quoted t.Quoted s token = string_text (string_value (inside s token))
texts_of l.Number t.Number s token = value_text (code_units false (stretch s token))
texts_of l.BigInt t.BigInt s token = value_text (code_units false (stretch s token))
texts_of l.Regex t.Regex s token = regex_texts (stretch s token)
texts_of l.Directive t.Quoted s token = one_text (code_units false (inside s token))
texts_of _ _ s token = None

-- the scalars that the token gives, if it is one of these
abbrev pub texts : Lexeme → List ℕ → Token → Option (List Scalar)
texts lexeme s token = texts_of lexeme token.kind s token

abbrev pub is_some : Option (List Scalar) → Bool
is_some (Some found) = true
is_some None = false

-- a word that stands before the keys of fields, and not as the key of a static one
abbrev pub is_field_word : Standing → TokenKind → Bool
is_field_word standing.Static kind = is_word kind w.Get || is_word kind w.Set
is_field_word standing.Instance kind = is_word kind w.Get || is_word kind w.Set || is_word kind w.Static

-- the token passes the test
abbrev pub passes : Test → List ℕ → Token → Bool
passes (test.Punctuator mark) s token = is_mark token.kind mark
passes (test.NotPunctuator mark) s token = not (is_mark token.kind mark)
passes (test.Word word) s token = is_word token.kind word
passes (test.NotWord word) s token = not (is_word token.kind word)
passes (test.OneOf one two) s token = is_word token.kind one || is_word token.kind two
passes (test.Spelled name) s token = spelled (meta_spelling name) s token
passes (test.NotSpelled name) s token = not (spelled (meta_spelling name) s token)
passes test.FreeName s token = is_some (texts l.FreeName s token)
passes test.SameLine s token = not token.broken_before
passes test.GoesOn s token = not token.broken_before && not (closes token.kind) && not (is_mark token.kind m.Semicolon)
passes test.End s token = is_end token.kind
passes test.NoDeclaration s token = not (begins_declaration s token)
passes test.Expression s token = not (begins_declaration s token || is_mark token.kind m.OpenBrace)
passes test.Pattern s token = is_mark token.kind m.OpenBracket || is_mark token.kind m.OpenBrace
passes (test.FieldName standing) s token = not (is_field_word standing token.kind)
passes test.Never s token = false

-- the part of a template with which it begins or goes on, up to its end or up to a hole
abbrev pub is_part : Goal → Bool → TokenKind → Bool
is_part goal.Div true (t.Template part.Whole) = true
is_part goal.Div false (t.Template part.Head) = true
is_part goal.TemplateTail true (t.Template part.Tail) = true
is_part goal.TemplateTail false (t.Template part.Middle) = true
is_part _ _ _ = false

abbrev pub is_ok : Result (List ℕ) ℕ → Bool
is_ok (Ok _) = true
is_ok (Err _) = false

-- no escape of the characters is bad (clause 12.9.6)
abbrev pub cooks : List ℕ → Bool
cooks raw = is_ok (template_value raw)
