-- Literals as leaves.
use Rattle.std.proofs.Common.{◌≡◌, ◌≤◌, ◌<◌, ◌+◌, ◌-◌, ℕ, zero, suc, List, [], ◌∷◌, ◌++◌, length, drop, get_or, Option, Some, None, Ok, true, false, refl, ap, sym, ◌∙◌, arith, length-drop}
use Rattle.std.specs.Prelude.{◌==◌, slice_range}
use Rattle.std.specs.List.{list_any}
use Rattle.std.proofs.lemmas.Bool.{eq-eqb, ne_eqb}
use Rattle.std.proofs.lemmas.Grind.{get_or_default_zero}
use Rattle.std.proofs.lemmas.List.Folds.{list_any_at, list_any_none}
use Rattle.tree_core.specs.declared.scalars.Scalar.{Scalar}
use Rattle.tree_core.specs.declared.scalars.Scalar.TheVariants as scalar
use Rattle.tree_core.specs.declared.span.Span.{Span}
use Rattle.js_tokens.specs.Texts.{code_units, string_value}
use Rattle.js_tokens.specs.declared.token.Goal.TheVariants.{RegExp}
use Rattle.js_tokens.specs.declared.token.Token.{Token}
use Rattle.js_tokens.specs.declared.token.TokenKind.{TokenKind}
use Rattle.js_tokens.specs.declared.token.TokenKind.TheVariants as t
use Rattle.js_tokens.specs.declared.word.Word.TheVariants as w
use Rattle.js_lexer.specs.Cursors.{is_word}
use Rattle.js_lexer.specs.Scan.{scan}
use Rattle.js_forms.specs.Contexts.{outermost}
use Rattle.js_forms.specs.Fixed.{sort_name, leading}
use Rattle.js_forms.specs.Own.{literal}
use Rattle.js_forms.specs.declared.form.Sort.{Sort}
use Rattle.js_forms.specs.declared.levels.TheConstants.{PRIMARY}
use Rattle.js_forms.specs.declared.piece.Fixed.TheVariants as x
use Rattle.js_forms.specs.declared.piece.Own.TheVariants as own
use Rattle.js_forms.specs.declared.piece.Test.TheVariants as test
use Rattle.spelling_rules.specs.Spells.{Anything, Fills, a_scalar, an_own}
use Rattle.js_forms.specs.declared.form.Form.TheVariants as f
use Rattle.js_forms.specs.declared.form.Sort.TheVariants as sort
use Rattle.spelling_rules.specs.Tokens.{texts, texts_of, string_text, flags_of, regex_texts}
use Rattle.js_forms.specs.declared.piece.Lexeme.TheVariants as l
use Rattle.js_forms.specs.declared.piece.Piece.TheVariants as p
use Rattle.js_forms.specs.declared.piece.Spelling.TheVariants as v
use Rattle.type_defs.specs.declared.kind.Kind.TheVariants as of_kind
use Rattle.leaf_spellings.specs.Begun.{Begins}
use Rattle.leaf_spellings.specs.Leaves.{Leaf}
use Rattle.leaf_spellings.proofs.OneToken.{leaf_of, text_fills, token_fills}
use Rattle.leaf_spellings.proofs.Rows as rows

-- the scalars that the form of a literal determines
abbrev scalars_of : Sort → List Scalar
scalars_of sort = leading (f.Literal sort) (p.Scalar x.LiteralKind ∷ p.Scalar x.WordValue ∷ p.Scalar x.WordFlags ∷ p.Own own.Literal ∷ [])

-- a value without flags
abbrev alone : List ℕ → List Scalar
alone units = scalar.Text units ∷ scalar.Null ∷ []

-- the piece of a literal of this sort fills the span
literal_of : (s : List ℕ) (span : Span) (first : Token) (sort : Sort) (found more : List Scalar) (most : ℕ) → Begins s span first → found ≡ scalars_of sort ++ more
    → Fills Anything s (f.Literal sort) outermost 0 (literal sort ∷ []) span.start span.end more [] None most → Leaf s span.start span.end of_kind.Literal found
literal_of s span first sort found more most begins is fills =
    leaf_of s span first (f.Literal sort) of_kind.Literal v.Usual (p.Scalar x.LiteralKind ∷ p.Scalar x.WordValue ∷ p.Scalar x.WordFlags ∷ p.Own own.Literal ∷ []) [] found more most (rows.a_literal sort) (rows.a_literal_kind sort) begins is
    (a_scalar (f.Literal sort) outermost 0 most span.start span.end _ more [] None x.LiteralKind (a_scalar (f.Literal sort) outermost 0 most span.start span.end _ more [] None x.WordValue
    (a_scalar (f.Literal sort) outermost 0 most span.start span.end _ more [] None x.WordFlags (an_own (f.Literal sort) outermost 0 most span.start span.end [] more [] None own.Literal fills))))

string-text : (s : List ℕ) (first : Token) (units : List ℕ) → first.kind ≡ t.Quoted → string_value (slice_range s (first.start + 1) (first.end - 1)) ≡ Ok units → texts l.Quoted s first ≡ Some (alone units)
string-text s first units kind is = ap (λ (k : TokenKind). texts_of l.Quoted k s first) kind ∙ ap string_text is

pub a_string : (s : List ℕ) (span : Span) (first : Token) (found : List Scalar) (units : List ℕ) → Begins s span first → first.end ≡ span.end → first.kind ≡ t.Quoted
    → found ≡ scalar.Text (sort_name sort.Quoted) ∷ scalar.Text units ∷ scalar.Null ∷ [] → string_value (slice_range s (first.start + 1) (first.end - 1)) ≡ Ok units
    → Leaf s span.start span.end of_kind.Literal found
a_string s span first found units begins ends kind has is =
    literal_of s span first sort.Quoted found (alone units) PRIMARY begins has
    (text_fills s (f.Literal sort.Quoted) span.start span.end first l.Quoted (alone units) begins.found (string-text s first units kind is) ends)

number-text : (s : List ℕ) (first : Token) (units : List ℕ) → first.kind ≡ t.Number → units ≡ code_units false (slice_range s first.start first.end) → texts l.Number s first ≡ Some (alone units)
number-text s first units kind is =
    ap (λ (k : TokenKind). texts_of l.Number k s first) kind ∙ ap (λ (value : List ℕ). Some (alone value)) (sym is)

pub a_number : (s : List ℕ) (span : Span) (first : Token) (found : List Scalar) (units : List ℕ) → Begins s span first → first.end ≡ span.end → first.kind ≡ t.Number
    → found ≡ scalar.Text (sort_name sort.Number) ∷ scalar.Text units ∷ scalar.Null ∷ [] → units ≡ code_units false (slice_range s first.start first.end)
    → Leaf s span.start span.end of_kind.Literal found
a_number s span first found units begins ends kind has is =
    literal_of s span first sort.Number found (alone units) PRIMARY begins has
    (text_fills s (f.Literal sort.Number) span.start span.end first l.Number (alone units) begins.found (number-text s first units kind is) ends)

big-int-text : (s : List ℕ) (first : Token) (units : List ℕ) → first.kind ≡ t.BigInt → units ≡ code_units false (slice_range s first.start first.end) → texts l.BigInt s first ≡ Some (alone units)
big-int-text s first units kind is =
    ap (λ (k : TokenKind). texts_of l.BigInt k s first) kind ∙ ap (λ (value : List ℕ). Some (alone value)) (sym is)

pub a_big_int : (s : List ℕ) (span : Span) (first : Token) (found : List Scalar) (units : List ℕ) → Begins s span first → first.end ≡ span.end → first.kind ≡ t.BigInt
    → found ≡ scalar.Text (sort_name sort.BigInt) ∷ scalar.Text units ∷ scalar.Null ∷ [] → units ≡ code_units false (slice_range s first.start first.end)
    → Leaf s span.start span.end of_kind.Literal found
a_big_int s span first found units begins ends kind has is =
    literal_of s span first sort.BigInt found (alone units) PRIMARY begins has
    (text_fills s (f.Literal sort.BigInt) span.start span.end first l.BigInt (alone units) begins.found (big-int-text s first units kind is) ends)

pub a_null : (s : List ℕ) (span : Span) (first : Token) (found : List Scalar) → Begins s span first → first.end ≡ span.end → is_word first.kind w.Null ≡ true
    → found ≡ scalar.Text (sort_name sort.Null) ∷ scalar.Null ∷ scalar.Null ∷ [] → Leaf s span.start span.end of_kind.Literal found
a_null s span first found begins ends is has =
    literal_of s span first sort.Null found [] 0 begins has
    (token_fills s (f.Literal sort.Null) span.start span.end first (test.Word w.Null) begins.found is ends)

pub a_true : (s : List ℕ) (span : Span) (first : Token) (found : List Scalar) → Begins s span first → first.end ≡ span.end → is_word first.kind w.True ≡ true
    → found ≡ scalar.Text (sort_name sort.True) ∷ scalar.Truth true ∷ scalar.Null ∷ [] → Leaf s span.start span.end of_kind.Literal found
a_true s span first found begins ends is has =
    literal_of s span first sort.True found [] 0 begins has
    (token_fills s (f.Literal sort.True) span.start span.end first (test.Word w.True) begins.found is ends)

pub a_false : (s : List ℕ) (span : Span) (first : Token) (found : List Scalar) → Begins s span first → first.end ≡ span.end → is_word first.kind w.False ≡ true
    → found ≡ scalar.Text (sort_name sort.False) ∷ scalar.Truth false ∷ scalar.Null ∷ [] → Leaf s span.start span.end of_kind.Literal found
a_false s span first found begins ends is has =
    literal_of s span first sort.False found [] 0 begins has
    (token_fills s (f.Literal sort.False) span.start span.end first (test.Word w.False) begins.found is ends)

abbrev NoSlash : ℕ → List ℕ → Type 0
NoSlash at bytes = (k : ℕ) → at ≤ k → k < length bytes → get_or bytes k 0 ≡ 0x2F → ⊥

flags-behind : (bytes : List ℕ) (at : ℕ) → at < length bytes → get_or bytes at 0 ≡ 0x2F → NoSlash (suc at) bytes → flags_of bytes ≡ drop (suc at) bytes
flags-behind [] at inside slash last = absurd (omega arith)
flags-behind (byte ∷ more) zero inside slash last =
    let none : list_any (λ c. c == 0x2F) more ≡ false =
    list_any_none (λ c. c == 0x2F) more (λ k d within. ne_eqb (get_or more k d) 0x2F (λ e. last (suc k) (omega arith) (omega arith) (sym (get_or_default_zero more k d within) ∙ e))) in
    rw none refl
flags-behind (byte ∷ more) (suc at) inside slash last =
    let some : list_any (λ c. c == 0x2F) more ≡ true = list_any_at (λ c. c == 0x2F) more at 0 (omega arith) (eq-eqb (get_or more at 0) 0x2F slash) in
    rw some (flags-behind more at (omega arith) slash (λ k behind within. last (suc k) (omega arith) (omega arith)))

flags-from : (bytes : List ℕ) (at : ℕ) → 0 < at → at ≤ length bytes → get_or bytes (at - 1) 0 ≡ 0x2F → NoSlash at bytes → flags_of bytes ≡ drop at bytes
flags-from bytes zero some inside slash last = absurd (omega arith)
flags-from bytes (suc at) some inside slash last =
    let back : suc at - 1 ≡ at = omega arith in
    flags-behind bytes at (omega arith) (rw back at slash) last

-- a pattern and flags
abbrev two : List ℕ → List ℕ → Option (List Scalar)
two pattern flags = Some (scalar.Text pattern ∷ scalar.Text flags ∷ [])

pub a_pattern : (bytes : List ℕ) (at : ℕ) (pattern flags : List ℕ) → 0 < at → at ≤ length bytes → get_or bytes (at - 1) 0 ≡ 0x2F → NoSlash at bytes
    → pattern ≡ code_units false (slice_range bytes 1 (at - 1)) → flags ≡ code_units false (drop at bytes) → regex_texts bytes ≡ Some (scalar.Text pattern ∷ scalar.Text flags ∷ [])
a_pattern bytes at pattern flags some inside slash last front rest =
    let begun : flags_of bytes ≡ drop at bytes = flags-from bytes at some inside slash last in
    let cut : length bytes - length (drop at bytes) - 1 ≡ at - 1 = omega (arith, length-drop at bytes) in
    ap (λ (end : List ℕ). two (code_units false (slice_range bytes 1 (length bytes - length end - 1))) (code_units false end)) begun
    ∙ ap (λ (end : ℕ). two (code_units false (slice_range bytes 1 end)) (code_units false (drop at bytes))) cut
    ∙ ap (λ (units : List ℕ). two units (code_units false (drop at bytes))) (sym front)
    ∙ ap (λ (units : List ℕ). two pattern units) (sym rest)

pub a_regex : (s : List ℕ) (span : Span) (first again : Token) (found : List Scalar) (pattern flags : List ℕ) → Begins s span first → scan s span.start RegExp ≡ Ok again → again.end ≡ span.end
    → again.kind ≡ t.Regex → found ≡ scalar.Text (sort_name sort.Regex) ∷ scalar.Text pattern ∷ scalar.Text flags ∷ []
    → regex_texts (slice_range s again.start again.end) ≡ Some (scalar.Text pattern ∷ scalar.Text flags ∷ []) → Leaf s span.start span.end of_kind.Literal found
a_regex s span first again found pattern flags begins scanned ends kind has is =
    literal_of s span first sort.Regex found (scalar.Text pattern ∷ scalar.Text flags ∷ []) PRIMARY begins has
    (text_fills s (f.Literal sort.Regex) span.start span.end again l.Regex (scalar.Text pattern ∷ scalar.Text flags ∷ []) scanned (ap (λ (k : TokenKind). texts_of l.Regex k s again) kind ∙ is) ends)
