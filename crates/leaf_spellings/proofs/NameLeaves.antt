-- Names as leaves.
use Rattle.std.proofs.Common.{◌≡◌, ◌+◌, ℕ, List, [], ◌∷◌, Some, ap, sym, ◌∙◌}
use Rattle.std.specs.Prelude.{slice_range}
use Rattle.tree_core.specs.declared.scalars.Scalar.{Scalar}
use Rattle.tree_core.specs.declared.scalars.Scalar.TheVariants as scalar
use Rattle.tree_core.specs.declared.span.Span.{Span}
use Rattle.js_tokens.specs.Texts.{name_units}
use Rattle.js_tokens.specs.declared.token.Token.{Token}
use Rattle.js_tokens.specs.declared.token.TokenKind.{TokenKind}
use Rattle.js_tokens.specs.declared.token.TokenKind.TheVariants as t
use Rattle.js_tokens.specs.declared.word.Word.{Word}
use Rattle.js_forms.specs.declared.form.Form.TheVariants as f
use Rattle.spelling_rules.specs.Tokens.{texts, texts_of}
use Rattle.js_forms.specs.declared.piece.Lexeme.TheVariants as l
use Rattle.js_forms.specs.declared.piece.Piece.TheVariants as p
use Rattle.js_forms.specs.declared.piece.Spelling.TheVariants as v
use Rattle.type_defs.specs.declared.kind.Kind.TheVariants as of_kind
use Rattle.leaf_spellings.specs.Begun.{Begins}
use Rattle.leaf_spellings.specs.Leaves.{Leaf}
use Rattle.js_forms.specs.declared.levels.TheConstants.{PRIMARY}
use Rattle.leaf_spellings.proofs.OneToken.{leaf_of, text_fills}
use Rattle.leaf_spellings.proofs.Rows as rows

abbrev one : List ℕ → List Scalar
one units = scalar.Text units ∷ []

name-text : (s : List ℕ) (token : Token) (word : Word) (units : List ℕ) → token.kind ≡ t.Name word → units ≡ name_units (slice_range s token.start token.end) → texts l.AnyName s token ≡ Some (one units)
name-text s token word units kind is =
    ap (λ (k : TokenKind). texts_of l.AnyName k s token) kind ∙ ap (λ (found : List ℕ). Some (one found)) (sym is)

pub a_name : (s : List ℕ) (span : Span) (token : Token) (word : Word) (found : List Scalar) (units : List ℕ) → Begins s span token → token.end ≡ span.end → token.kind ≡ t.Name word
    → found ≡ one units → units ≡ name_units (slice_range s token.start token.end) → Leaf s span.start span.end of_kind.Identifier found
a_name s span token word found units begins ends kind has is =
    leaf_of s span token f.AnyName of_kind.Identifier v.Usual (p.Text l.AnyName ∷ []) [] found (one units) PRIMARY rows.an_any_name rows.an_any_name_kind begins has
    (text_fills s f.AnyName span.start span.end token l.AnyName (one units) begins.found (name-text s token word units kind is) ends)

private-text : (s : List ℕ) (token : Token) (units : List ℕ) → token.kind ≡ t.Private → units ≡ name_units (slice_range s (token.start + 1) token.end) → texts l.PrivateName s token ≡ Some (one units)
private-text s token units kind is =
    ap (λ (k : TokenKind). texts_of l.PrivateName k s token) kind ∙ ap (λ (found : List ℕ). Some (one found)) (sym is)

pub a_private_name : (s : List ℕ) (span : Span) (token : Token) (found : List Scalar) (units : List ℕ) → Begins s span token → token.end ≡ span.end → token.kind ≡ t.Private
    → found ≡ one units → units ≡ name_units (slice_range s (token.start + 1) token.end) → Leaf s span.start span.end of_kind.PrivateIdentifier found
a_private_name s span token found units begins ends kind has is =
    leaf_of s span token f.PrivateName of_kind.PrivateIdentifier v.Usual (p.Text l.PrivateName ∷ []) [] found (one units) PRIMARY rows.a_private_name rows.a_private_name_kind begins has
    (text_fills s f.PrivateName span.start span.end token l.PrivateName (one units) begins.found (private-text s token units kind is) ends)
