-- Leaves that are one token.
use Rattle.std.proofs.Common.{◌≡◌, ℕ, true, List, [], ◌∷◌, ◌++◌, drop, length, None, Some, Result, Ok, Err, refl, ap, sym, ◌∙◌, subst, arith, append-nil}
use Rattle.std.specs.List.{Contains}
use Rattle.tree_core.specs.declared.scalars.Scalar.{Scalar}
use Rattle.tree_core.specs.declared.span.Span.{Span}
use Rattle.js_tokens.specs.declared.token.Goal.{Goal}
use Rattle.js_tokens.specs.declared.token.Goal.TheVariants.{Div}
use Rattle.js_tokens.specs.declared.token.Token.{Token}
use Rattle.js_lexer.specs.declared.element.Element.{Element}
use Rattle.js_lexer.specs.declared.fault.LexFault.{LexFault}
use Rattle.js_lexer.specs.declared.fault.LexFaultKind.{LexFaultKind}
use Rattle.js_lexer.specs.declared.scanning.Gap.{Gap}
use Rattle.js_lexer.specs.Elements.{longest}
use Rattle.js_lexer.specs.Scan.{gap_at, placed, token_at, scan}
use Rattle.type_defs.specs.declared.kind.Kind.{Kind}
use Rattle.js_forms.specs.Contexts.{outermost}
use Rattle.js_forms.specs.Fixed.{scalars, leading}
use Rattle.js_forms.specs.Table.{kind_of, spellings, first_of}
use Rattle.js_forms.specs.declared.form.Form.{Form}
use Rattle.js_forms.specs.declared.levels.TheConstants.{PRIMARY}
use Rattle.js_forms.specs.declared.piece.Lexeme.{Lexeme}
use Rattle.js_forms.specs.declared.piece.Piece.{Piece}
use Rattle.js_forms.specs.declared.piece.Piece.TheVariants as p
use Rattle.js_forms.specs.declared.piece.Spelling.{Spelling}
use Rattle.js_forms.specs.declared.piece.Test.{Test}
use Rattle.spelling_rules.specs.Tokens.{goal_of, texts, passes}
use Rattle.spelling_rules.specs.Spells.{Anything, Fills, no_pieces, a_token, a_text}
use Rattle.leaf_spellings.specs.Begun.{Begins}
use Rattle.leaf_spellings.specs.Leaves.{Leaf, formed}

abbrev start-of : Result Token LexFault → ℕ
start-of (Ok first) = first.start
start-of (Err fault) = fault.at

placed-start : (gap : Gap) (found : Result Element LexFaultKind) (first : Token) → placed gap found ≡ Ok first → gap.end ≡ first.start
placed-start gap (Ok found) first is = ap start-of is
placed-start gap (Err kind) first is = ap start-of is

gap-end : (s : List ℕ) (at : ℕ) (goal : Goal) (first : Token) → scan s at goal ≡ Ok first → (gap_at s at).end ≡ first.start
unfolding scan token_at
gap-end s at goal first found = placed-start (gap_at s at) (longest (drop (gap_at s at).end s) goal) first found

-- the pieces of the first spelling of a form fill the span
pub leaf_of : (s : List ℕ) (span : Span) (first : Token) (form : Form) (kind : Kind) (spelling : Spelling) (pieces : List Piece) (other : List (Spelling × List Piece)) (found more : List Scalar) (most : ℕ)
    → spellings form ≡ (spelling, pieces) ∷ other → kind_of form ≡ kind → Begins s span first → found ≡ leading form pieces ++ more
    → Fills Anything s form outermost 0 pieces span.start span.end more [] None most → Leaf s span.start span.end kind found
leaf_of s span first form kind spelling pieces other found more most spelled kinds begins is fills =
    let here : (gap_at s span.start).end ≡ span.start = gap-end s span.start _ first begins.found ∙ begins.at_start in
    let held : Contains ((spelling, pieces) ∷ other) (spelling, pieces) = (0, omega arith, refl) in
    let among : Contains (spellings form) (spelling, pieces) = subst (λ (all : List (Spelling × List Piece)). Contains all (spelling, pieces)) (sym spelled) held in
    let front : scalars form ≡ leading form pieces = ap (λ (all : List (Spelling × List Piece)). leading form (first_of all)) spelled in
    let whole : scalars form ++ more ≡ found = ap (λ (all : List Scalar). all ++ more) front ∙ sym is in
    subst (λ (one : Kind). Leaf s span.start span.end one found) kinds (subst (λ (all : List Scalar). Leaf s span.start span.end (kind_of form) all) whole
    (formed span.start span.end form spelling pieces more most begins.some here among fills))

pub none_left : (s : List ℕ) (form : Form) (most i j : ℕ) → i ≡ j → Fills Anything s form outermost most [] i j [] [] None most
none_left s form most i j ends = subst (λ (e : ℕ). Fills Anything s form outermost most [] i e [] [] None most) ends (no_pieces form outermost most i)

pub text_fills : (s : List ℕ) (form : Form) (i j : ℕ) (first : Token) (lexeme : Lexeme) (more : List Scalar) → scan s i (goal_of lexeme) ≡ Ok first → texts lexeme s first ≡ Some more
    → first.end ≡ j → Fills Anything s form outermost 0 (p.Text lexeme ∷ []) i j more [] None PRIMARY
text_fills s form i j first lexeme more found is ends =
    subst (λ (all : List Scalar). Fills Anything s form outermost 0 (p.Text lexeme ∷ []) i j all [] None PRIMARY) (append-nil more)
    (a_text form outermost 0 PRIMARY i j [] [] [] None lexeme first more found is (none_left s form PRIMARY first.end j ends))

pub token_fills : (s : List ℕ) (form : Form) (i j : ℕ) (found : Token) (test : Test) → scan s i Div ≡ Ok found → passes test s found ≡ true → found.end ≡ j
    → Fills Anything s form outermost 0 (p.Token test ∷ []) i j [] [] None 0
token_fills s form i j found test scanned passed ends = a_token form outermost 0 0 i j [] [] [] None test found scanned passed (none_left s form 0 found.end j ends)

pub nothing_held : (found : List Scalar) → length found ≡ 0 → found ≡ []
nothing_held [] none = refl
nothing_held (first ∷ more) none = absurd (omega arith)
