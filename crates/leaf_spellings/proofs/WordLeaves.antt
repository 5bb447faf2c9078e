-- Words as leaves.
use Rattle.std.proofs.Common.{◌≡◌, ℕ, List, [], ◌∷◌, length, None, Ok, true}
use Rattle.std.specs.Prelude.{codes}
use Rattle.tree_core.specs.declared.scalars.Scalar.{Scalar}
use Rattle.tree_core.specs.declared.scalars.Scalar.TheVariants as scalar
use Rattle.tree_core.specs.declared.span.Span.{Span}
use Rattle.js_tokens.specs.declared.punctuator.Punctuator.TheVariants as m
use Rattle.js_tokens.specs.declared.token.Goal.TheVariants.{Div}
use Rattle.js_tokens.specs.declared.token.Token.{Token}
use Rattle.js_tokens.specs.declared.word.Word.TheVariants as w
use Rattle.js_lexer.specs.Cursors.{is_mark, is_word}
use Rattle.js_lexer.specs.Scan.{scan}
use Rattle.js_forms.specs.Contexts.{outermost}
use Rattle.js_forms.specs.Table.{meta_spelling}
use Rattle.js_forms.specs.declared.form.Form.{Form}
use Rattle.js_forms.specs.declared.form.Form.TheVariants as f
use Rattle.js_forms.specs.declared.piece.Fixed.TheVariants as x
use Rattle.js_forms.specs.declared.piece.MetaWord.{MetaWord}
use Rattle.js_forms.specs.declared.piece.MetaWord.TheVariants as mw
use Rattle.js_forms.specs.declared.piece.Piece.TheVariants as p
use Rattle.js_forms.specs.declared.piece.Spelling.TheVariants as v
use Rattle.js_forms.specs.declared.piece.Test.TheVariants as t
use Rattle.spelling_rules.specs.Tokens.{spelled}
use Rattle.spelling_rules.specs.Spells.{Anything, Fills, a_scalar, a_token}
use Rattle.type_defs.specs.declared.kind.Kind.TheVariants as of_kind
use Rattle.leaf_spellings.specs.Begun.{Begins, dotted}
use Rattle.leaf_spellings.specs.Leaves.{Leaf}
use Rattle.leaf_spellings.proofs.OneToken.{leaf_of, token_fills, nothing_held}
use Rattle.leaf_spellings.proofs.Rows as rows

pub a_this : (s : List ℕ) (span : Span) (first : Token) (found : List Scalar) → Begins s span first → length found ≡ 0 → first.end ≡ span.end → is_word first.kind w.This ≡ true
    → Leaf s span.start span.end of_kind.ThisExpression found
a_this s span first found begins none ends is =
    leaf_of s span first f.This of_kind.ThisExpression v.Usual (p.Token (t.Word w.This) ∷ []) [] found [] 0 rows.a_this rows.a_this_kind begins (nothing_held found none)
    (token_fills s f.This span.start span.end first (t.Word w.This) begins.found is ends)

pub a_super : (s : List ℕ) (span : Span) (first : Token) (found : List Scalar) → Begins s span first → length found ≡ 0 → first.end ≡ span.end → is_word first.kind w.Super ≡ true
    → Leaf s span.start span.end of_kind.Super found
a_super s span first found begins none ends is =
    leaf_of s span first f.Super of_kind.Super v.Usual (p.Token (t.Word w.Super) ∷ []) [] found [] 0 rows.a_super rows.a_super_kind begins (nothing_held found none)
    (token_fills s f.Super span.start span.end first (t.Word w.Super) begins.found is ends)

pub dot_and_name : (s : List ℕ) (form : Form) (i j : ℕ) (dot name : Token) (word : MetaWord) (text : List ℕ) → scan s i Div ≡ Ok dot → is_mark dot.kind m.Dot ≡ true → scan s dot.end Div ≡ Ok name
    → spelled text s name ≡ true → text ≡ meta_spelling word → name.end ≡ j → Fills Anything s form outermost 0 (dotted word) i j [] [] None 0
dot_and_name s form i j dot name word text dot_found is name_found named which ends =
    let passed : spelled (meta_spelling word) s name ≡ true = rw which at named in
    a_token form outermost 0 0 i j (p.Token (t.Spelled word) ∷ []) [] [] None (t.Punctuator m.Dot) dot dot_found is
    (token_fills s form dot.end j name (t.Spelled word) name_found passed ends)

pub new_target : (s : List ℕ) (span : Span) (first : Token) (found : List Scalar) (text : List ℕ) → Begins s span first → is_word first.kind w.New ≡ true
    → found ≡ scalar.Text text ∷ [] → text ≡ codes "new.target" → Fills Anything s f.NewTarget outermost 0 (dotted mw.Target) first.end span.end [] [] None 0
    → Leaf s span.start span.end of_kind.MetaProperty found
new_target s span first found text begins is has names rest =
    let held : found ≡ scalar.Text (codes "new.target") ∷ [] = rw names at has in
    leaf_of s span first f.NewTarget of_kind.MetaProperty v.Usual (p.Scalar x.NewTarget ∷ p.Token (t.Word w.New) ∷ dotted mw.Target) [] found [] 0 rows.a_new_target rows.a_new_target_kind begins held
    (a_scalar f.NewTarget outermost 0 0 span.start span.end (p.Token (t.Word w.New) ∷ dotted mw.Target) [] [] None x.NewTarget
    (a_token f.NewTarget outermost 0 0 span.start span.end (dotted mw.Target) [] [] None (t.Word w.New) first begins.found is rest))

pub import_meta : (s : List ℕ) (span : Span) (first : Token) (found : List Scalar) (text : List ℕ) → Begins s span first → is_word first.kind w.Import ≡ true
    → found ≡ scalar.Text text ∷ [] → text ≡ codes "import.meta" → Fills Anything s f.ImportMeta outermost 0 (dotted mw.Meta) first.end span.end [] [] None 0
    → Leaf s span.start span.end of_kind.MetaProperty found
import_meta s span first found text begins is has names rest =
    let held : found ≡ scalar.Text (codes "import.meta") ∷ [] = rw names at has in
    leaf_of s span first f.ImportMeta of_kind.MetaProperty v.Usual (p.Scalar x.ImportMeta ∷ p.Token (t.Word w.Import) ∷ dotted mw.Meta) [] found [] 0 rows.an_import_meta rows.an_import_meta_kind begins held
    (a_scalar f.ImportMeta outermost 0 0 span.start span.end (p.Token (t.Word w.Import) ∷ dotted mw.Meta) [] [] None x.ImportMeta
    (a_token f.ImportMeta outermost 0 0 span.start span.end (dotted mw.Meta) [] [] None (t.Word w.Import) first begins.found is rest))
