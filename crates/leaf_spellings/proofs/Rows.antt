-- The rows of leaves in the table of forms.
use Rattle.std.proofs.Common.{◌≡◌, false, [], ◌∷◌, refl}
use Rattle.asi_rules.specs.declared.rules.Ending.TheVariants as e
use Rattle.type_defs.specs.declared.kind.Kind.TheVariants as k
use Rattle.js_tokens.specs.declared.punctuator.Punctuator.TheVariants as m
use Rattle.js_tokens.specs.declared.word.Word.TheVariants as w
use Rattle.js_forms.specs.Table.{kind_of, spellings, primary_kinds, primary_spellings, operation_kinds, operation_spellings, statement_kinds, statement_spellings}
use Rattle.js_forms.specs.declared.form.Form.TheVariants as f
use Rattle.js_forms.specs.declared.form.Sort.{Sort}
use Rattle.js_forms.specs.declared.piece.Fixed.TheVariants as x
use Rattle.js_forms.specs.declared.piece.Lexeme.TheVariants as l
use Rattle.js_forms.specs.declared.piece.MetaWord.TheVariants as mw
use Rattle.js_forms.specs.declared.piece.Own.TheVariants as own
use Rattle.js_forms.specs.declared.piece.Piece.TheVariants as p
use Rattle.js_forms.specs.declared.piece.Spelling.TheVariants as v
use Rattle.js_forms.specs.declared.piece.Test.TheVariants as t

pub a_literal : (sort : Sort) → spellings (f.Literal sort) ≡ (v.Usual, p.Scalar x.LiteralKind ∷ p.Scalar x.WordValue ∷ p.Scalar x.WordFlags ∷ p.Own own.Literal ∷ []) ∷ []
unfolding primary_spellings
a_literal sort = refl

pub a_literal_kind : (sort : Sort) → kind_of (f.Literal sort) ≡ k.Literal
unfolding primary_kinds
a_literal_kind sort = refl

pub an_any_name : spellings f.AnyName ≡ (v.Usual, p.Text l.AnyName ∷ []) ∷ []
unfolding primary_spellings
an_any_name = refl

pub an_any_name_kind : kind_of f.AnyName ≡ k.Identifier
unfolding primary_kinds
an_any_name_kind = refl

pub a_private_name : spellings f.PrivateName ≡ (v.Usual, p.Text l.PrivateName ∷ []) ∷ []
unfolding primary_spellings
a_private_name = refl

pub a_private_name_kind : kind_of f.PrivateName ≡ k.PrivateIdentifier
unfolding primary_kinds
a_private_name_kind = refl

pub a_this : spellings f.This ≡ (v.Usual, p.Token (t.Word w.This) ∷ []) ∷ []
unfolding primary_spellings
a_this = refl

pub a_this_kind : kind_of f.This ≡ k.ThisExpression
unfolding primary_kinds
a_this_kind = refl

pub a_super : spellings f.Super ≡ (v.Usual, p.Token (t.Word w.Super) ∷ []) ∷ []
unfolding primary_spellings
a_super = refl

pub a_super_kind : kind_of f.Super ≡ k.Super
unfolding primary_kinds
a_super_kind = refl

pub an_empty : spellings f.Empty ≡ (v.Usual, p.Token (t.Punctuator m.Semicolon) ∷ []) ∷ []
unfolding statement_spellings
an_empty = refl

pub an_empty_kind : kind_of f.Empty ≡ k.EmptyStatement
unfolding statement_kinds
an_empty_kind = refl

pub a_debugger : spellings f.Debugger ≡ (v.Usual, p.Token (t.Word w.Debugger) ∷ p.End e.Statement false ∷ []) ∷ []
unfolding statement_spellings
a_debugger = refl

pub a_debugger_kind : kind_of f.Debugger ≡ k.DebuggerStatement
unfolding statement_kinds
a_debugger_kind = refl

pub a_directive : spellings f.Directive ≡ (v.Usual, p.Text l.Directive ∷ p.End e.Statement false ∷ []) ∷ []
unfolding statement_spellings
a_directive = refl

pub a_directive_kind : kind_of f.Directive ≡ k.Directive
unfolding statement_kinds
a_directive_kind = refl

pub a_new_target : spellings f.NewTarget ≡ (v.Usual, p.Scalar x.NewTarget ∷ p.Token (t.Word w.New) ∷ p.Token (t.Punctuator m.Dot) ∷ p.Token (t.Spelled mw.Target) ∷ []) ∷ []
unfolding operation_spellings
a_new_target = refl

pub a_new_target_kind : kind_of f.NewTarget ≡ k.MetaProperty
unfolding operation_kinds
a_new_target_kind = refl

pub an_import_meta : spellings f.ImportMeta ≡ (v.Usual, p.Scalar x.ImportMeta ∷ p.Token (t.Word w.Import) ∷ p.Token (t.Punctuator m.Dot) ∷ p.Token (t.Spelled mw.Meta) ∷ []) ∷ []
unfolding operation_spellings
an_import_meta = refl

pub an_import_meta_kind : kind_of f.ImportMeta ≡ k.MetaProperty
unfolding operation_kinds
an_import_meta_kind = refl
