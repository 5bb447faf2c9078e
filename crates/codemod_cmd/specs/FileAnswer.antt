-- What a run says of a file with these bytes, by what the script does to it.
use Rattle.std.specs.Prelude.{◌≡◌, ◌≢◌, ◌<◌, ◌≤◌, ◌⊎◌, ℕ, List, length, false, None, Some}
use Rattle.std.specs.Str.{IsUtf8, is_utf8}
use Rattle.std.specs.Str.Lossy.{utf8_valid_len}
use Rattle.tree_core.specs.Syntax.{Syntax as Tree}
use Rattle.tree_core.specs.Height.{height}
use Rattle.tree_core.specs.View.{syntax}
use Rattle.tree_core.specs.declared.span.Span.{Span}
use Rattle.tree_core.specs.declared.span.Parsed.{Parsed}
use Rattle.cm_text.specs.declared.source.TheConstants.{MAX_LENGTH}
use Rattle.first_grammar.specs.Spells.{At, Whole, Reads}
use Rattle.first_grammar.specs.Reading.{max_nesting}
use Rattle.first_grammar.specs.Parse.{Refused}
use Rattle.first_grammar.specs.declared.error.ReadError.TheVariants.{Nesting as TooDeep}
use Rattle.tree_core.specs.Numbers.{numbered}
use Rattle.first_rename.specs.Names.{renamed, count_of}
use Rattle.first_rename.specs.Edits.{Keeps}
use Rattle.js_lexer.specs.declared.fault.SyntaxKind.{SyntaxKind}
use Rattle.js_lexer.specs.declared.fault.SyntaxKind.TheVariants.{Unexpected, Nesting, Lex}
use Rattle.js_tokens.specs.Words.{word_of}
use Rattle.source_rename.specs.Edits.{patched}
use Rattle.source_rename.specs.Whole.{all_edits}
use Rattle.source_rename.specs.Methods.{bad_method}
use Rattle.text_guard.specs.Readings.{IsParsed}
use Rattle.tree_check.specs.declared.rule.Rule.TheVariants.{Method}
use Rattle.script_values.specs.declared.fault.Fault.TheVariants.{ListLong}
use Rattle.run_report.specs.declared.answer.RowError.{RowError}
use Rattle.run_report.specs.declared.answer.RowError.TheVariants.{TooLong, NotUtf8, Syntax, Script, BadNode}
use Rattle.codemod_cmd.specs.Script.{Change, prints, renames}
use Rattle.run_report.specs.declared.answer.RowAnswer.{RowAnswer}
use Rattle.run_report.specs.declared.answer.RowAnswer.TheVariants.{Ok, Unmodified, Skipped, Error}

-- the bytes can be a source
pub record IsSource (s : List ℕ) : Type 0 where
  pub short : length s ≤ MAX_LENGTH
  pub utf8 : IsUtf8 s

-- the tree of a source, its nodes numbered in preorder, with their stretches by number
pub record IsTreeOf (s : List ℕ) (spans : List Span) (t : Tree) : Type 0 where
  pub spelled : Whole (At spans) s t
  pub preorder : t ≡ numbered 0 t
  pub nesting : height t ≤ max_nesting

-- the most items of a list in a script
abbrev pub max_items : ℕ
max_items = 1000000

-- the text reads as the renamed tree of the source, and keeps the bytes of each node that stays
pub record Renames (old new s out : List ℕ) : Type 0 where
  pub tree : Tree
  pub spans : List Span
  pub tree_of : IsTreeOf s spans tree
  pub few : count_of old tree ≤ max_items
  pub reads : Reads out (renamed old new tree)
  pub keeps : Whole (Keeps s spans out) out (renamed old new tree)

-- no tree of the first grammar reads from the source
abbrev pub IsOther : List ℕ → Type 0
IsOther s = (t : Tree) → Reads s t → ⊥

-- the source has a tree, of the first grammar or of the whole language
abbrev pub HasTree : List ℕ → Type 0
HasTree s = ((spans : List Span) × (t : Tree) × IsTreeOf s spans t) ⊎ (IsOther s × ((p : Parsed) × IsParsed s p))

-- the text is the source with `new` in the place of each identifier named `old`, in parentheses or before a `;` where it would be read as something else. No method begins or ceases to be a constructor
pub record Rewrites (old new s : List ℕ) (p : Parsed) (out : List ℕ) : Type 0 where
  pub few : count_of old (syntax p.tree) ≤ max_items
  pub methods : bad_method old new (syntax p.tree) ≡ None
  pub text : out ≡ patched s new 0 (all_edits s p.spans old (word_of new) (syntax p.tree))

-- the text that is made of the source
abbrev pub Makes : Change → List ℕ → List ℕ → Type 0
Makes prints s out = HasTree s × (out ≡ s)
Makes (renames old new) s out = Renames old new s out ⊎ (IsOther s × ((p : Parsed) × IsParsed s p × Rewrites old new s p out))

-- the bytes are UTF-8 up to this offset and no further
pub record FirstBad (s : List ℕ) (at : ℕ) : Type 0 where
  pub short : length s ≤ MAX_LENGTH
  pub bad : is_utf8 s ≡ false
  pub first : at ≡ utf8_valid_len s

-- the source has no tree within the limit on nesting: the offset is the one of the first grammar's reader, or stands in the source
abbrev pub HasNoTree : List ℕ → ℕ → SyntaxKind → Type 0
HasNoTree s at Nesting = ((t : Tree) → Reads s t → max_nesting < height t) × (Refused s (TooDeep at) ⊎ (IsOther s × (at ≤ length s)))
HasNoTree s at Unexpected = IsOther s × (at ≤ length s)
HasNoTree s at (Lex kind) = IsOther s × (at ≤ length s)

-- more identifiers have the name than a list in a script may have items
abbrev pub HasTooMany : List ℕ → List ℕ → Type 0
HasTooMany old s =
    ((spans : List Span) × (t : Tree) × IsTreeOf s spans t × (max_items < count_of old t)) ⊎ (IsOther s × ((p : Parsed) × IsParsed s p × (max_items < count_of old (syntax p.tree))))

-- no text can be made of the source by this renaming, for this reason
abbrev pub RenameFails : List ℕ → List ℕ → List ℕ → RowError → Type 0
RenameFails old new s (Script at ListLong) = HasTooMany old s × (at ≡ 32)
RenameFails old new s (BadNode address Method) = IsOther s × ((p : Parsed) × IsParsed s p × (bad_method old new (syntax p.tree) ≡ Some address))
RenameFails old new s _ = ⊥

abbrev pub Fails : Change → List ℕ → RowError → Type 0
Fails prints s error = ⊥
Fails (renames old new) s error = RenameFails old new s error

-- no text can be made of these bytes, for this reason
abbrev pub FileError : Change → List ℕ → RowError → Type 0
FileError change s TooLong = MAX_LENGTH < length s
FileError change s (NotUtf8 at) = FirstBad s at
FileError change s (Syntax at kind) = IsSource s × HasNoTree s at kind
FileError change s error = IsSource s × Fails change s error

-- the row of the bytes, and the text that the script makes of them
abbrev pub FileAnswer : Change → List ℕ → RowAnswer → List ℕ → Type 0
FileAnswer change s Ok out = IsSource s × Makes change s out × (out ≢ s)
FileAnswer change s Unmodified out = IsSource s × Makes change s out × (out ≡ s)
FileAnswer change s Skipped out = ⊥
FileAnswer change s (Error error) out = FileError change s error
