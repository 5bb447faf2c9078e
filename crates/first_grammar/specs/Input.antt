-- What a reader reads from, and the steps of which each rule is made.
use Rattle.std.specs.Prelude.{◌≡◌, ◌≢◌, ℕ, ◌+◌, ◌-◌, Bool, if◌then◌else◌, nat_lt, List, [], ◌∷◌, ◌++◌, length, slice_index, slice_range, Result, Ok, Err}
use Rattle.tree_core.specs.declared.span.Span.{Span}
use Rattle.first_grammar.specs.declared.table.Kind.{Kind}
use Rattle.first_grammar.specs.declared.table.Word.{Word}
use Rattle.first_grammar.specs.declared.table.Word.TheVariants as w
use Rattle.first_grammar.specs.declared.cursor.Token.{Token}
use Rattle.first_grammar.specs.declared.error.ReadError.{ReadError}
use Rattle.first_grammar.specs.declared.error.ReadError.TheVariants.{NoMemory, Unexpected, Nesting}
use Rattle.first_grammar.specs.Table.{same_word, is_whole}
use Rattle.first_grammar.specs.Words.{is_start, is_reserved, is_name_word, mark_of, blanks_end, name_end}

-- a text, where the last token ended, and the stretches of the nodes that are read
pub record Input : Type 0 where
  pub text : List ℕ
  pub at : ℕ
  pub spans : List Span

abbrev pub name_token : List ℕ → ℕ → ℕ → Token
name_token s i e = record { word = if is_reserved (slice_range s i e) then w.Reserved else w.Name; start = i; end = e }

abbrev pub begun_token : List ℕ → ℕ → ℕ → Token
begun_token s i c = if is_start c then name_token s i (name_end s (i + 1)) else record { word = mark_of c; start = i; end = i + 1 }

-- the token that stands at i
abbrev pub token_at : List ℕ → ℕ → Token
token_at s i = if nat_lt i (length s) then begun_token s i (slice_index s i) else record { word = w.End; start = i; end = i }

-- the next token after the blanks from i on
unfoldable pub scan : List ℕ → ℕ → Token
scan s i = token_at s (blanks_end s i)

abbrev pub token : Input → Token
token i = scan i.text i.at

abbrev pub word : Input → Word
word i = (token i).word

-- where the next token begins
abbrev pub opening : Input → ℕ
opening i = (token i).start

-- past the next token
abbrev pub next : Input → Input
next i = record { text = i.text; at = (token i).end; spans = i.spans }

-- where a node of the kind that comes next begins: with its first token, or a whole text where it is
abbrev pub start_of : Kind → ℕ → ℕ → ℕ
start_of kind at opening = if is_whole kind then at else opening

abbrev pub moved : ℕ → Input → Input
moved at i = record { text = i.text; at = at; spans = i.spans }

-- past the blanks before a node of the kind
abbrev pub settled : Kind → Input → Input
settled kind i = moved (start_of kind i.at (opening i)) i

-- at least as many as there are tokens left
abbrev pub turns : Input → ℕ
turns i = length i.text - i.at

abbrev pub Outcome : Type 0 → Type 0
Outcome A = Result (A × Input) ReadError

abbrev pub Reader : Type 0 → Type 0
Reader A = Input → Outcome A

abbrev pub and_then : {A B : Type 0} → Outcome A → (A → Reader B) → Outcome B
and_then (Ok r) f = f r.0 r.1
and_then (Err e) f = Err e

infixl 10 ◌>>=◌
abbrev pub ◌>>=◌ : {A B : Type 0} → Reader A → (A → Reader B) → Reader B
r >>= f = λ i. and_then (r i) f

infixl 10 ◌>>◌
abbrev pub ◌>>◌ : {A B : Type 0} → Reader A → Reader B → Reader B
r >> q = r >>= (λ _. q)

abbrev pub pure : {A : Type 0} → A → Reader A
pure a = λ i. Ok (a, i)

abbrev pub refusal : Input → ReadError
refusal i = Unexpected (opening i)

abbrev pub refuse : {A : Type 0} → Reader A
refuse = λ i. Err (refusal i)

abbrev pub too_deep : {A : Type 0} → Reader A
too_deep = λ i. Err (Nesting (opening i))

abbrev pub advance : Reader (Unit {0})
advance = λ i. Ok (tt, next i)

abbrev pub sees : Word → Input → Bool
sees k i = same_word (word i) k

abbrev pub after : Word → Input → Input
after k i = if sees k i then next i else i

-- passes the token where it comes next, and says whether it did
abbrev pub eat : Word → Reader Bool
eat k = λ i. Ok (sees k i, after k i)

unfoldable pub expect : Word → Reader (Unit {0})
expect k i = if sees k i then Ok (tt, next i) else Err (refusal i)

abbrev pub named_if : Bool → Reader (List ℕ)
named_if fits i = if fits then Ok (slice_range i.text (opening i) (token i).end, next i) else Err (refusal i)

-- a name's text
unfoldable pub name : Reader (List ℕ)
name i = named_if (sees w.Name i) i

-- any name's text
unfoldable pub any_name : Reader (List ℕ)
any_name i = named_if (is_name_word (word i)) i

-- the next number, for a node that begins at start and ends here
unfoldable pub numbered : ℕ → Reader ℕ
numbered start i = Ok (length i.spans, record { text = i.text; at = i.at; spans = i.spans ++ record { start = start; end = i.at } ∷ [] })

-- what a function that reads ensures: the outcome is the reader's, unless memory runs out
abbrev pub Gives : {A B : Type 0} → (A → B) → Outcome B → Result A ReadError → Input → Type 0
Gives view outcome (Ok a) new = outcome ≡ Ok (view a, new)
Gives view outcome (Err e) new = e ≢ NoMemory → outcome ≡ Err e

abbrev pub same : {A : Type 0} → A → A
same a = a

-- at the start of a text
abbrev pub begin : List ℕ → Input
begin s = record { text = s; at = 0; spans = [] }
