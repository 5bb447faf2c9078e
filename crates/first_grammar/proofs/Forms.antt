-- The facts of the table by which the reader finds each spelled tree.
use Rattle.std.proofs.Common.{◌≡◌, ◌≤◌, ◌<◌, ℕ, Bool, true, false, ◌⊎◌, inl, inr, List, [], ◌∷◌, Some, None, refl, sym, ◌∙◌, ap, subst, arith}
use Rattle.first_grammar.specs.declared.table.Kind.{Kind}
use Rattle.first_grammar.specs.declared.table.Kind.TheVariants as k
use Rattle.first_grammar.specs.declared.table.Word.{Word}
use Rattle.first_grammar.specs.declared.table.Word.TheVariants as w
use Rattle.first_grammar.specs.declared.table.Category.{Category}
use Rattle.first_grammar.specs.declared.table.Category.TheVariants as c
use Rattle.first_grammar.specs.declared.table.Part.{Part}
use Rattle.first_grammar.specs.declared.table.Part.TheVariants as p
use Rattle.first_grammar.specs.Table.{same_word, level, belongs, is_whole, left, infix_word, tail, led, form, led_by, begun_by}
use Rattle.first_grammar.specs.Words.{is_name_word}
use Rattle.first_grammar.proofs.Tokens.{is_end}

-- Targets have no rule of their own: the reader takes an expression, and the form that goes on from it asks for a target.
abbrev pub read_in : Category → Category
read_in c.Target = c.Expression
read_in c.Program = c.Program
read_in c.Statement = c.Statement
read_in c.Expression = c.Expression
read_in c.Property = c.Property

abbrev pub is_program : Category → Bool
is_program c.Program = true
is_program _ = false

abbrev is_name : Word → Bool
is_name w.Name = true
is_name _ = false

-- a tree of the category may begin with the token
abbrev pub may_open : Category → Word → Bool
may_open c.Program word = true
may_open c.Property word = is_name_word word
may_open _ word = is_name word

-- the next token leads no form that goes on from a tree of this category and level
abbrev pub Halts : Category → ℕ → Word → Type 0
Halts c l word = (kind : Kind) → led_by word ≡ Some kind → belongs kind c ≡ true → level kind < l

-- or the form that it leads takes the tree as its first child
abbrev pub Yields : Category → ℕ → Word → Type 0
Yields c l word = (kind : Kind) → led_by word ≡ Some kind → belongs kind c ≡ true → (level kind < l) ⊎ ((left kind).1 ≤ l)

-- what is asked of a place: that it is read as itself, and takes no whole text
abbrev pub Inner : Category → Type 0
Inner c = (read_in c ≡ c) × (is_program c ≡ false)

-- which token may come after a part
abbrev pub MayFollow : Part → Word → Type 0
MayFollow (p.Child c l) word = Inner c × Halts c l word
MayFollow (p.List c l close) word = Inner c × Halts c l word × (word ≡ close) × (same_word close w.Comma ≡ false) × (may_open c close ≡ false)
MayFollow (p.Body c close) word = Inner c × ((other : Word) → Halts c 1 other) × (word ≡ close) × (may_open c close ≡ false)
MayFollow _ word = Unit {0}

abbrev pub OpensWith : Part → Word → Type 0
OpensWith (p.Token that) word = word ≡ that
OpensWith _ word = Unit {0}

-- which token may come after all of the parts
abbrev pub MayEnd : List Part → Word → Type 0
MayEnd [] word = Unit {0}
MayEnd (q ∷ []) word = MayFollow q word
MayEnd (q ∷ r ∷ qs) word = ((other : Word) → OpensWith r other → MayFollow q other) × MayEnd (r ∷ qs) word

-- the first token of parts
abbrev pub FirstToken : List Part → Word → Type 0
FirstToken (p.Token that ∷ qs) word = word ≡ that
FirstToken (p.Name ∷ qs) word = word ≡ w.Name
FirstToken (p.AnyName ∷ qs) word = is_name_word word ≡ true
FirstToken (p.Child c l ∷ qs) word = is_program c ≡ false → may_open c word ≡ true
FirstToken _ word = Unit {0}

-- the parts are more than nothing
abbrev pub moves : List Part → Bool
moves (p.Name ∷ qs) = true
moves (p.AnyName ∷ qs) = true
moves (p.Child c.Program l ∷ qs) = false
moves (p.Child c l ∷ qs) = true
moves _ = false

pub form_moves : (kind : Kind) → is_whole kind ≡ false → moves (form kind) ≡ true
form_moves k.Program e = absurd cc
form_moves k.Identifier e = refl
form_moves k.PropertyName e = refl
form_moves k.Member e = refl
form_moves k.Call e = refl
form_moves k.Assignment e = refl
form_moves k.ExpressionStatement e = refl

pub led_parts : (kind : Kind) (word : Word) → infix_word kind ≡ Some word → form kind ≡ p.Child (left kind).0 (left kind).1 ∷ p.Token word ∷ tail kind
led_parts kind word e = ap (λ o. led (left kind) o (tail kind)) e

pub plain_parts : (kind : Kind) → infix_word kind ≡ None → form kind ≡ tail kind
plain_parts kind e = ap (λ o. led (left kind) o (tail kind)) e

pub inner_kind : (kind : Kind) (d : Category) → belongs kind d ≡ true → is_program d ≡ false → is_whole kind ≡ false
inner_kind k.Program c.Program b e = absurd cc
inner_kind k.Program _ b e = absurd cc
inner_kind k.Identifier d b e = refl
inner_kind k.PropertyName d b e = refl
inner_kind k.Member d b e = refl
inner_kind k.Call d b e = refl
inner_kind k.Assignment d b e = refl
inner_kind k.ExpressionStatement d b e = refl

pub left_inner : (kind : Kind) → is_program (left kind).0 ≡ false
left_inner k.Assignment = refl
left_inner _ = refl

pub left_high : (kind : Kind) → 17 ≤ (left kind).1
left_high k.Assignment = omega arith
left_high _ = omega arith

pub left_level : (kind : Kind) (word : Word) → infix_word kind ≡ Some word → level kind ≤ (left kind).1
left_level k.Member word e = omega arith
left_level k.Call word e = omega arith
left_level k.Assignment word e = omega arith
left_level _ word e = absurd cc

pub leads_back : (kind : Kind) (word : Word) → infix_word kind ≡ Some word → led_by word ≡ Some kind
leads_back k.Member word e = let is : w.Dot ≡ word = cc in subst (λ z. led_by z ≡ Some k.Member) is refl
leads_back k.Call word e = let is : w.OpenParen ≡ word = cc in subst (λ z. led_by z ≡ Some k.Call) is refl
leads_back k.Assignment word e = let is : w.Assign ≡ word = cc in subst (λ z. led_by z ≡ Some k.Assignment) is refl
leads_back _ word e = absurd cc

pub led_not_end : (kind : Kind) (word : Word) → infix_word kind ≡ Some word → is_end word ≡ false
led_not_end k.Member word e = let is : w.Dot ≡ word = cc in subst (λ z. is_end z ≡ false) is refl
led_not_end k.Call word e = let is : w.OpenParen ≡ word = cc in subst (λ z. is_end z ≡ false) is refl
led_not_end k.Assignment word e = let is : w.Assign ≡ word = cc in subst (λ z. is_end z ≡ false) is refl
led_not_end _ word e = absurd cc

pub led_inner : (kind : Kind) (word : Word) → infix_word kind ≡ Some word → is_whole kind ≡ false
led_inner k.Member word e = refl
led_inner k.Call word e = refl
led_inner k.Assignment word e = refl
led_inner _ word e = absurd cc

pub name_not_end : (word : Word) → is_name_word word ≡ true → is_end word ≡ false
name_not_end w.Name e = refl
name_not_end w.Reserved e = refl
name_not_end _ e = absurd cc

pub belongs_where_read : (kind : Kind) (d : Category) → belongs kind d ≡ true → belongs kind (read_in d) ≡ true
belongs_where_read k.Identifier c.Target b = refl
belongs_where_read k.Member c.Target b = refl
belongs_where_read _ c.Target b = absurd cc
belongs_where_read kind c.Expression b = b
belongs_where_read kind c.Statement b = b
belongs_where_read kind c.Property b = b
belongs_where_read kind c.Program b = b

left_expression : (kind : Kind) → read_in (left kind).0 ≡ c.Expression
left_expression k.Assignment = refl
left_expression _ = refl

led_in_expression : (kind : Kind) (d : Category) (word : Word) → infix_word kind ≡ Some word → belongs kind d ≡ true → read_in d ≡ c.Expression
led_in_expression kind c.Expression word e b = refl
led_in_expression kind c.Target word e b = refl
led_in_expression k.ExpressionStatement _ word e b = absurd cc
led_in_expression k.PropertyName _ word e b = absurd cc
led_in_expression k.Program _ word e b = absurd cc
led_in_expression _ _ word e b = absurd cc

pub left_where_read : (kind : Kind) (d : Category) (word : Word) → infix_word kind ≡ Some word → belongs kind d ≡ true → read_in (left kind).0 ≡ read_in d
left_where_read kind d word e b = left_expression kind ∙ sym (led_in_expression kind d word e b)

name_is : (word : Word) → is_name word ≡ true → word ≡ w.Name
name_is w.Name e = refl
name_is _ e = absurd cc

name_opens : (d : Category) (word : Word) → word ≡ w.Name → may_open d word ≡ true
name_opens c.Program word e = refl
name_opens c.Statement word e = subst (λ z. is_name z ≡ true) (sym e) refl
name_opens c.Expression word e = subst (λ z. is_name z ≡ true) (sym e) refl
name_opens c.Target word e = subst (λ z. is_name z ≡ true) (sym e) refl
name_opens c.Property word e = subst (λ z. is_name_word z ≡ true) (sym e) refl

property_opens : (d : Category) (word : Word) → belongs k.PropertyName d ≡ true → is_name_word word ≡ true → may_open d word ≡ true
property_opens c.Property word b e = e
property_opens _ word b e = absurd cc

program_opens : (d : Category) (word : Word) → belongs k.Program d ≡ true → may_open d word ≡ true
program_opens c.Program word b = refl
program_opens _ word b = absurd cc

-- a form's first token begins a tree of its categories
pub form_opens : (kind : Kind) (d : Category) (word : Word) → belongs kind d ≡ true → FirstToken (form kind) word → may_open d word ≡ true
form_opens k.Identifier d word b f = name_opens d word f
form_opens k.PropertyName d word b f = property_opens d word b f
form_opens k.Member d word b f = name_opens d word (name_is word (f refl))
form_opens k.Call d word b f = name_opens d word (name_is word (f refl))
form_opens k.Assignment d word b f = name_opens d word (name_is word (f refl))
form_opens k.Program d word b f = program_opens d word b
form_opens k.ExpressionStatement d word b f = name_opens d word (name_is word (f refl))

identifier_chosen : (d : Category) (word : Word) → belongs k.Identifier d ≡ true → word ≡ w.Name → begun_by (read_in d) word ≡ Some k.Identifier
identifier_chosen c.Expression word b e = subst (λ z. begun_by c.Expression z ≡ Some k.Identifier) (sym e) refl
identifier_chosen c.Target word b e = subst (λ z. begun_by c.Expression z ≡ Some k.Identifier) (sym e) refl
identifier_chosen _ word b e = absurd cc

property_chosen : (d : Category) (word : Word) → belongs k.PropertyName d ≡ true → is_name_word word ≡ true → begun_by (read_in d) word ≡ Some k.PropertyName
property_chosen c.Property w.Name b e = refl
property_chosen c.Property w.Reserved b e = refl
property_chosen c.Property _ b e = absurd cc
property_chosen _ word b e = absurd cc

program_chosen : (d : Category) (word : Word) → belongs k.Program d ≡ true → begun_by (read_in d) word ≡ Some k.Program
program_chosen c.Program word b = refl
program_chosen _ word b = absurd cc

statement_chosen : (d : Category) (word : Word) → belongs k.ExpressionStatement d ≡ true → word ≡ w.Name → begun_by (read_in d) word ≡ Some k.ExpressionStatement
statement_chosen c.Statement word b e = subst (λ z. begun_by c.Statement z ≡ Some k.ExpressionStatement) (sym e) refl
statement_chosen _ word b e = absurd cc

-- the first token chooses the form
pub chooses : (kind : Kind) (d : Category) (word : Word) → belongs kind d ≡ true → infix_word kind ≡ None → FirstToken (form kind) word → begun_by (read_in d) word ≡ Some kind
chooses k.Identifier d word b e f = identifier_chosen d word b f
chooses k.PropertyName d word b e f = property_chosen d word b f
chooses k.Program d word b e f = program_chosen d word b
chooses k.ExpressionStatement d word b e f = statement_chosen d word b (name_is word (f refl))
chooses _ d word b e f = absurd cc

pub leads_none : (c : Category) (l : ℕ) (that : Word) → led_by that ≡ None → (word : Word) → word ≡ that → Halts c l word
leads_none c l that none word is kind e b = absurd (cc (ap led_by is))

led_belongs : (word : Word) (kind : Kind) → led_by word ≡ Some kind → (belongs kind c.Statement ≡ false) × (belongs kind c.Property ≡ false) × (belongs kind c.Program ≡ false)
led_belongs w.OpenParen kind e = let is : k.Call ≡ kind = cc in subst (λ z. (belongs z c.Statement ≡ false) × (belongs z c.Property ≡ false) × (belongs z c.Program ≡ false)) is (refl, refl, refl)
led_belongs w.Dot kind e = let is : k.Member ≡ kind = cc in subst (λ z. (belongs z c.Statement ≡ false) × (belongs z c.Property ≡ false) × (belongs z c.Program ≡ false)) is (refl, refl, refl)
led_belongs w.Assign kind e = let is : k.Assignment ≡ kind = cc in subst (λ z. (belongs z c.Statement ≡ false) × (belongs z c.Property ≡ false) × (belongs z c.Program ≡ false)) is (refl, refl, refl)
led_belongs _ kind e = absurd cc

statement_halts : (word : Word) → Halts c.Statement 1 word
statement_halts word kind e b = absurd (cc (b, (led_belongs word kind e).0))

property_halts : (word : Word) → Halts c.Property 1 word
property_halts word kind e b = absurd (cc (b, (led_belongs word kind e).1))

pub program_halts : (l : ℕ) (word : Word) → Halts c.Program l word
program_halts l word kind e b = absurd (cc (b, (led_belongs word kind e).2))

closing_no_comma : same_word w.CloseParen w.Comma ≡ false
unfolding same_word
closing_no_comma = refl

-- what comes after an assignment leads no form that takes its value
value_halts : (d : Category) (l : ℕ) (word : Word) → read_in d ≡ c.Expression → l ≤ 1 → Yields (read_in d) l word → Halts c.Expression 1 word
value_halts d l word is le safe kind e b =
    let high = left_high kind in
    elim (safe kind e (subst (λ z. belongs kind z ≡ true) (sym is) b)) [ inl h ↦ omega arith | inr h ↦ absurd (omega arith) ]

-- what comes after a tree may come after the parts of its form
pub tail_may_end : (kind : Kind) (d : Category) (l : ℕ) (word : Word) → belongs kind d ≡ true → l ≤ level kind → Yields (read_in d) l word → MayEnd (tail kind) word
tail_may_end k.Identifier d l word b le safe = tt
tail_may_end k.PropertyName d l word b le safe = tt
tail_may_end k.Member d l word b le safe = ((refl, refl), property_halts word)
tail_may_end k.Call d l word b le safe = (λ other is. ((refl, refl), leads_none c.Expression 1 w.CloseParen refl other is, is, closing_no_comma, refl), tt)
tail_may_end k.Assignment d l word b le safe = ((refl, refl), value_halts d l word (led_in_expression k.Assignment d w.Assign refl b) le safe)
tail_may_end k.Program d l word b le safe = (λ other is. ((refl, refl), statement_halts, is, refl), tt)
tail_may_end k.ExpressionStatement d l word b le safe = (λ other is. ((refl, refl), leads_none c.Expression 1 w.Semicolon refl other is), tt)
