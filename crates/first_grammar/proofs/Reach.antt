-- What it is that a text is read up to an offset, unless its trees nest too deep.
use Rattle.std.proofs.Common.{◌≡◌, ◌≤◌, ◌<◌, ℕ, zero, suc, Bool, true, false, ◌&&◌, nat_le, ◌⊎◌, inl, inr, List, Option, Some, None, Ok, Err, refl, sym, ◌∙◌, ap, subst, arith, rules}
use Rattle.std.specs.Prelude.{slice_range}
use Rattle.std.proofs.lemmas.Bool.{and_from, and_left, and_right, le-leb, lt-leb}
use denote.Enum.Bare.{same_true}
use Rattle.tree_core.specs.declared.span.Span.{Span}
use Rattle.tree_core.specs.Syntax.{Syntax}
use Rattle.first_grammar.specs.contracts.table.Word.{the_type}
use Rattle.first_grammar.specs.declared.table.Kind.{Kind}
use Rattle.first_grammar.specs.declared.table.Word.{Word}
use Rattle.first_grammar.specs.declared.table.Word.TheVariants as w
use Rattle.first_grammar.specs.declared.table.Category.{Category}
use Rattle.first_grammar.specs.declared.table.Part.TheVariants as p
use Rattle.first_grammar.specs.declared.cursor.Token.{Token}
use Rattle.first_grammar.specs.declared.error.ReadError.TheVariants.{Nesting}
use Rattle.first_grammar.specs.Table.{same_word, level, belongs, left, led_by}
use Rattle.first_grammar.specs.Words.{is_name_word, Scan}
use Rattle.first_grammar.specs.Input.{Input, Outcome, Reader, and_then, word, next, sees, expect, named_if, name, any_name, pure}
use Rattle.first_grammar.specs.Reading.{Read, with_scalar, if_takes, choose, part, climb, node}
use Rattle.first_grammar.proofs.Tokens.{scan_is}
use Rattle.first_grammar.proofs.Forms.{Halts}

abbrev pub put : List ℕ → ℕ → List Span → Input
put s at spans = record { text = s; at = at; spans = spans }

-- the outcome is good and ends at j, or trees nest too deep and the depth is below h
abbrev pub Reached : {A : Type 0} → (A → Type 0) → List ℕ → ℕ → ℕ → ℕ → Outcome A → Type 0
Reached {A} good s j h depth r = ((a : A) × (spans : List Span) × (r ≡ Ok (a, put s j spans)) × good a) ⊎ ((at : ℕ) × (r ≡ Err (Nesting at)) × (depth < h))

pub reached_then : {A B : Type 0} (good : A → Type 0) (well : B → Type 0) (s : List ℕ) (k j g h m depth : ℕ) (r : Outcome A) (f : A → Reader B) → g ≤ m → h ≤ m
    → Reached good s k g depth r → ((a : A) (spans : List Span) → good a → Reached well s j h depth (f a (put s k spans))) → Reached well s j m depth (and_then r f)
reached_then {A} {B} good well s k j g h m depth r f le lh (inl e) on =
    subst (λ z. Reached well s j m depth (and_then z f)) (sym e.2) (elim (on e.0 e.1 e.3) [
      | inl d ↦ inl d
      | inr d ↦ inr (d.0, d.1, omega arith)
    ])
reached_then {A} {B} good well s k j g h m depth r f le lh (inr e) on = inr (e.0, subst (λ z. and_then z f ≡ Err (Nesting e.0)) (sym e.1) refl, omega arith)

-- tokens

pub same : (a b : Word) → same_word a b ≡ true → a ≡ b
unfolding same_word
same a b e = same_true the_type (search rules) a b e

pub word_itself : (a : Word) → same_word a a ≡ true
unfolding same_word
word_itself w.End = refl
word_itself w.Name = refl
word_itself w.Reserved = refl
word_itself w.OpenParen = refl
word_itself w.CloseParen = refl
word_itself w.Comma = refl
word_itself w.Dot = refl
word_itself w.Assign = refl
word_itself w.Semicolon = refl
word_itself w.Other = refl

pub seen_word : (a b : Word) → a ≡ b → same_word a b ≡ true
seen_word a b e = subst (λ z. same_word a z ≡ true) e (word_itself a)

-- a test tells two tokens apart
pub unseen_word : (test : Word → Bool) (a b : Word) → test a ≡ true → test b ≡ false → same_word a b ≡ false
unseen_word test a b does not = go (same_word a b) refl
  where
    go : (v : Bool) → same_word a b ≡ v → same_word a b ≡ false
    go true e = absurd (cc (ap test (same a b e)))
    go false e = e

pub sees_it : (s : List ℕ) (k : Word) (i b e : ℕ) (spans : List Span) → Scan s i k b e → sees k (put s i spans) ≡ true
sees_it s k i b e spans h = ap (λ (z : Token). same_word z.word k) (scan_is s i k b e h) ∙ word_itself k

pub goes_past : (s : List ℕ) (k : Word) (i b e : ℕ) (spans : List Span) → Scan s i k b e → next (put s i spans) ≡ put s e spans
goes_past s k i b e spans h = ap (λ (z : Token). put s z.end spans) (scan_is s i k b e h)

taken : (s : List ℕ) (k : Word) (i b e : ℕ) (spans : List Span) → Scan s i k b e → (fits : Bool) → fits ≡ true → named_if fits (put s i spans) ≡ Ok (slice_range s b e, put s e spans)
taken s k i b e spans h fits is = rw is (ap (λ (z : Token). Ok (slice_range s z.start z.end, put s z.end spans)) (scan_is s i k b e h))

expected : (s : List ℕ) (k : Word) (i b e : ℕ) (spans : List Span) → Scan s i k b e → expect k (put s i spans) ≡ Ok (tt, put s e spans)
unfolding expect
expected s k i b e spans h = rw (sees_it s k i b e spans h) (ap (λ z. Ok (tt, z)) (goes_past s k i b e spans h))

pub part_token : (node : Category → ℕ → Reader Syntax) (s : List ℕ) (k : Word) (r : Read) (i b e : ℕ) (spans : List Span) → Scan s i k b e → part node (p.Token k) r (put s i spans) ≡ Ok (r, put s e spans)
unfolding part
part_token node s k r i b e spans h = ap (λ z. and_then z (λ _. pure r)) (expected s k i b e spans h)

pub part_name : (node : Category → ℕ → Reader Syntax) (s : List ℕ) (r : Read) (i b e : ℕ) (spans : List Span) → Scan s i w.Name b e
    → part node p.Name r (put s i spans) ≡ Ok (with_scalar r (slice_range s b e), put s e spans)
unfolding part name
part_name node s r i b e spans h = ap (λ z. and_then z (λ units. pure (with_scalar r units))) (taken s w.Name i b e spans h _ (sees_it s w.Name i b e spans h))

pub part_any_name : (node : Category → ℕ → Reader Syntax) (s : List ℕ) (k : Word) (r : Read) (i b e : ℕ) (spans : List Span) → is_name_word k ≡ true → Scan s i k b e
    → part node p.AnyName r (put s i spans) ≡ Ok (with_scalar r (slice_range s b e), put s e spans)
unfolding part any_name
part_any_name node s k r i b e spans is h =
    ap (λ z. and_then z (λ units. pure (with_scalar r units))) (taken s k i b e spans h _ (ap (λ (z : Token). is_name_word z.word) (scan_is s i k b e h) ∙ is))

-- the climb

pub chooses_none : (c : Category) (l : ℕ) (first : Kind) (word : Word) → Halts c l word → choose c l first word ≡ None
unfolding choose
chooses_none c l first word stop = go (led_by word) refl
  where
    go : (o : Option Kind) → led_by word ≡ o → if_takes c l first o ≡ None
    go None e = refl
    go (Some kind) e = both (belongs kind c) refl
      where
        both : (v : Bool) → belongs kind c ≡ v → if_takes c l first (Some kind) ≡ None
        both true b = rw (and_left _ (nat_le (left kind).1 (level first)) (and_left _ (belongs first (left kind).0) (and_right (belongs kind c) (nat_le l (level kind)) (lt-leb _ _ (stop kind e b))))) refl
        both false b = rw (and_left _ (nat_le (left kind).1 (level first)) (and_left _ (belongs first (left kind).0) (and_left (belongs kind c) (nat_le l (level kind)) b))) refl

pub chooses_kind : (c : Category) (least : ℕ) (first : Kind) (word : Word) (kind : Kind) → led_by word ≡ Some kind → belongs kind c ≡ true → least ≤ level kind → belongs first (left kind).0 ≡ true
    → (left kind).1 ≤ level first → choose c least first word ≡ Some kind
unfolding choose
chooses_kind c least first word kind led b le fits up =
    rw (
      led,
      and_from (belongs kind c && nat_le least (level kind) && belongs first (left kind).0) (nat_le (left kind).1 (level first))
          (and_from (belongs kind c && nat_le least (level kind)) (belongs first (left kind).0) (and_from (belongs kind c) (nat_le least (level kind)) b (le-leb _ _ le)) fits) (le-leb _ _ up),
    ) refl

pub climb_halts : (depth : ℕ) (node : Category → ℕ → Reader Syntax) (c : Category) (least start n : ℕ) (x : Syntax) (kind : Kind) (i : Input) → choose c least kind (word i) ≡ None → climb depth node c least start n x kind i ≡ Ok (x, i)
unfolding climb
climb_halts depth node c least start zero x kind i e = refl
climb_halts depth node c least start (suc n) x kind i e = rw e refl
