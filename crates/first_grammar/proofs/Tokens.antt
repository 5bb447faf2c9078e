-- What stands in the text is what is scanned there.
use Rattle.std.proofs.Common.{◌≡◌, ◌≤◌, ◌<◌, ◌+◌, ◌-◌, ℕ, zero, suc, Bool, true, false, cond, ◌||◌, ◌==◌, ◌⊎◌, inl, inr, List, length, refl, subst, arith}
use Rattle.std.specs.Prelude.{nat_lt, slice_index}
use Rattle.std.proofs.lemmas.Bool.{eqb-true, lt-ltb, le-ltb}
use Rattle.std.proofs.Math.Nat.{eq-or-lt_of_le}
use Rattle.first_grammar.specs.declared.table.Word.{Word}
use Rattle.first_grammar.specs.declared.table.Word.TheVariants as w
use Rattle.first_grammar.specs.Words.{is_blank, is_start, is_part, mark_of, run, blanks_end, name_end, Each, Blank, Stops, NameAt, WordAt, MarkAt, Stands, Scan}
use Rattle.first_grammar.specs.Spells.{Begins}
use Rattle.first_grammar.specs.Input.{token_at, scan}

-- a run over what passes ends where it stops
run_to : (test : ℕ → Bool) (s : List ℕ) (n i j : ℕ) → i + n ≡ length s → Each test s i j → Stops test s j → run test s n i ≡ j
unfolding run
run_to test s zero i j le each stops = omega (arith, each.order, each.within)
run_to test s (suc n) i j le each stops = elim (eq-or-lt_of_le each.order) [
  | inl here ↦ elim stops [ inl end ↦ absurd (omega (arith, le, end, here)) | inr fails ↦ rw (here, fails) refl ]
  | inr past ↦
      let passes : test (slice_index s i) ≡ true = each.bytes i (omega arith) past in
      let later : Each test s (i + 1) j = record { order = omega (arith, past); within = each.within; bytes = λ k lo hi. each.bytes k (omega (arith, lo)) hi } in
      rw passes (run_to test s n (i + 1) j (omega (arith, le)) later stops)
]

either : (x y : Bool) → (x || y) ≡ true → (x ≡ true) ⊎ (y ≡ true)
either true y e = inl refl
either false y e = inr e

start_not_blank : (c : ℕ) (b : Bool) → is_blank c ≡ b → is_start c ≡ true → is_blank c ≡ false
start_not_blank c false e f = e
start_not_blank c true e f = elim (either (c == 32) (c == 10) e) [
  | inl h ↦ absurd (let is : c ≡ 32 = eqb-true _ _ h in let g : is_start 32 ≡ true = subst (λ z. is_start z ≡ true) is f in cc)
  | inr h ↦ absurd (let is : c ≡ 10 = eqb-true _ _ h in let g : is_start 10 ≡ true = subst (λ z. is_start z ≡ true) is f in cc)
]

abbrev Tokens : List ℕ → Word → ℕ → ℕ → Type 0
Tokens s k b e = token_at s b ≡ record { word = k; start = b; end = e }

mark_token : (s : List ℕ) (c b e : ℕ) → is_start c ≡ false → MarkAt c s b e → Tokens s (mark_of c) b e
mark_token s c b e not h = rw (lt-ltb b (length s) h.within, h.is, not, h.end) refl

word_token : (s : List ℕ) (reserved : Bool) (b e : ℕ) → WordAt reserved s b e → Tokens s (cond reserved w.Reserved w.Name) b e
word_token s reserved b e h =
    let end : name_end s (b + 1) ≡ e = run_to is_part s (length s - (b + 1)) (b + 1) e (omega (arith, h.name.rest.order, h.name.rest.within)) h.name.rest h.name.last in
    rw (lt-ltb b (length s) (omega (arith, h.name.rest.order, h.name.rest.within)), h.name.first, end, h.reserved_or_not) refl

stands_token : (s : List ℕ) (k : Word) (b e : ℕ) → Stands s k b e → Tokens s k b e
stands_token s w.End b e h = rw (le-ltb b (length s) (omega (arith, h.0)), h.1) refl
stands_token s w.Name b e h = word_token s false b e h
stands_token s w.Reserved b e h = word_token s true b e h
stands_token s w.OpenParen b e h = mark_token s 40 b e refl h
stands_token s w.CloseParen b e h = mark_token s 41 b e refl h
stands_token s w.Comma b e h = mark_token s 44 b e refl h
stands_token s w.Dot b e h = mark_token s 46 b e refl h
stands_token s w.Semicolon b e h = mark_token s 59 b e refl h
stands_token s w.Assign b e h = mark_token s 61 b e refl h
stands_token s w.Other b e h = absurd h

-- what begins a token is no blank
mark_stops : (s : List ℕ) (c b e : ℕ) → is_blank c ≡ false → MarkAt c s b e → Stops is_blank s b
mark_stops s c b e not h = inr (rw h.is not)

stands_stops : (s : List ℕ) (k : Word) (b e : ℕ) → Stands s k b e → Stops is_blank s b
stands_stops s w.End b e h = inl h.0
stands_stops s w.Name b e h = inr (start_not_blank (slice_index s b) _ refl h.name.first)
stands_stops s w.Reserved b e h = inr (start_not_blank (slice_index s b) _ refl h.name.first)
stands_stops s w.OpenParen b e h = mark_stops s 40 b e refl h
stands_stops s w.CloseParen b e h = mark_stops s 41 b e refl h
stands_stops s w.Comma b e h = mark_stops s 44 b e refl h
stands_stops s w.Dot b e h = mark_stops s 46 b e refl h
stands_stops s w.Semicolon b e h = mark_stops s 59 b e refl h
stands_stops s w.Assign b e h = mark_stops s 61 b e refl h
stands_stops s w.Other b e h = absurd h

blanks_to : (s : List ℕ) (i b : ℕ) → Blank s i b → Stops is_blank s b → blanks_end s i ≡ b
blanks_to s i b blank stops = run_to is_blank s (length s - i) i b (omega (arith, blank.order, blank.within)) blank stops

-- the token that stands after blanks is the one that is scanned
pub scan_is : (s : List ℕ) (i : ℕ) (k : Word) (b e : ℕ) → Scan s i k b e → scan s i ≡ record { word = k; start = b; end = e }
unfolding scan
scan_is s i k b e h = rw (blanks_to s i b h.blank (stands_stops s k b e h.stands)) (stands_token s k b e h.stands)

pub none_blank : (s : List ℕ) (i : ℕ) → i ≤ length s → Blank s i i
none_blank s i le = record { order = omega arith; within = le; bytes = λ k lo hi. absurd (omega (arith, lo, hi)) }

-- blanks before a token do not change it
pub scan_after : (s : List ℕ) (i b : ℕ) → Blank s i b → Begins false s b → scan s i ≡ scan s b
unfolding scan
scan_after s i b blank begins =
    rw (blanks_to s i b blank (inr begins.1), blanks_to s b b (none_blank s b blank.within) (inr begins.1)) refl

start_at : (s : List ℕ) (b : ℕ) (first : Bool) → is_start (slice_index s b) ≡ first → nat_lt b (length s) ≡ true → (token_at s b).start ≡ b
start_at s b true e lt = rw (lt, e) refl
start_at s b false e lt = rw (lt, e) refl

-- a node's first token begins with its first byte
pub scan_begins : (s : List ℕ) (b : ℕ) → Begins false s b → (scan s b).start ≡ b
unfolding scan
scan_begins s b begins =
    let at : blanks_end s b ≡ b = blanks_to s b b (none_blank s b (omega (arith, begins.0))) (inr begins.1) in
    rw at (start_at s b _ refl (lt-ltb b (length s) begins.0))

abbrev pub is_end : Word → Bool
is_end w.End = true
is_end _ = false

-- the token is no blank, and only the end of the text is empty
pub record Order (k : Word) (s : List ℕ) (b e : ℕ) : Type 0 where
  pub order : b ≤ e
  pub moves : is_end k ≡ false → b < e
  pub within : is_end k ≡ false → b < length s

mark_order : (k : Word) (s : List ℕ) (c b e : ℕ) → MarkAt c s b e → Order k s b e
mark_order k s c b e h = record { order = omega (arith, h.end); moves = λ _. omega (arith, h.end); within = λ _. h.within }

name_order : (k : Word) (s : List ℕ) (b e : ℕ) → NameAt s b e → Order k s b e
name_order k s b e h = record { order = omega (arith, h.rest.order); moves = λ _. omega (arith, h.rest.order); within = λ _. omega (arith, h.rest.order, h.rest.within) }

pub stands_order : (s : List ℕ) (k : Word) (b e : ℕ) → Stands s k b e → Order k s b e
stands_order s w.End b e h = record { order = omega (arith, h.1); moves = λ is. cc; within = λ is. cc }
stands_order s w.Name b e h = name_order w.Name s b e h.name
stands_order s w.Reserved b e h = name_order w.Reserved s b e h.name
stands_order s w.OpenParen b e h = mark_order w.OpenParen s 40 b e h
stands_order s w.CloseParen b e h = mark_order w.CloseParen s 41 b e h
stands_order s w.Comma b e h = mark_order w.Comma s 44 b e h
stands_order s w.Dot b e h = mark_order w.Dot s 46 b e h
stands_order s w.Semicolon b e h = mark_order w.Semicolon s 59 b e h
stands_order s w.Assign b e h = mark_order w.Assign s 61 b e h
stands_order s w.Other b e h = absurd h
