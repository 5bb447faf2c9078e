-- The token that stands next: where it stands, and that it is still the next from where it begins.
use Rattle.std.proofs.Common.{◌≡◌, ◌≤◌, ◌<◌, ◌+◌, ◌-◌, ℕ, zero, suc, Bool, true, false, cond, nat_lt, ◌==◌, inl, inr, List, length, refl, sym, ◌∙◌, ap, subst, arith}
use Rattle.std.specs.Prelude.{IsTrue, slice_index, slice_range}
use Rattle.std.proofs.lemmas.Bool.{eqb-true, ltb-true, ltb-false}
use Rattle.std.proofs.Math.Nat.{eq-or-lt_of_le}
use Rattle.first_grammar.specs.declared.cursor.Token.{Token}
use Rattle.first_grammar.specs.declared.table.Word.{Word}
use Rattle.first_grammar.specs.declared.table.Word.TheVariants as w
use Rattle.first_grammar.specs.Words.{is_blank, is_start, is_part, is_reserved, mark_of, run, blanks_end, name_end, Each, Blank, MarkAt, Stops, NameAt, Stands, Scan}
use Rattle.first_grammar.specs.Input.{name_token, token_at, scan}

-- what holds of both branches
pub by_test : {A : Type 0} (P : A → Type 0) (b : Bool) (x y : A) → (b ≡ true → P x) → (b ≡ false → P y) → P (cond b x y)
by_test P true x y f g = f refl
by_test P false x y f g = g refl

pub empty_stretch : (test : ℕ → Bool) (s : List ℕ) (i : ℕ) → i ≤ length s → Each test s i i
empty_stretch test s i le = record { order = omega arith; within = le; bytes = λ k from to. absurd (omega (arith, from, to)) }

pub run_each : (test : ℕ → Bool) (s : List ℕ) (n i : ℕ) → i + n ≤ length s → Each test s i (run test s n i)
unfolding run
run_each test s zero i le = empty_stretch test s i (omega (arith, le))
run_each test s (suc n) i le =
    by_test (Each test s i) (test (slice_index s i)) _ _
    (λ passes.
    let on = run_each test s n (i + 1) (omega (arith, le)) in
    record {
      order = omega (arith, on.order);
      within = on.within;
      bytes = λ k from to. elim (eq-or-lt_of_le from) [ inl here ↦ subst (λ z. IsTrue (test (slice_index s z))) here passes | inr past ↦ on.bytes k (omega (arith, past)) to ];
    })
    (λ fails. empty_stretch test s i (omega (arith, le)))

pub run_stops : (test : ℕ → Bool) (s : List ℕ) (n i : ℕ) → i + n ≡ length s → Stops test s (run test s n i)
unfolding run
run_stops test s zero i le = inl (omega (arith, le))
run_stops test s (suc n) i le = by_test (Stops test s) (test (slice_index s i)) _ _ (λ passes. run_stops test s n (i + 1) (omega (arith, le))) (λ fails. inr fails)

-- where it stops, it stays
pub run_stays : (test : ℕ → Bool) (s : List ℕ) (n j : ℕ) → j + n ≡ length s → Stops test s j → run test s n j ≡ j
unfolding run
run_stays test s zero j le stops = refl
run_stays test s (suc n) j le stops = elim stops [ inl end ↦ absurd (omega (arith, le, end)) | inr fails ↦ rw fails refl ]

pub blanks : (s : List ℕ) (i : ℕ) → i ≤ length s → Blank s i (blanks_end s i)
blanks s i le = run_each is_blank s (length s - i) i (omega (arith, le))

pub blanks_stop : (s : List ℕ) (i : ℕ) → i ≤ length s → Stops is_blank s (blanks_end s i)
blanks_stop s i le = run_stops is_blank s (length s - i) i (omega (arith, le))

blanks_once : (s : List ℕ) (i : ℕ) → i ≤ length s → blanks_end s (blanks_end s i) ≡ blanks_end s i
blanks_once s i le = let b = blanks s i le in run_stays is_blank s _ _ (omega (arith, b.within)) (blanks_stop s i le)

token_start : (s : List ℕ) (b : ℕ) → (token_at s b).start ≡ b
token_start s b =
    let P : Token → Type 0 = λ t. t.start ≡ b in
    by_test P (nat_lt b (length s)) _ _ (λ _. by_test P (is_start (slice_index s b)) _ _ (λ _. refl) (λ _. refl)) (λ _. refl)

-- the next token from a place is also the next from where it begins
pub same_ahead : (s : List ℕ) (i : ℕ) (t : Token) → i ≤ length s → t ≡ scan s i → t ≡ scan s t.start
unfolding scan
same_ahead s i t le e =
    let start : t.start ≡ blanks_end s i = ap (λ (z : Token). z.start) e ∙ token_start s (blanks_end s i) in
    e ∙ ap (token_at s) (sym (ap (blanks_end s) start ∙ blanks_once s i le))

-- a token that stands somewhere
abbrev pub known : Word → Bool
known w.Other = false
known _ = true

name_at : (s : List ℕ) (b : ℕ) → b < length s → is_start (slice_index s b) ≡ true → NameAt s b (name_end s (b + 1))
name_at s b lt starts = record { first = starts; rest = run_each is_part s _ _ (omega (arith, lt)); last = run_stops is_part s _ _ (omega (arith, lt)) }

mark_at : (s : List ℕ) (b c : ℕ) → b < length s → (slice_index s b == c) ≡ true → MarkAt c s b (b + 1)
mark_at s b c lt e = record { within = lt; is = eqb-true _ _ e; end = refl }

-- the token that is said to stand from its start to its end
abbrev Placed : List ℕ → ℕ → Token → Type 0
Placed s b t = (t.start ≡ b) × (known t.word ≡ true → Stands s t.word b t.end)

name_placed : (s : List ℕ) (b e : ℕ) → NameAt s b e → Placed s b (name_token s b e)
name_placed s b e name =
    (refl, λ _. by_test (λ word. Stands s word b e) (is_reserved (slice_range s b e)) w.Reserved w.Name (λ is. record { name = name; reserved_or_not = is }) (λ is. record { name = name; reserved_or_not = is }))

mark_placed : (s : List ℕ) (b : ℕ) → b < length s → Placed s b (record { word = mark_of (slice_index s b); start = b; end = b + 1 })
mark_placed s b lt =
    let P : Word → Type 0 = λ word. known word ≡ true → Stands s word b (b + 1) in
    let here : (c : ℕ) → (slice_index s b == c) ≡ true → true ≡ true → MarkAt c s b (b + 1) = λ c e _. mark_at s b c lt e in
    let c = slice_index s b in (
      refl,
      by_test P (c == 40) _ _ (here 40) (λ _. by_test P (c == 41) _ _ (here 41) (λ _. by_test P (c == 44) _ _ (here 44) (λ _. by_test P (c == 46) _ _ (here 46) (λ _.
          by_test P (c == 59) _ _ (here 59) (λ _. by_test P (c == 61) _ _ (here 61) (λ _ other. absurd cc)))))),
    )

token_placed : (s : List ℕ) (b : ℕ) → b ≤ length s → Placed s b (token_at s b)
token_placed s b le =
    by_test (Placed s b) (nat_lt b (length s)) _ _
    (λ lt. by_test (Placed s b) (is_start (slice_index s b)) _ _ (λ starts. name_placed s b _ (name_at s b (ltb-true _ _ lt) starts)) (λ _. mark_placed s b (ltb-true _ _ lt)))
    (λ end. (refl, λ _. (omega (arith, le, ltb-false _ _ end), refl)))

-- the next token stands where it says
pub ahead_stands : (s : List ℕ) (i : ℕ) → i ≤ length s → known (scan s i).word ≡ true → Scan s i (scan s i).word (scan s i).start (scan s i).end
unfolding scan
ahead_stands s i le is =
    let b = blanks s i le in
    let t = token_placed s (blanks_end s i) b.within in
    record { blank = subst (Blank s i) (sym t.0) b; stands = subst (λ z. Stands s (token_at s (blanks_end s i)).word z (token_at s (blanks_end s i)).end) (sym t.0) (t.1 is) }
