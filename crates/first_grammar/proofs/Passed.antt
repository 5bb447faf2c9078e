-- What a step tells that succeeded.
use Rattle.std.proofs.Common.{◌≡◌, ◌≤◌, ◌<◌, ℕ, nat_le, Bool, true, false, cond, ◌||◌, ◌==◌, ◌⊎◌, inl, inr, List, [], ◌∷◌, ◌++◌, length, Some, Ok, Err, refl, sym, ◌∙◌, ap, subst, rules, arith, append_assoc, append-nil}
use Rattle.std.specs.Prelude.{slice_index, slice_get, slice_range}
use Rattle.std.proofs.lemmas.Bool.{eqb-true, leb-true}
use Rattle.std.proofs.lemmas.Option.{slice_get-get_or}
use Rattle.std.proofs.Math.Seq.{get_or-append_seam}
use Rattle.std.proofs.lemmas.List.{length-append}
use denote.Enum.Bare.{same_true}
use Rattle.tree_core.specs.declared.span.Span.{Span}
use Rattle.tree_core.specs.Height.{slots_height}
use Rattle.tree_core.specs.View.{slots_of}
use Rattle.first_grammar.specs.contracts.table.Word.{the_type}
use Rattle.first_grammar.specs.declared.table.Word.{Word}
use Rattle.first_grammar.specs.declared.table.Word.TheVariants as w
use Rattle.first_grammar.specs.Table.{same_word}
use Rattle.first_grammar.specs.Words.{is_blank, is_start, is_name_word, MarkAt, NameAt, Stands, Scan}
use Rattle.first_grammar.specs.Spells.{HasSpan}
use Rattle.first_grammar.specs.Input.{Input, Outcome, Reader, and_then, pure, too_deep, word, opening, next, expect, named_if, name, any_name, numbered, sees, after}
use Rattle.first_grammar.specs.Reading.{Read, shallow}
use Rattle.first_grammar.proofs.Ahead.{known, ahead_stands}

pub bound : {A B : Type 0} (r : Outcome A) (f : A → Reader B) (y : B × Input) → and_then r f ≡ Ok y → (a : A) × (k : Input) × (r ≡ Ok (a, k)) × (f a k ≡ Ok y)
bound (Ok p) f y e = (p.0, p.1, refl, e)
bound (Err d) f y e = cc

pub same_ok : {A : Type 0} (a b : A) (i j : Input) → (let one : Outcome A = Ok (a, i) in one ≡ Ok (b, j)) → (a ≡ b) × (i ≡ j)
same_ok {A} a b i j e = let pairs : ◌≡◌ {A = A × Input} (a, i) (b, j) = cc in (ap (λ (q : A × Input). q.0) pairs, ap (λ (q : A × Input). q.1) pairs)

pub branch : {A : Type 0} (b : Bool) (x y z : A) → cond b x y ≡ z → ((b ≡ true) × (x ≡ z)) ⊎ ((b ≡ false) × (y ≡ z))
branch true x y z e = inl (refl, e)
branch false x y z e = inr (refl, e)

pub branch_at : {A : Type 0} (b : Bool) (x y : Reader A) (i : Input) (z : Outcome A) → cond b x y i ≡ z → ((b ≡ true) × (x i ≡ z)) ⊎ ((b ≡ false) × (y i ≡ z))
branch_at true x y i z e = inl (refl, e)
branch_at false x y i z e = inr (refl, e)

pub word_is : (a b : Word) → same_word a b ≡ true → a ≡ b
unfolding same_word
word_is a b e = same_true the_type (search rules) a b e

pub shallow_ok : (depth : ℕ) (r : Read) (i j : Input) (u : Unit {0}) → shallow depth r i ≡ Ok (u, j) → (slots_height (slots_of r.1) ≤ depth) × (i ≡ j)
shallow_ok depth r i j u e = elim (branch_at (nat_le (slots_height (slots_of r.1)) depth) (pure tt) too_deep i _ e) [ inl h ↦ (leb-true _ _ h.0, (same_ok _ _ _ _ h.1).1) | inr h ↦ absurd cc ]

-- spans are only added, behind those that are there
abbrev pub Grows : List Span → List Span → Type 0
Grows old new = (more : List Span) × (new ≡ old ++ more)

pub unchanged : (a : List Span) → Grows a a
unchanged a = ([], sym (append-nil a))

pub grows_on : (a b c : List Span) → Grows a b → Grows b c → Grows a c
grows_on a b c g h = (g.0 ++ h.0, h.1 ∙ ap (λ z. z ++ h.0) g.1 ∙ append_assoc a g.0 h.0)

-- the input is a place in the text
pub record Inside (s : List ℕ) (i : Input) : Type 0 where
  pub text_is : i.text ≡ s
  pub within : i.at ≤ length s

-- it came to such a place
pub record Move (s : List ℕ) (i j : Input) : Type 0 where
  pub inside : Inside s j
  pub grows : Grows i.spans j.spans

pub stay : (s : List ℕ) (i : Input) → Inside s i → Move s i i
stay s i h = record { inside = h; grows = unchanged i.spans }

pub move_on : (s : List ℕ) (i j k : Input) → Move s i j → Move s j k → Move s i k
move_on s i j k a b = record { inside = b.inside; grows = grows_on i.spans j.spans k.spans a.grows b.grows }

mark_end : (s : List ℕ) (c b e : ℕ) → MarkAt c s b e → e ≤ length s
mark_end s c b e h = omega (arith, h.within, h.end)

stands_end : (s : List ℕ) (k : Word) (b e : ℕ) → Stands s k b e → e ≤ length s
stands_end s w.End b e h = omega (arith, h.0, h.1)
stands_end s w.Name b e h = h.name.rest.within
stands_end s w.Reserved b e h = h.name.rest.within
stands_end s w.OpenParen b e h = mark_end s 40 b e h
stands_end s w.CloseParen b e h = mark_end s 41 b e h
stands_end s w.Comma b e h = mark_end s 44 b e h
stands_end s w.Dot b e h = mark_end s 46 b e h
stands_end s w.Semicolon b e h = mark_end s 59 b e h
stands_end s w.Assign b e h = mark_end s 61 b e h
stands_end s w.Other b e h = absurd h

-- the token that comes next stands there, and is passed
pub record Passed (s : List ℕ) (k : Word) (i : Input) : Type 0 where
  pub scan : Scan s i.at k (opening i) (next i).at
  pub move : Move s i (next i)

pub passed : (s : List ℕ) (i : Input) → Inside s i → known (word i) ≡ true → Passed s (word i) i
passed s i h is =
    let there = subst (λ z. Scan z i.at (word i) (opening i) (next i).at) h.text_is (ahead_stands i.text i.at (omega (arith, h.within, ap length h.text_is)) is) in
    record { scan = there; move = record { inside = record { text_is = h.text_is; within = stands_end s (word i) _ _ there.stands }; grows = unchanged i.spans } }

pub passed_as : (s : List ℕ) (k : Word) (i : Input) → Inside s i → known k ≡ true → word i ≡ k → Passed s k i
passed_as s k i h kn is = subst (λ z. Passed s z i) is (passed s i h (ap known is ∙ kn))

pub seen : (s : List ℕ) (k : Word) (i : Input) → Inside s i → known k ≡ true → sees k i ≡ true → Passed s k i
seen s k i h kn e = passed_as s k i h kn (word_is _ _ e)

pub after_seen : (k : Word) (i : Input) → sees k i ≡ true → after k i ≡ next i
after_seen k i e = rw e refl

pub after_unseen : (k : Word) (i : Input) → sees k i ≡ false → after k i ≡ i
after_unseen k i e = rw e refl

pub expect_ok : (k : Word) (i j : Input) (u : Unit {0}) → expect k i ≡ Ok (u, j) → (sees k i ≡ true) × (next i ≡ j)
unfolding expect
expect_ok k i j u e = elim (branch (sees k i) _ _ _ e) [ inl h ↦ (h.0, (same_ok _ _ _ _ h.1).1) | inr h ↦ absurd cc ]

named_ok : (fits : Bool) (i j : Input) (n : List ℕ) → named_if fits i ≡ Ok (n, j) → (fits ≡ true) × (n ≡ slice_range i.text (opening i) (next i).at) × (next i ≡ j)
named_ok fits i j n e = elim (branch fits _ _ _ e) [ inl h ↦ let q = same_ok _ _ _ _ h.1 in (h.0, sym q.0, q.1) | inr h ↦ absurd cc ]

pub name_ok : (i j : Input) (n : List ℕ) → name i ≡ Ok (n, j) → (sees w.Name i ≡ true) × (n ≡ slice_range i.text (opening i) (next i).at) × (next i ≡ j)
unfolding name
name_ok i j n e = named_ok (sees w.Name i) i j n e

pub any_name_ok : (i j : Input) (n : List ℕ) → any_name i ≡ Ok (n, j) → (is_name_word (word i) ≡ true) × (n ≡ slice_range i.text (opening i) (next i).at) × (next i ≡ j)
unfolding any_name
any_name_ok i j n e = named_ok (is_name_word (word i)) i j n e

pub get_seam : {X : Type 0} (xs : List X) (y : X) (ys : List X) → slice_get (xs ++ y ∷ ys) (length xs) ≡ Some y
get_seam xs y ys = slice_get-get_or (xs ++ y ∷ ys) (length xs) y (omega (arith, length-append xs (y ∷ ys))) ∙ ap Some (get_or-append_seam xs y ys y)

-- a number that was given
pub record Numbered (start n : ℕ) (i j : Input) : Type 0 where
  pub text_is : j.text ≡ i.text
  pub at_is : j.at ≡ i.at
  pub grows : Grows i.spans j.spans
  pub has : (z : List Span) → Grows j.spans z → HasSpan z (Some n) start j.at

pub numbered_ok : (start n : ℕ) (i j : Input) → numbered start i ≡ Ok (n, j) → Numbered start n i j
unfolding numbered
numbered_ok start n i j e =
    let span : Span = record { start = start; end = i.at } in
    let here : Numbered start (length i.spans) i (record { text = i.text; at = i.at; spans = i.spans ++ span ∷ [] }) =
    record {
      text_is = refl;
      at_is = refl;
      grows = (span ∷ [], refl);
      has = λ z g. subst (λ v. slice_get v (length i.spans) ≡ Some span) (sym (g.1 ∙ append_assoc i.spans (span ∷ []) g.0)) (get_seam i.spans span g.0);
    }
    in
    let q = same_ok _ _ _ _ e in
    subst (λ m. Numbered start m i j) q.0 (subst (λ y. Numbered start (length i.spans) i y) q.1 here)

one_of : (x y : Bool) → (x || y) ≡ true → (x ≡ true) ⊎ (y ≡ true)
one_of true y e = inl refl
one_of false y e = inr e

start_unless : (c : ℕ) (b : Bool) → is_blank c ≡ b → is_start c ≡ true → b ≡ false
start_unless c false e f = refl
start_unless c true e f = elim (one_of (c == 32) (c == 10) e) [
  | inl h ↦ absurd (let no : is_start 32 ≡ true = subst (λ z. is_start z ≡ true) (eqb-true _ _ h) f in cc)
  | inr h ↦ absurd (let no : is_start 10 ≡ true = subst (λ z. is_start z ≡ true) (eqb-true _ _ h) f in cc)
]

-- a name begins with no blank
pub name_begins : (s : List ℕ) (b e : ℕ) → NameAt s b e → (b < length s) × (is_blank (slice_index s b) ≡ false)
name_begins s b e h = (omega (arith, h.rest.order, h.rest.within), start_unless (slice_index s b) _ refl h.first)

pub name_stands : (s : List ℕ) (k : Word) (b e : ℕ) → is_name_word k ≡ true → Stands s k b e → NameAt s b e
name_stands s w.Name b e is h = h.name
name_stands s w.Reserved b e is h = h.name
name_stands s _ b e is h = absurd cc

pub name_known : (k : Word) → is_name_word k ≡ true → known k ≡ true
name_known w.Name is = refl
name_known w.Reserved is = refl
name_known _ is = absurd cc
