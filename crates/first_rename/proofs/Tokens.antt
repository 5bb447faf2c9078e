-- Tokens and blanks in the patched text.
use Rattle.std.proofs.Common.{◌≡◌, ◌≤◌, ◌<◌, ◌+◌, ◌-◌, inl, inr, ℕ, Bool, true, false, ◌||◌, ◌⊎◌, List, [], ◌∷◌, ◌++◌, length, drop, refl, sym, ◌∙◌, ap, subst, arith, length-drop}
use Rattle.std.specs.Prelude.{IsTrue, slice_index, slice_range, ◌==◌}
use Rattle.std.proofs.lemmas.Bool.{eqb-true}
use Rattle.std.proofs.lemmas.List.{length-append}
use Rattle.std.proofs.Math.Nat.{eq-or-lt_of_le}
use Rattle.tree_core.specs.declared.span.Span.{Span}
use Rattle.first_grammar.specs.declared.table.Word.{Word}
use Rattle.first_grammar.specs.declared.table.Word.TheVariants as w
use Rattle.first_grammar.specs.Words.{is_blank, is_start, is_part, is_reserved, Each, Blank, MarkAt, Stops, NameAt, WordAt, Stands, Scan}
use Rattle.first_grammar.specs.Spells.{Begins}
use Rattle.first_rename.specs.Names.{IsPlainName}
use Rattle.first_rename.specs.Edits.{patched}
use Rattle.first_rename.proofs.Stretches.{After, order, earlier, empty_range, Rest, rest_length, past, front_range, front_get, Copied, Reached, copy}

mark_order : (c : ℕ) (s : List ℕ) (b e : ℕ) → MarkAt c s b e → (b ≤ e) × (e ≤ length s)
mark_order c s b e h = (omega (arith, h.end), omega (arith, h.within, h.end))

pub stands_order : (s : List ℕ) (word : Word) (b e : ℕ) → Stands s word b e → (b ≤ e) × (e ≤ length s)
stands_order s w.End b e h = (omega (arith, h.1), omega (arith, h.0, h.1))
stands_order s w.Name b e h = (omega (arith, h.name.rest.order), h.name.rest.within)
stands_order s w.Reserved b e h = (omega (arith, h.name.rest.order), h.name.rest.within)
stands_order s w.OpenParen b e h = mark_order 40 s b e h
stands_order s w.CloseParen b e h = mark_order 41 s b e h
stands_order s w.Comma b e h = mark_order 44 s b e h
stands_order s w.Dot b e h = mark_order 46 s b e h
stands_order s w.Semicolon b e h = mark_order 59 s b e h
stands_order s w.Assign b e h = mark_order 61 s b e h
stands_order s w.Other b e h = absurd h

pub scan_order : (s : List ℕ) (i : ℕ) (word : Word) (b e : ℕ) → Scan s i word b e → i ≤ e
scan_order s i word b e h = let o = stands_order s word b e h.stands in omega (arith, h.blank.order, o.0)

either : (x y : Bool) → (x || y) ≡ true → (x ≡ true) ⊎ (y ≡ true)
either true y e = inl refl
either false y e = inr e

or_true : (x y : Bool) → x ≡ true → (x || y) ≡ true
or_true true y e = refl
or_true false y e = cc

start_no_blank : (c : ℕ) (b : Bool) → is_blank c ≡ b → is_start c ≡ true → b ≡ false
start_no_blank c false e f = refl
start_no_blank c true e f = elim (either (c == 32) (c == 10) e) [
  | inl h ↦ let is : c ≡ 32 = eqb-true _ _ h in absurd (let g : is_start 32 ≡ true = subst (λ z. is_start z ≡ true) is f in cc)
  | inr h ↦ let is : c ≡ 10 = eqb-true _ _ h in absurd (let g : is_start 10 ≡ true = subst (λ z. is_start z ≡ true) is f in cc)
]

pub start_not_blank : (c : ℕ) → is_start c ≡ true → is_blank c ≡ false
start_not_blank c e = start_no_blank c _ refl e

start_of_part : (c : ℕ) (b : Bool) → is_start c ≡ b → is_part c ≡ false → b ≡ false
start_of_part c false e f = refl
start_of_part c true e f = absurd (let g : is_part c ≡ true = or_true _ _ e in cc (g, f))

pub part_no_start : (c : ℕ) → is_part c ≡ false → is_start c ≡ false
part_no_start c e = start_of_part c _ refl e

pub no_blank : (s : List ℕ) (i : ℕ) → i ≤ length s → Blank s i i
no_blank s i le = record { order = omega arith; within = le; bytes = λ k lo hi. absurd (omega (arith, lo, hi)) }

-- a node that begins here begins after no blanks
pub no_blank_before : (s : List ℕ) (i b : ℕ) → Blank s i b → Begins false s i → b ≡ i
no_blank_before s i b bl n = elim (eq-or-lt_of_le bl.order) [
  | inl same ↦ sym same
  | inr lt ↦ absurd (let t : is_blank (slice_index s i) ≡ true = bl.bytes i (omega arith) lt in let u = n.1 in cc (t, u))
]

module _ (s new out : List ℕ) (plain : IsPlainName new) where
  each_copied : (test : ℕ → Bool) (i k p q x y x' y' : ℕ) → Copied s out i k p q → i ≤ x → y ≤ k → x' + i ≡ x + p → y' + i ≡ y + p → Each test s x y → Each test out x' y'
  each_copied test i k p q x y x' y' c lo hi ex ey h = record {
    order = omega (arith, h.order, ex, ey);
    within = omega (arith, c.within, c.shift, ey, hi);
    bytes =
        λ m' from to.
        let m = (m' + i) - p in
        let e : m' + i ≡ m + p = omega (arith, from, ex, lo) in
        let a : x ≤ m = omega (arith, from, ex, e) in
        let b : m < y = omega (arith, to, ey, e) in
        subst (λ v. IsTrue (test v)) (sym (c.bytes m m' (omega (arith, lo, a)) (omega (arith, hi, b)) e)) (h.bytes m a b);
  }

  mark_copied : (c b e p q : ℕ) → Copied s out b e p q → MarkAt c s b e → MarkAt c out p q
  mark_copied c b e p q g h = record {
    within = omega (arith, g.within, g.shift, h.end);
    is = g.bytes b p (omega arith) (omega (arith, h.end)) (omega arith) ∙ h.is;
    end = omega (arith, g.shift, h.end);
  }

  -- at the end of the source is the end of the patched text
  pub at_end : (j p : ℕ) (es : List Span) → j ≡ length s → After s j es → Rest out p (patched s new j es) → p ≡ length out
  at_end j p [] end h r = let n = rest_length out p (drop j s) r in let z = length-drop j s in omega (arith, n, z, end)
  at_end j p (e ∷ es) end h r = absurd (omega (arith, end, h.0, h.1))

  -- no stretch begins with a byte that begins no name
  later : (j : ℕ) (es : List Span) → After s j es → j < length s → is_start (slice_index s j) ≡ false → After s (j + 1) es
  later j [] h lt not = (omega (arith, lt), h.1)
  later j (e ∷ es) h lt not = elim (eq-or-lt_of_le h.0) [
    | inl same ↦ absurd (let f : is_start (slice_index s j) ≡ true = subst (λ z. is_start (slice_index s z) ≡ true) (sym same) h.2 in cc (f, not))
    | inr less ↦ (omega (arith, less), h.1, h.2, h.3, h.4)
  ]

  stops_copied : (j p : ℕ) (es : List Span) → After s j es → Stops is_part s j → Rest out p (patched s new j es) → Stops is_part out p
  stops_copied j p es h st r = elim (eq-or-lt_of_le (order s j (length s) es h).0) [
    | inl end ↦ inl (at_end j p es end h r)
    | inr lt ↦ elim st [
      | inl end ↦ absurd (omega (arith, lt, end))
      | inr not ↦
          let c = (copy s new out j (j + 1) p es (omega arith) (later j es h lt (part_no_start (slice_index s j) not)) r).is in
          inr (subst (λ v. is_part v ≡ false) (sym (c.bytes j p (omega arith) (omega arith) (omega arith))) not)
    ]
  ]

  name_copied : (b e p q : ℕ) (es : List Span) → Copied s out b e p q → After s e es → Rest out q (patched s new e es) → NameAt s b e → NameAt out p q
  name_copied b e p q es c h r n = record {
    first = subst (λ v. is_start v ≡ true) (sym (c.bytes b p (omega arith) (omega (arith, n.rest.order)) (omega arith))) n.first;
    rest = each_copied is_part b e p q (b + 1) e (p + 1) q c (omega arith) (omega arith) (omega arith) (omega (arith, c.shift)) n.rest;
    last = stops_copied e q es h n.last r;
  }

  word_copied : (reserved : Bool) (b e p q : ℕ) (es : List Span) → Copied s out b e p q → After s e es → Rest out q (patched s new e es) → WordAt reserved s b e → WordAt reserved out p q
  word_copied reserved b e p q es c h r n = record { name = name_copied b e p q es c h r n.name; reserved_or_not = ap is_reserved c.range ∙ n.reserved_or_not }

  token_copied : (word : Word) (b e p q : ℕ) (es : List Span) → Copied s out b e p q → After s e es → Rest out q (patched s new e es) → Stands s word b e → Stands out word p q
  token_copied w.End b e p q es c h r t = (let z = at_end e q es (t.1 ∙ t.0) h r in omega (arith, z, t.1, c.shift), omega (arith, t.1, c.shift))
  token_copied w.Name b e p q es c h r t = word_copied false b e p q es c h r t
  token_copied w.Reserved b e p q es c h r t = word_copied true b e p q es c h r t
  token_copied w.OpenParen b e p q es c h r t = mark_copied 40 b e p q c t
  token_copied w.CloseParen b e p q es c h r t = mark_copied 41 b e p q c t
  token_copied w.Comma b e p q es c h r t = mark_copied 44 b e p q c t
  token_copied w.Dot b e p q es c h r t = mark_copied 46 b e p q c t
  token_copied w.Semicolon b e p q es c h r t = mark_copied 59 b e p q c t
  token_copied w.Assign b e p q es c h r t = mark_copied 61 b e p q c t
  token_copied w.Other b e p q es c h r t = absurd t

  -- blanks stand in the patched text as in the source
  pub blank_moved : (i b p : ℕ) (es : List Span) → Blank s i b → After s b es → Rest out p (patched s new i es) → Reached s new out (λ q. Blank out p q) b es
  blank_moved i b p es bl h r =
      let c = copy s new out i b p es bl.order h r in
      record { to = c.to; is = each_copied is_blank i b p c.to i b p c.to c.is (omega arith) (omega arith) (omega arith) (omega (arith, c.is.shift)) bl; rest = c.rest }

  -- a token after blanks, and the text of it
  pub record Token (word : Word) (b e p q : ℕ) : Type 0 where
    pub start : ℕ
    pub scan : Scan out p word start q
    pub text : slice_range out start q ≡ slice_range s b e

  pub scan_moved : (word : Word) (i b e p : ℕ) (es : List Span) → Scan s i word b e → After s e es → Rest out p (patched s new i es) → Reached s new out (λ q. Token word b e p q) e es
  scan_moved word i b e p es sc h r =
      let o = stands_order s word b e sc.stands in
      let m = blank_moved i b p es sc.blank (earlier s b e (length s) es o.0 h) r in
      let c = copy s new out b e m.to es o.0 h m.rest in
      record { to = c.to; is = record { start = m.to; scan = record { blank = m.is; stands = token_copied word b e m.to c.to es c.is h c.rest sc.stands }; text = c.is.range }; rest = c.rest }

  -- the new name in the place of another
  pub name_put : (j p : ℕ) (es : List Span) → After s j es → Stops is_part s j → Rest out p (new ++ patched s new j es) → WordAt false out p (p + length new)
  name_put j p es h st r =
      let n = rest_length out p (new ++ patched s new j es) r in
      let m = length-append new (patched s new j es) in
      let z : p + 0 ≡ p = omega arith in
      record {
        name = record {
          first = subst (λ v. is_start (slice_index out v) ≡ true) z (subst (λ v. is_start v ≡ true) (sym (front_get out p new (patched s new j es) 0 r plain.some)) plain.first);
          rest = record {
            order = omega (arith, plain.some);
            within = omega (arith, n, m);
            bytes =
                λ k lo hi.
                let d : k - p < length new = omega (arith, lo, hi) in
                let here : p + (k - p) ≡ k = omega (arith, lo) in
                subst (λ v. is_part (slice_index out v) ≡ true) here (subst (λ v. is_part v ≡ true) (sym (front_get out p new (patched s new j es) (k - p) r d)) (plain.rest (k - p) d));
          };
          last = stops_copied j (p + length new) es h st (past out p new (patched s new j es) r);
        };
        reserved_or_not = ap is_reserved (front_range out p new (patched s new j es) r) ∙ plain.free;
      }

  nonblank_moved : (i p : ℕ) (es : List Span) → Begins false s i → After s i es → Rest out p (patched s new i es) → Begins false out p
  nonblank_moved i p [] b h r =
      let c = (copy s new out i (i + 1) p [] (omega arith) (omega (arith, b.0), h.1) r).is in
      (omega (arith, c.within, c.shift), subst (λ v. is_blank v ≡ false) (sym (c.bytes i p (omega arith) (omega arith) (omega arith))) b.1)
  nonblank_moved i p (e ∷ es) b h r = elim (eq-or-lt_of_le h.0) [
    | inl same ↦
        let two : Rest out p (new ++ patched s new e.end es) = subst (λ v. Rest out p (v ++ (new ++ patched s new e.end es))) (ap (λ x. slice_range s i x) (sym same) ∙ empty_range s i) r in
        let n = rest_length out p (new ++ patched s new e.end es) two in
        let m = length-append new (patched s new e.end es) in
        let z : p + 0 ≡ p = omega arith in (
          omega (arith, n, m, plain.some),
          start_not_blank (slice_index out p)
              (subst (λ v. is_start (slice_index out v) ≡ true) z (subst (λ v. is_start v ≡ true) (sym (front_get out p new (patched s new e.end es) 0 two plain.some)) plain.first)),
        )
    | inr less ↦
        let c = (copy s new out i (i + 1) p (e ∷ es) (omega arith) (omega (arith, less), h.1, h.2, h.3, h.4) r).is in
        (omega (arith, c.within, c.shift), subst (λ v. is_blank v ≡ false) (sym (c.bytes i p (omega arith) (omega arith) (omega arith))) b.1)
  ]

  pub begins_moved : (whole : Bool) (i p : ℕ) (es : List Span) → Begins whole s i → After s i es → Rest out p (patched s new i es) → Begins whole out p
  begins_moved true i p es b h r = tt
  begins_moved false i p es b h r = nonblank_moved i p es b h r
