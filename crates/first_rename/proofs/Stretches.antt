-- A text in which stretches give way to a name, read from left to right.
use Rattle.std.proofs.Common.{◌≡◌, ◌≤◌, ◌<◌, ◌+◌, ◌-◌, ℕ, true, List, [], ◌∷◌, ◌++◌, length, take, drop, sym, ◌∙◌, ap, subst, arith, append_assoc, length-take-le, length-drop}
use Rattle.std.specs.Prelude.{slice_index, slice_range}
use Rattle.std.proofs.lemmas.List.{length-append, drop-drop, get_or-take, get_or-drop, get_or_append_left}
use Rattle.std.proofs.lemmas.List.Folds.{drop_split}
use Rattle.std.proofs.Math.Seq.{take-add, take-append_seam as take_seam, drop-append_seam as drop_seam}
use Rattle.tree_core.specs.declared.span.Span.{Span}
use Rattle.first_grammar.specs.Words.{is_start}
use Rattle.first_rename.specs.Edits.{Ordered, patched}

-- the stretches follow each other from i to j, and each begins as a name does
abbrev pub Between : List ℕ → ℕ → ℕ → List Span → Type 0
Between s i j [] = (i ≤ j) × (j ≤ length s)
Between s i j (e ∷ es) = (i ≤ e.start) × (e.start < length s) × (is_start (slice_index s e.start) ≡ true) × (e.start ≤ e.end) × Between s e.end j es

-- they follow each other from i on
abbrev pub After : List ℕ → ℕ → List Span → Type 0
After s i es = Between s i (length s) es

pub order : (s : List ℕ) (i j : ℕ) (es : List Span) → Between s i j es → (i ≤ j) × (j ≤ length s)
order s i j [] h = h
order s i j (e ∷ es) h = let o = order s e.end j es h.4 in (omega (arith, h.0, h.3, o.0), o.1)

pub earlier : (s : List ℕ) (i k j : ℕ) (es : List Span) → i ≤ k → Between s k j es → Between s i j es
earlier s i k j [] le h = (omega (arith, le, h.0), h.1)
earlier s i k j (e ∷ es) le h = (omega (arith, le, h.0), h.1, h.2, h.3, h.4)

pub between_both : (s : List ℕ) (i k j : ℕ) (ds es : List Span) → Between s i k ds → Between s k j es → Between s i j (ds ++ es)
between_both s i k j [] es g h = earlier s i k j es g.0 h
between_both s i k j (d ∷ ds) es g h = (g.0, g.1, g.2, g.3, between_both s d.end k j ds es g.4 h)

pub ordered : (s : List ℕ) (i : ℕ) (es : List Span) → After s i es → Ordered s i es
ordered s i [] h = h.0
ordered s i (e ∷ es) h = (h.0, omega (arith, h.1), ordered s e.end es h.4)

pub range_split : (s : List ℕ) (i k m : ℕ) → i ≤ k → k ≤ m → slice_range s i m ≡ slice_range s i k ++ slice_range s k m
range_split s i k m le lm =
    let n : m - i ≡ (k - i) + (m - k) = omega (arith, le, lm) in
    let e : i + (k - i) ≡ k = omega (arith, le) in
    ap (λ x. take x (drop i s)) n ∙ (take-add (k - i) (m - k) (drop i s) ∙ ap (λ l. slice_range s i k ++ take (m - k) l) (drop-drop (k - i) i s ∙ ap (λ x. drop x s) e))

-- the text up to where no stretch begins yet
pub split : (s new : List ℕ) (i k : ℕ) (es : List Span) → i ≤ k → After s k es → patched s new i es ≡ slice_range s i k ++ patched s new k es
split s new i k [] le h = drop_split s i k le
split s new i k (e ∷ es) le h = ap (λ l. l ++ (new ++ patched s new e.end es)) (range_split s i k e.start le h.0) ∙ append_assoc (slice_range s i k) (slice_range s k e.start) (new ++ patched s new e.end es)

pub range_length : (s : List ℕ) (i k : ℕ) → i ≤ k → k ≤ length s → length (slice_range s i k) ≡ k - i
range_length s i k le lm = length-take-le (k - i) (drop i s) (omega (arith, length-drop i s, le, lm))

pub range_get : (s : List ℕ) (i k m : ℕ) → m < k - i → slice_index (slice_range s i k) m ≡ slice_index s (i + m)
range_get s i k m lt = get_or-take (k - i) (drop i s) m 0 lt ∙ get_or-drop i s m 0

pub empty_range : (s : List ℕ) (i : ℕ) → slice_range s i i ≡ []
empty_range s i = let e : i - i ≡ 0 = omega arith in ap (λ n. take n (drop i s)) e

-- the bytes w are all that stands in the text from p on
pub record Rest (out : List ℕ) (p : ℕ) (w : List ℕ) : Type 0 where
  pub within : p ≤ length out
  pub is : drop p out ≡ w

pub rest_length : (out : List ℕ) (p : ℕ) (w : List ℕ) → Rest out p w → length out ≡ p + length w
rest_length out p w r = let a = length-drop p out in let b = ap length r.is in let c = r.within in omega (arith, a, b, c)

pub past : (out : List ℕ) (p : ℕ) (w a : List ℕ) → Rest out p (w ++ a) → Rest out (p + length w) a
past out p w a r =
    let n = rest_length out p (w ++ a) r in
    let m = length-append w a in
    record { within = omega (arith, n, m); is = sym (drop-drop (length w) p out) ∙ (ap (λ l. drop (length w) l) r.is ∙ drop_seam w a) }

-- what stands first in the rest
pub front_range : (out : List ℕ) (p : ℕ) (w a : List ℕ) → Rest out p (w ++ a) → slice_range out p (p + length w) ≡ w
front_range out p w a r =
    let n : (p + length w) - p ≡ length w = omega arith in
    ap (λ x. take x (drop p out)) n ∙ (ap (λ l. take (length w) l) r.is ∙ take_seam w a)

pub front_get : (out : List ℕ) (p : ℕ) (w a : List ℕ) (m : ℕ) → Rest out p (w ++ a) → m < length w → slice_index out (p + m) ≡ slice_index w m
front_get out p w a m r lt = sym (get_or-drop p out m 0) ∙ (ap (λ l. slice_index l m) r.is ∙ get_or_append_left w a 0 m lt)

-- the bytes of s from i to k stand in out from p to q
pub record Copied (s out : List ℕ) (i k p q : ℕ) : Type 0 where
  pub shift : q + i ≡ p + k
  pub order : i ≤ k
  pub source : k ≤ length s
  pub within : q ≤ length out
  pub range : slice_range out p q ≡ slice_range s i k
  pub bytes : (m m' : ℕ) → i ≤ m → m < k → m' + i ≡ m + p → slice_index out m' ≡ slice_index s m

-- what holds up to where the text goes on as the patched text does from k
pub record Reached (s new out : List ℕ) (T : ℕ → Type 0) (k : ℕ) (es : List Span) : Type 0 where
  pub to : ℕ
  pub is : T to
  pub rest : Rest out to (patched s new k es)

pub copy : (s new out : List ℕ) (i k p : ℕ) (es : List Span) → i ≤ k → After s k es → Rest out p (patched s new i es) → Reached s new out (λ q. Copied s out i k p q) k es
copy s new out i k p es le h r =
    let within = (order s k (length s) es h).0 in
    let w = slice_range s i k in
    let n : length w ≡ k - i = range_length s i k le within in
    let two : Rest out p (w ++ patched s new k es) = subst (λ v. Rest out p v) (split s new i k es le h) r in
    let on = past out p w (patched s new k es) two in
    record {
      to = p + length w;
      is = record {
        shift = omega (arith, n, le);
        order = le;
        source = within;
        within = on.within;
        range = front_range out p w (patched s new k es) two;
        bytes =
            λ m m' lo hi e.
            let d : m - i < k - i = omega (arith, lo, hi) in
            let here : m' ≡ p + (m - i) = omega (arith, lo, e) in
            let there : i + (m - i) ≡ m = omega (arith, lo) in
            ap (λ x. slice_index out x) here
            ∙ (front_get out p w (patched s new k es) (m - i) two (subst (λ x. m - i < x) (sym n) d) ∙ (range_get s i k (m - i) d ∙ ap (λ x. slice_index s x) there));
      };
      rest = on;
    }
