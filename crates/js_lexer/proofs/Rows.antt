-- Rows of parts and line ends, one byte further.
use Rattle.std.proofs.Common.{◌≡◌, ◌<◌, ◌≤◌, ◌+◌, ◌-◌, ℕ, zero, suc, min, List, [], ◌∷◌, length, drop, get_or, true, false, refl, sym, ap, ◌∙◌, ⊎_elim, add-one, length-drop, arith}
use Rattle.std.specs.Prelude.{◌==◌, nat_lt}
use Rattle.std.proofs.lemmas.Bool.{lt-ltb, ne_eqb, cases_Bool}
use Rattle.std.proofs.lemmas.List.{drop_all, drop-drop, drop_min}
use Rattle.std.proofs.Math.Seq.{drop-cons}
use Rattle.js_lexer.specs.Blanks.{has_line_end}
use Rattle.js_lexer.specs.Parts.{breaks_line, row_end}

pub drop-byte : (text : List ℕ) (at : ℕ) → at < length text → drop at text ≡ get_or text at 0 ∷ drop (at + 1) text
drop-byte text at inside = rw add-one (drop-cons text at 0 inside)

pub row_end-skip : (len : List ℕ → ℕ) (skip at : ℕ) (text : List ℕ) → 0 < skip → at < length text →
    row_end len skip at (drop at text) ≡ row_end len (skip - 1) (at + 1) (drop (at + 1) text)
unfolding row_end
row_end-skip len skip at text some inside =
    let cut = drop-byte text at inside in
    let skips = lt-ltb 0 skip some in
    rw (cut, skips) refl

pub row_end-part : (len : List ℕ → ℕ) (skip at more : ℕ) (text : List ℕ) → skip ≡ 0 → at < length text → more ≡ len (drop at text) → 0 < more →
    row_end len skip at (drop at text) ≡ row_end len (more - 1) (at + 1) (drop (at + 1) text)
unfolding row_end
row_end-part len skip at more text none inside is some =
    let cut = drop-byte text at inside in
    let is_part : (len (drop at text) == 0) ≡ false = ne_eqb (len (drop at text)) 0 (λ e. absurd (omega (arith, is, e))) in
    let goes = rw cut at is_part in
    let here = rw cut at is in
    rw (none, here, cut, goes) refl

pub row_end-stop : (len : List ℕ → ℕ) (skip at : ℕ) (text : List ℕ) → skip ≡ 0 → at < length text → len (drop at text) ≡ 0 → row_end len skip at (drop at text) ≡ at
unfolding row_end
row_end-stop len skip at text none inside stops =
    let cut = drop-byte text at inside in
    let here = rw cut at stops in
    rw (none, cut, here) refl

pub row_end-done : (len : List ℕ → ℕ) (skip at : ℕ) (text : List ℕ) → length text ≤ at → row_end len skip at (drop at text) ≡ at
unfolding row_end
row_end-done len skip at text past = rw (drop_all at text past) refl

-- what is left behind a part that the end may cut off
pub drop-part : (text : List ℕ) (at more next : ℕ) → next ≡ at + min more (length text - at) → drop more (drop at text) ≡ drop next text
drop-part text at more next moved =
    let cut = drop_min more (drop at text) in
    let left = length-drop at text in
    let joined = drop-drop (min more (length text - at)) at text in
    rw moved ((sym (rw left at cut)) ∙ joined)

pub row_end-jump : (len : List ℕ → ℕ) (skip at next : ℕ) (bytes : List ℕ) → next ≡ at + min skip (length bytes) → row_end len skip at bytes ≡ row_end len 0 next (drop skip bytes)
unfolding row_end
row_end-jump len zero at next bytes moved = let here : next ≡ at = omega arith in rw here refl
row_end-jump len (suc skip) at next [] moved = let here : next ≡ at = omega arith in rw here refl
row_end-jump len (suc skip) at next (byte ∷ rest) moved =
    let skips = lt-ltb 0 (suc skip) (omega arith) in
    let back : suc skip - 1 ≡ skip = omega arith in
    rw (skips, back) (row_end-jump len skip (at + 1) next rest (omega arith))

pub row_end-shift : (len : List ℕ → ℕ) (base skip at : ℕ) (bytes : List ℕ) → row_end len skip (base + at) bytes ≡ base + row_end len skip at bytes
unfolding row_end
row_end-shift len base skip at [] = refl
row_end-shift len base skip at (byte ∷ rest) =
    let on : base + at + 1 ≡ base + (at + 1) = omega arith in
    let Shifts = row_end len skip (base + at) (byte ∷ rest) ≡ base + row_end len skip at (byte ∷ rest) in
    let inside : nat_lt 0 skip ≡ true → Shifts = λ skips. rw (skips, on) (row_end-shift len base (skip - 1) (at + 1) rest) in
    let stopped : nat_lt 0 skip ≡ false → (len (byte ∷ rest) == 0) ≡ true → Shifts = λ here stops. rw (here, stops) refl in
    let further : nat_lt 0 skip ≡ false → (len (byte ∷ rest) == 0) ≡ false → Shifts =
    λ here goes. rw (here, goes, on) (row_end-shift len base (len (byte ∷ rest) - 1) (at + 1) rest) in
    ⊎_elim inside (λ here. ⊎_elim (stopped here) (further here) (cases_Bool (len (byte ∷ rest) == 0))) (cases_Bool (nat_lt 0 skip))

pub row_end-from : (len : List ℕ → ℕ) (from : ℕ) (bytes : List ℕ) → row_end len 0 from bytes ≡ from + row_end len 0 0 bytes
row_end-from len from bytes = let flat : from + 0 ≡ from = omega arith in rw flat at (row_end-shift len from 0 0 bytes)

-- a whole part further
pub row_end-next : (len : List ℕ → ℕ) (at more next : ℕ) (text : List ℕ) → at < length text → more ≡ len (drop at text) → 0 < more → next ≡ at + min more (length text - at) →
    row_end len 0 at (drop at text) ≡ row_end len 0 next (drop next text)
row_end-next len at more next text inside is some moved =
    let left = length-drop at text in
    row_end-part len 0 at more text refl inside is some
    ∙ (sym (row_end-skip len more at text some inside)
    ∙ (row_end-jump len more at next (drop at text) (rw left moved)
    ∙ ap (row_end len 0 next) (drop-part text at more next moved)))

pub ruleset walking_rows = (row_end-skip, row_end-part, row_end-stop, row_end-done)

pub has_line_end-next : (text : List ℕ) (at : ℕ) → at < length text → breaks_line (drop at text) ≡ false → has_line_end (drop at text) ≡ has_line_end (drop (at + 1) text)
unfolding has_line_end
has_line_end-next text at inside none =
    let cut = drop-byte text at inside in
    let here = rw cut at none in
    rw (cut, here) refl

pub has_line_end-here : (text : List ℕ) (at : ℕ) → at < length text → breaks_line (drop at text) ≡ true → has_line_end (drop at text) ≡ true
unfolding has_line_end
has_line_end-here text at inside breaks =
    let cut = drop-byte text at inside in
    let here = rw cut at breaks in
    rw (cut, here) refl
