-- The walks over lines, one offset at a time.
use Rattle.std.proofs.Common.{◌≡◌, ◌<◌, ◌+◌, ◌-◌, ℕ, zero, suc, List, true, false, None, is_some, ap, sym, ◌∙◌, refl, arith, add-one, zero-add, suc-add}
use Rattle.cm_text.specs.Lines.{line_end_at, ends_line, lines_before, line_start, first_line_end}

pub lines_before-zero : (bytes : List ℕ) → lines_before bytes 0 ≡ 0
unfolding lines_before
lines_before-zero bytes = refl

pub lines_before-at_end : (bytes : List ℕ) (at : ℕ) → ends_line bytes at ≡ true → lines_before bytes (at + 1) ≡ lines_before bytes at + 1
unfolding lines_before
lines_before-at_end bytes at ends = rw (add-one, ends) refl

pub lines_before-on_line : (bytes : List ℕ) (at : ℕ) → ends_line bytes at ≡ false → lines_before bytes (at + 1) ≡ lines_before bytes at
unfolding lines_before
lines_before-on_line bytes at on = rw (add-one, on) refl

pub ruleset counting_lines = (lines_before-zero, lines_before-at_end, lines_before-on_line)

pub line_start-zero : (bytes : List ℕ) (at : ℕ) → at ≡ 0 → line_start bytes at ≡ 0
unfolding line_start
line_start-zero bytes at first = rw first refl

pub line_start-at_end : (bytes : List ℕ) (at : ℕ) → 0 < at → ends_line bytes (at - 1) ≡ true → line_start bytes at ≡ at
unfolding line_start
line_start-at_end bytes zero some ends = absurd (omega arith)
line_start-at_end bytes (suc at) some ends =
    let back : suc at - 1 ≡ at = omega arith in
    let here = rw back at ends in
    rw here refl

pub line_start-on_line : (bytes : List ℕ) (at : ℕ) → 0 < at → ends_line bytes (at - 1) ≡ false → line_start bytes at ≡ line_start bytes (at - 1)
unfolding line_start
line_start-on_line bytes zero some on = absurd (omega arith)
line_start-on_line bytes (suc at) some on =
    let back : suc at - 1 ≡ at = omega arith in
    let here = rw back at on in
    rw (here, back) refl

pub ruleset finding_line_start = (line_start-zero, line_start-at_end, line_start-on_line)

pub first_line_end-zero : (bytes : List ℕ) → first_line_end bytes 0 ≡ None
unfolding first_line_end
first_line_end-zero bytes = refl

pub first_line_end-next : (bytes : List ℕ) (at : ℕ) → first_line_end bytes at ≡ None → first_line_end bytes (at + 1) ≡ line_end_at bytes at
unfolding first_line_end
first_line_end-next bytes at none = rw (add-one, none) refl

-- the first line end stays the first as the text goes on
pub first_line_end-more : (bytes : List ℕ) (at more : ℕ) → is_some (first_line_end bytes at) ≡ true → first_line_end bytes (more + at) ≡ first_line_end bytes at
unfolding first_line_end
first_line_end-more bytes at zero found = rw zero-add refl
first_line_end-more bytes at (suc more) found =
    let stays = first_line_end-more bytes at more found in
    rw (suc-add, stays, found) refl

-- where a line end is found with none before it, it is the first of the text
pub first_line_end-found : (bytes : List ℕ) (at end : ℕ) → first_line_end bytes at ≡ None → is_some (line_end_at bytes at) ≡ true → at < end → line_end_at bytes at ≡ first_line_end bytes end
first_line_end-found bytes at end none found before =
    let here = first_line_end-next bytes at none in
    let goes = first_line_end-more bytes (at + 1) (end - (at + 1)) (rw here found) in
    let sum : end - (at + 1) + (at + 1) ≡ end = omega arith in
    (sym here) ∙ (sym goes ∙ ap (first_line_end bytes) sum)

pub ruleset finding_first = (first_line_end-zero, first_line_end-next, first_line_end-found)
