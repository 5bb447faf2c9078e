-- Line ends, one byte further.
use Rattle.std.proofs.Common.{◌≡◌, ◌<◌, ◌+◌, ℕ, List, ◌∷◌, length, drop, get_or, false, refl, add-one}
use Rattle.std.proofs.Math.Seq.{drop-cons}
use Rattle.js_lexer.specs.Blanks.{has_line_end}
use Rattle.js_lexer.specs.Parts.{breaks_line}

drop-byte : (text : List ℕ) (at : ℕ) → at < length text → drop at text ≡ get_or text at 0 ∷ drop (at + 1) text
drop-byte text at inside = rw add-one (drop-cons text at 0 inside)

pub has_line_end-next : (text : List ℕ) (at : ℕ) → at < length text → breaks_line (drop at text) ≡ false → has_line_end (drop at text) ≡ has_line_end (drop (at + 1) text)
unfolding has_line_end
has_line_end-next text at inside none =
    let cut = drop-byte text at inside in
    let here = rw cut at none in
    rw (cut, here) refl
