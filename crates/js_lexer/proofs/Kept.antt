-- The comments among blanks, one byte further.
use Rattle.std.proofs.Common.{◌≡◌, ◌<◌, ◌≤◌, ◌+◌, ◌-◌, ℕ, zero, suc, min, List, [], ◌∷◌, ◌++◌, length, drop, true, false, refl, ap, sym, ◌∙◌, append_assoc, append-nil, length-drop, arith}
use Rattle.std.specs.Prelude.{◌==◌, slice_index}
use Rattle.std.proofs.lemmas.Bool.{lt-ltb, ne_eqb, eqb-true, and_parts}
use Rattle.std.proofs.lemmas.List.{drop_all}
use Rattle.tree_core.specs.declared.span.Span.{Span}
use Rattle.js_lexer.proofs.Rows.{drop-byte, drop-part}
use Rattle.js_tokens.specs.Characters.{first_char}
use Rattle.js_lexer.specs.Blanks.{blank_len, comment_len}
use Rattle.js_lexer.specs.Cursors.{comment_at, comments_from}
use Rattle.js_lexer.specs.Parts.{has_byte}

pub comments_from-skip : (skip at : ℕ) (text : List ℕ) → 0 < skip → at < length text →
    comments_from skip at (drop at text) ≡ comments_from (skip - 1) (at + 1) (drop (at + 1) text)
unfolding comments_from
comments_from-skip skip at text some inside =
    let cut = drop-byte text at inside in
    let skips = lt-ltb 0 skip some in
    rw (cut, skips) refl

pub comments_from-blank : (skip at more : ℕ) (text : List ℕ) → skip ≡ 0 → at < length text → more ≡ blank_len (drop at text) → 0 < more →
    comments_from skip at (drop at text) ≡ comment_at at (drop at text) ++ comments_from (more - 1) (at + 1) (drop (at + 1) text)
unfolding comments_from
comments_from-blank skip at more text none inside is some =
    let cut = drop-byte text at inside in
    let is_blank : (blank_len (drop at text) == 0) ≡ false = ne_eqb (blank_len (drop at text)) 0 (λ e. absurd (omega (arith, is, e))) in
    let goes = rw cut at is_blank in
    let here = rw cut at is in
    rw (none, here, cut, goes) refl

pub comments_from-stop : (skip at : ℕ) (text : List ℕ) → skip ≡ 0 → at < length text → blank_len (drop at text) ≡ 0 → comments_from skip at (drop at text) ≡ []
unfolding comments_from
comments_from-stop skip at text none inside stops =
    let cut = drop-byte text at inside in
    let here = rw cut at stops in
    rw (none, cut, here) refl

pub comments_from-done : (skip at : ℕ) (text : List ℕ) → length text ≤ at → comments_from skip at (drop at text) ≡ []
unfolding comments_from
comments_from-done skip at text past = rw (drop_all at text past) refl

comments_from-jump : (skip at next : ℕ) (bytes : List ℕ) → next ≡ at + min skip (length bytes) → comments_from skip at bytes ≡ comments_from 0 next (drop skip bytes)
unfolding comments_from
comments_from-jump zero at next bytes moved = let here : next ≡ at = omega arith in rw here refl
comments_from-jump (suc skip) at next [] moved = refl
comments_from-jump (suc skip) at next (byte ∷ rest) moved =
    let skips = lt-ltb 0 (suc skip) (omega arith) in
    let back : suc skip - 1 ≡ skip = omega arith in
    rw (skips, back) (comments_from-jump skip (at + 1) next rest (omega arith))

-- a whole blank or comment further
pub comments_from-next : (at more next : ℕ) (text : List ℕ) → at < length text → more ≡ blank_len (drop at text) → 0 < more → next ≡ at + min more (length text - at) →
    comments_from 0 at (drop at text) ≡ comment_at at (drop at text) ++ comments_from 0 next (drop next text)
comments_from-next at more next text inside is some moved =
    let left = length-drop at text in
    let jumps = sym (comments_from-skip more at text some inside)
    ∙ (comments_from-jump more at next (drop at text) (rw left moved)
    ∙ ap (comments_from 0 next) (drop-part text at more next moved)) in
    comments_from-blank 0 at more text refl inside is some ∙ ap (λ z. comment_at at (drop at text) ++ z) jumps

-- a comment is the blank that begins with its byte, and no other blank is one
pub slash_len : (rest : List ℕ) → has_byte rest 0 0x2F ≡ true → blank_len rest ≡ comment_len rest
unfolding blank_len first_char
slash_len rest slash =
    let is = eqb-true (slice_index rest 0) 0x2F ((and_parts _ _ slash).1) in
    rw is refl

pub no_comment : (at : ℕ) (rest : List ℕ) → has_byte rest 0 0x2F ≡ false → comment_at at rest ≡ []
unfolding comment_at comment_len
no_comment at rest other = rw other refl

-- what is kept where the blanks end
pub kept-stop : (kept more total : List Span) → kept ++ more ≡ total → more ≡ [] → kept ≡ total
kept-stop kept more total so_far none = sym (append-nil kept) ∙ (ap (λ z. kept ++ z) (sym none) ∙ so_far)

-- what is kept once one more is
pub kept-more : (kept here next more left total : List Span) → kept ++ left ≡ total → left ≡ here ++ more → next ≡ kept ++ here → next ++ more ≡ total
kept-more kept here next more left total so_far splits added =
    ap (λ z. z ++ more) added ∙ (append_assoc kept here more ∙ (ap (λ z. kept ++ z) (sym splits) ∙ so_far))

pub ruleset keeping_comments = (comments_from-stop, comments_from-done)
