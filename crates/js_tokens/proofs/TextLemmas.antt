-- Reading piece by piece from an offset.
use Rattle.std.proofs.Common.{◌≡◌, ◌≤◌, ◌<◌, ◌+◌, ◌-◌, ℕ, zero, suc, min, List, [], ◌∷◌, ◌++◌, length, drop, Some, None, Result, Ok, Err, refl, ap, sym, ◌∙◌, arith, append_assoc, subst, length-drop}
use Rattle.std.proofs.lemmas.List.{append-nil, drop-drop, drop_min, drop_all}
use Rattle.js_tokens.specs.Texts.{piece_units, plain_piece, cooked_piece, plain_units, cooked_units, before}
use Rattle.js_tokens.specs.declared.piece.Piece.{Piece}
use Rattle.js_tokens.specs.declared.text.Spelled.{Spelled}
use Rattle.js_tokens.specs.declared.text.Cooked.{Cooked}

drop-later : (n byte : ℕ) (bytes : List ℕ) → 0 < n → drop n (byte ∷ bytes) ≡ drop (n - 1) bytes
drop-later zero byte bytes some = absurd (omega arith)
drop-later (suc n) byte bytes some = let back : suc n - 1 ≡ n = omega arith in rw back refl

-- what is left behind a piece that the end may cut off
drop-piece : (raw : List ℕ) (at len : ℕ) → drop len (drop at raw) ≡ drop (at + min len (length raw - at)) raw
drop-piece raw at len =
    let cut = drop_min len (drop at raw) in
    let left = length-drop at raw in
    let joined = drop-drop (min len (length raw - at)) at raw in
    (sym (rw left at cut)) ∙ joined

plain-skip : (how : Spelled) (skip : ℕ) (bytes : List ℕ) → plain_units how skip bytes ≡ plain_units how 0 (drop skip bytes)
unfolding plain_units
plain-skip how zero bytes = refl
plain-skip how (suc skip) [] = refl
plain-skip how (suc skip) (byte ∷ bytes) = plain-skip how skip bytes

plain-first : (how : Spelled) (bytes : List ℕ) → 0 < length bytes → 0 < (plain_piece how bytes).len →
    plain_units how 0 bytes ≡ piece_units (plain_piece how bytes) ++ plain_units how 0 (drop (plain_piece how bytes).len bytes)
unfolding plain_units
plain-first how [] some taken = absurd (omega arith)
plain-first how (byte ∷ bytes) some taken =
    let len = (plain_piece how (byte ∷ bytes)).len in
    ap (λ rest. piece_units (plain_piece how (byte ∷ bytes)) ++ rest)
    (plain-skip how (len - 1) bytes ∙ ap (plain_units how 0) (sym (drop-later len byte bytes taken)))

pub plain_step : (how : Spelled) (raw units more : List ℕ) (at next : ℕ) (piece : Piece) →
    plain_units how 0 raw ≡ units ++ plain_units how 0 (drop at raw) → at < length raw →
    piece ≡ plain_piece how (drop at raw) → 0 < piece.len → more ≡ units ++ piece_units piece → next ≡ at + min piece.len (length raw - at) →
    plain_units how 0 raw ≡ more ++ plain_units how 0 (drop next raw)
plain_step how raw units more at next piece so_far inside is taken added moved =
    let left : 0 < length (drop at raw) = omega (arith, length-drop at raw) in
    let some : 0 < (plain_piece how (drop at raw)).len = subst (λ p. 0 < p.len) is taken in
    let first = rw (← is) at (plain-first how (drop at raw) left some) in
    let cut = drop-piece raw at piece.len in
    let joined = append_assoc units (piece_units piece) (plain_units how 0 (drop next raw)) in
    (cc)

pub plain_end : (how : Spelled) (raw units : List ℕ) (at : ℕ) →
    plain_units how 0 raw ≡ units ++ plain_units how 0 (drop at raw) → length raw ≤ at → units ≡ plain_units how 0 raw
unfolding plain_units
plain_end how raw units at so_far ended =
    let none = drop_all at raw ended in
    let whole = append-nil units in
    (sym (so_far ∙ rw none whole))

cooked-skip : (how : Cooked) (at skip next : ℕ) (bytes : List ℕ) → next ≡ at + min skip (length bytes) → cooked_units how at skip bytes ≡ cooked_units how next 0 (drop skip bytes)
unfolding cooked_units
cooked-skip how at zero next bytes moved = let here : next ≡ at = omega arith in rw here refl
cooked-skip how at (suc skip) next [] moved = refl
cooked-skip how at (suc skip) next (byte ∷ bytes) moved = cooked-skip how (at + 1) skip next bytes (omega arith)

cooked-first : (how : Cooked) (at next : ℕ) (bytes : List ℕ) (piece : Piece) →
    0 < length bytes → cooked_piece how bytes ≡ Some piece → 0 < piece.len → next ≡ at + min piece.len (length bytes) →
    cooked_units how at 0 bytes ≡ before (piece_units piece) (cooked_units how next 0 (drop piece.len bytes))
unfolding cooked_units
cooked-first how at next [] piece some is taken moved = absurd (omega arith)
cooked-first how at next (byte ∷ bytes) piece some is taken moved =
    let skipped = cooked-skip how (at + 1) (piece.len - 1) next bytes (omega arith) in
    let same = drop-later piece.len byte bytes taken in
    rw (is, skipped, same) refl

cooked-bad : (how : Cooked) (at : ℕ) (bytes : List ℕ) → 0 < length bytes → cooked_piece how bytes ≡ None → cooked_units how at 0 bytes ≡ Err at
unfolding cooked_units
cooked-bad how at [] some is = absurd (omega arith)
cooked-bad how at (byte ∷ bytes) some is = rw is refl

before-append : (first second : List ℕ) (rest : Result (List ℕ) ℕ) → before (first ++ second) rest ≡ before first (before second rest)
before-append first second (Ok more) = ap Ok (append_assoc first second more)
before-append first second (Err at) = refl

before-nil : (rest : Result (List ℕ) ℕ) → before [] rest ≡ rest
before-nil (Ok more) = refl
before-nil (Err at) = refl

pub cooked_start : (how : Cooked) (raw : List ℕ) → cooked_units how 0 0 raw ≡ before [] (cooked_units how 0 0 (drop 0 raw))
cooked_start how raw = sym (before-nil (cooked_units how 0 0 raw))

pub cooked_step : (how : Cooked) (raw units more : List ℕ) (at next : ℕ) (piece : Piece) →
    cooked_units how 0 0 raw ≡ before units (cooked_units how at 0 (drop at raw)) → at < length raw →
    cooked_piece how (drop at raw) ≡ Some piece → 0 < piece.len → more ≡ units ++ piece_units piece → next ≡ at + min piece.len (length raw - at) →
    cooked_units how 0 0 raw ≡ before more (cooked_units how next 0 (drop next raw))
cooked_step how raw units more at next piece so_far inside is taken added moved =
    let left = length-drop at raw in
    let first = cooked-first how at next (drop at raw) piece (omega arith) is taken (rw left moved) in
    let cut = drop-piece raw at piece.len in
    let joined = before-append units (piece_units piece) (cooked_units how next 0 (drop next raw)) in
    (cc)

pub cooked_stop : (how : Cooked) (raw units : List ℕ) (at : ℕ) →
    cooked_units how 0 0 raw ≡ before units (cooked_units how at 0 (drop at raw)) → at < length raw →
    cooked_piece how (drop at raw) ≡ None → cooked_units how 0 0 raw ≡ Err at
cooked_stop how raw units at so_far inside is =
    let bad = cooked-bad how at (drop at raw) (omega (arith, length-drop at raw)) is in
    so_far ∙ rw bad refl

pub cooked_end : (how : Cooked) (raw units : List ℕ) (at : ℕ) →
    cooked_units how 0 0 raw ≡ before units (cooked_units how at 0 (drop at raw)) → length raw ≤ at → cooked_units how 0 0 raw ≡ Ok units
unfolding cooked_units
cooked_end how raw units at so_far ended =
    let none = drop_all at raw ended in
    so_far ∙ rw none (ap Ok (append-nil units))
