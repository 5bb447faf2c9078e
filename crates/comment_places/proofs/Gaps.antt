-- The gaps beside a child, on the path to its parent.
use Rattle.std.proofs.Common.{◌≡◌, ◌≤◌, ◌∙◌, ℕ, Bool, true, false, List, [], ◌∷◌, ◌++◌, Option, length, take, refl, sym, ap, append_assoc, arith}
use Rattle.std.specs.Prelude.{if◌then◌else◌}
use Rattle.std.proofs.Math.Seq.{take-length}
use Rattle.std.proofs.lemmas.List.{take-append-le}
use Rattle.tree_core.specs.declared.comment.Comment.{Comment}
use Rattle.tree_forms.specs.declared.variant.Variant.{Variant}
use Rattle.comment_places.specs.declared.seating.Gap.{Gap}
use Rattle.comment_places.specs.declared.seating.Sides.{Sides}
use Rattle.comment_places.specs.declared.seating.Turn.{Turn}
use Rattle.comment_places.specs.Children.{Kid, next}
use Rattle.comment_places.specs.declared.seating.Seat.{Seat}
use Rattle.comment_places.specs.Seats.{At, Around, around, rises, falls, gap_view, sides_view, has_leads, has_trails, notes_of, of_kid, seats_at, seats_in}

abbrev at_steps : List ℕ → ℕ → At
at_steps steps gap = record { steps = steps; gap = gap }

one_gap : (up : Bool) (path : List ℕ) (outer : Gap) (gap : ℕ) → gap_view path (if up then outer else record { depth = length path; gap = gap }) ≡ (if up then gap_view path outer else record { steps = path; gap = gap })
one_gap true path outer gap = refl
one_gap false path outer gap = ap (λ (steps : List ℕ). at_steps steps gap) (take-length path)

abbrev with_sides : At → At → Around
with_sides one two = record { before = one; behind = two }

pair : (one two three four : At) → one ≡ two → three ≡ four → ◌≡◌ {A = Around} (record { before = one; behind = three }) (record { before = two; behind = four })
pair one two three four a b =
    let first : ◌≡◌ {A = Around} (record { before = one; behind = three }) (record { before = two; behind = three }) = ap (λ (z : At). with_sides z three) a in
    first ∙ ap (λ (z : At). with_sides two z) b

pub around_is : (v : Option Variant) (path : List ℕ) (here : ℕ) (sides : Sides) (turn : Turn) (kid : Kid) (one two : Gap) → here ≡ length path
    → one ≡ (if rises v turn kid then sides.before else record { depth = here; gap = turn.gap })
    → two ≡ (if falls v turn kid then sides.behind else record { depth = here; gap = next turn.gap })
    → sides_view path (record { before = one; behind = two }) ≡ around v path (sides_view path sides) turn kid
around_is v path here sides turn kid one two is a b =
    pair _ _ _ _ (ap (gap_view path) (rw is at a) ∙ one_gap (rises v turn kid) path sides.before turn.gap) (ap (gap_view path) (rw is at b) ∙ one_gap (falls v turn kid) path sides.behind (next turn.gap))

-- one more step changes no gap above it
pub same_sides : (path more : List ℕ) (sides : Sides) → sides.before.depth ≤ length path → sides.behind.depth ≤ length path → sides_view (path ++ more) sides ≡ sides_view path sides
same_sides path more sides a b =
    pair _ _ _ _ (ap (λ (steps : List ℕ). at_steps steps sides.before.gap) (take-append-le sides.before.depth path more a))
    (ap (λ (steps : List ℕ). at_steps steps sides.behind.gap) (take-append-le sides.behind.depth path more b))

-- the path is the same again without its last step
pub same_path : (old pushed below new : List ℕ) (n here : ℕ) → here ≡ length old → pushed ≡ old ++ n ∷ [] → below ≡ pushed → new ≡ take here below → new ≡ old
same_path old pushed below new n here a b d e =
    let front : take (length old) (old ++ n ∷ []) ≡ old = take-append-le (length old) old (n ∷ []) (omega arith) ∙ take-length old in
    e ∙ (ap (λ (m : ℕ). take m below) a ∙ (ap (λ (q : List ℕ). take (length old) q) (d ∙ b) ∙ front))

-- the comments before a child, in it and behind it
pub kid_told : (d : ℕ) (v : Option Variant) (p pushed s z : List ℕ) (beside : Sides) (turn : Turn) (kid : Kid) (old one two three : List Seat) (leads trails : Bool) (lead trail : List Comment)
    → s ≡ p → z ≡ p → pushed ≡ p ++ kid.number ∷ [] → beside.before.depth ≤ length p → beside.behind.depth ≤ length p
    → leads ≡ has_leads v turn kid.tree → trails ≡ has_trails v turn kid.tree → lead ≡ (notes_of kid.tree).lead → trail ≡ (notes_of kid.tree).trail
    → one ≡ old ++ (if leads then seats_at (gap_view s beside.before) lead else [])
    → two ≡ one ++ seats_in d kid.category pushed (sides_view pushed beside) kid.tree
    → three ≡ two ++ (if trails then seats_at (gap_view z beside.behind) trail else [])
    → three ≡ old ++ of_kid (seats_in d) v p (sides_view p beside) turn kid
kid_told d v p pushed s z beside turn kid old one two three leads trails lead trail es ez ep hb he a b l t x y w =
    let before : List Seat = if has_leads v turn kid.tree then seats_at (gap_view p beside.before) (notes_of kid.tree).lead else [] in
    let inner : List Seat = seats_in d kid.category (p ++ kid.number ∷ []) (sides_view p beside) kid.tree in
    let after : List Seat = if has_trails v turn kid.tree then seats_at (gap_view p beside.behind) (notes_of kid.tree).trail else [] in
    let first : one ≡ old ++ before = rw (es, a, l) at x in
    let sides : sides_view pushed beside ≡ sides_view p beside = ap (λ (q : List ℕ). sides_view q beside) ep ∙ same_sides p (kid.number ∷ []) beside hb he in
    let second : two ≡ one ++ inner = y ∙ (ap (λ (k : Around). one ++ seats_in d kid.category pushed k kid.tree) sides ∙ ap (λ (q : List ℕ). one ++ seats_in d kid.category q (sides_view p beside) kid.tree) ep) in
    let third : three ≡ two ++ after = rw (ez, b, t) at w in
    third ∙ (ap (λ (k : List Seat). k ++ after) second ∙ (ap (λ (k : List Seat). (k ++ inner) ++ after) first ∙ (append_assoc (old ++ before) inner after ∙ append_assoc old before (inner ++ after))))
