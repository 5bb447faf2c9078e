-- What a walk over the children of a node has told of their comments.
use Rattle.std.proofs.Common.{◌≡◌, ℕ, zero, suc, ◌-◌, ◌<◌, ◌≤◌, List, [], ◌++◌, Option, length, map, drop, refl, sym, ap, ◌∙◌, append_assoc, arith}
use Rattle.std.proofs.lemmas.List.{append-nil, drop_all}
use Rattle.tree_core.specs.Syntax.{Syntax}
use Rattle.comment_places.specs.declared.children.Child.{Child}
use Rattle.comment_places.specs.declared.seating.Seat.{Seat}
use Rattle.js_forms.specs.declared.category.Category.{Category}
use Rattle.tree_forms.specs.declared.variant.Variant.{Variant}
use Rattle.comment_places.specs.Children.{kid_view, children}
use Rattle.tree_forms.specs.Choice.{form}
use Rattle.comment_places.specs.Seats.{At, Around, of_kids, end_of, of_tree, of_form, inside, seats_in}

pub seats_more : (n : ℕ) (category : Category) (steps : List ℕ) (sides : Around) (x : Syntax) → 0 < n → seats_in n category steps sides x ≡ of_form (seats_in (n - 1)) steps sides x (form category x)
seats_more zero category steps sides x h = absurd (omega arith)
seats_more (suc n) category steps sides x h = let e : suc n - 1 ≡ n = omega arith in rw e refl

-- what the whole walk has told, with the comments inside the node behind it
pub told_all : (n : ℕ) (category : Category) (steps : List ℕ) (sides : Around) (x : Syntax) (v : Option Variant) → 0 < n → v ≡ form category x → (xs : List Child) → map kid_view xs ≡ children v x
    → (at gap : ℕ) → length xs ≤ at → (old now done : List Seat) (end : At)
    → now ++ of_kids (seats_in (n - 1)) v steps sides gap (map kid_view (drop at xs)) ≡ old ++ of_kids (seats_in (n - 1)) v steps sides 0 (map kid_view xs)
    → end_of v steps sides end gap (map kid_view (drop at xs)) ≡ end_of v steps sides (record { steps = steps; gap = 0 }) 0 (map kid_view xs)
    → done ≡ now ++ inside v x end → done ≡ old ++ seats_in n category steps sides x
told_all n category steps sides x v h f xs k at gap le old now done end a e d =
    let T = seats_in (n - 1) in
    let K = of_kids T v steps sides 0 (map kid_view xs) in
    let start : At = record { steps = steps; gap = 0 } in
    let last = end_of v steps sides start 0 (map kid_view xs) in
    let none : drop at xs ≡ [] = drop_all at xs le in
    let told : now ≡ old ++ K = sym (append-nil now) ∙ (ap (λ z. now ++ of_kids T v steps sides gap (map kid_view z)) (sym none) ∙ a) in
    let ended : end ≡ last = ap (λ z. end_of v steps sides end gap (map kid_view z)) (sym none) ∙ e in
    let whole : K ++ inside v x last ≡ seats_in n category steps sides x =
    ap (of_tree T v steps sides x) k ∙ (ap (of_form T steps sides x) f ∙ sym (seats_more n category steps sides x h)) in
    d ∙ (ap (λ z. z ++ inside v x end) told ∙ (ap (λ z. (old ++ K) ++ inside v x z) ended ∙ (append_assoc old K (inside v x last) ∙ ap (λ z. old ++ z) whole)))
