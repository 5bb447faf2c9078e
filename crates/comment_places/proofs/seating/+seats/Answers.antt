use Rattle.std.proofs.Common.{rules, ◌≡◌, ◌≤◌, ◌<◌, ◌+◌, ◌-◌, ◌++◌, ◌∙◌, ℕ, List, length, map, subst, sym, ap, refl, arith}
use Rattle.tree_core.specs.View.{syntax}
use Rattle.tree_forms.specs.Choice.{form}
use Rattle.comment_places.specs.Children.{kid_view}
use Rattle.comment_places.specs.Seats.{sides_view, gap_view, inside, seats_in, StandsFirst}
use Rattle.comment_places.proofs.First.{child_first}
use Rattle.comment_places.proofs.Told.{told_all}
use Rattle.comment_places.proofs.seating.+seats.Goals as goal

pub add_tree-links_at-links-requires-clause-first : goal.add_tree-links_at-links-requires-clause-first
add_tree-links_at-links-requires-clause-first t c =
    let n : c.loop-at.at < length c.in_ok-children.children.items = search rules in
    let first = child_first c.form-variant.result (syntax c.args.tree.now) c.in_ok-children.children.items c.loop-at.at c.index-child.result.now c.in_ok-children.ensures n in
    subst (λ z. StandsFirst (syntax c.args.tree.now) (kid_view z)) (sym c.index-child.ensures) first

pub add_tree-returns-clause-told : goal.add_tree-returns-clause-told
add_tree-returns-clause-told t c =
    let x = syntax c.args.tree.now in
    let v = c.form-variant.result in
    let f : v ≡ form c.args.category x = c.form-variant.ensures ∙ ap (λ z. form z x) c.place_of.ensures in
    let xs = c.in_ok-children.children.items in
    let le : length xs ≤ c.loop-at.at = search rules in
    let p = c.loop-at.path.items in
    let up : 0 < c.args.depth = omega arith in
    let done = c.in_ok-add_inner.ensures ∙ ap (λ z. c.loop-at.found ++ inside v x (gap_view z c.loop-at.end)) c.as_slice-2.ensures.value in
    let told = told_all c.args.depth c.args.category p (sides_view p c.args.sides) x v up f xs c.in_ok-children.ensures c.loop-at.at c.loop-at.gap le c.args.found.now c.loop-at.found c.add_inner.new.found (gap_view p c.loop-at.end) c.loop-at.invariant.told c.loop-at.invariant.last done in
    told ∙ ap (λ (z : List ℕ). c.args.found.now ++ seats_in c.args.depth c.args.category z (sides_view z c.args.sides) x) c.loop-at.invariant.kept
