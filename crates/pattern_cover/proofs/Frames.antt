-- What lists of slots and of places have in common with those of a pattern.
use Rattle.std.proofs.Common.{◌≡◌, List, [], ◌∷◌, map, Some, None, refl, ap, sym, ◌∙◌}
use Rattle.tree_core.specs.declared.tree.Tree.{Tree, fold-roll-Tree}
use Rattle.tree_core.specs.Syntax.{Syntax, slot, hole, place}
use Rattle.tree_core.specs.View.{Spot, Row, slot_step, place_step, tree_step, syntax, slot_view, places_of, slots_of}
use Rattle.pattern_cover.specs.Frame.{frame, framed, frame_slots, frame_places, frame_row, frame_spot}

rows : (xs : List Row) → frame_slots (slots_of xs) ≡ slots_of (map frame_row xs)
rows [] = refl
rows ((list, places) ∷ xs) = ap (slot list (frame_places places)) (rows xs)

spots : (xs : List Spot) → frame_places (places_of xs) ≡ places_of (map frame_spot xs)
spots [] = refl
spots ((name, None) ∷ xs) = ap (hole name) (spots xs)
spots ((name, Some t) ∷ xs) = ap (place name (frame t)) (spots xs)

pub same_rows : (xs ys : List Row) → map frame_row xs ≡ map frame_row ys → frame_slots (slots_of xs) ≡ frame_slots (slots_of ys)
same_rows xs ys e = rows xs ∙ (ap slots_of e ∙ sym (rows ys))

pub same_spots : (xs ys : List Spot) → map frame_spot xs ≡ map frame_spot ys → frame_places (places_of xs) ≡ frame_places (places_of ys)
same_spots xs ys e = spots xs ∙ (ap places_of e ∙ sym (spots ys))

pub tree_framed : (tree : Tree) → frame (syntax tree) ≡ framed tree.from (frame_slots (slots_of (map slot_view tree.slots)))
tree_framed tree =
    ap frame (fold-roll-Tree Row Spot Syntax slot_step place_step tree_step (record { kind = tree.kind; scalars = tree.scalars; slots = tree.slots; notes = tree.notes; from = tree.from }))
