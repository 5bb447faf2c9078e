-- Rows without numbers and place names.
use Rattle.std.proofs.Common.{◌≡◌, ◌<◌, ◌+◌, ℕ, true, false, List, [], ◌∷◌, ◌++◌, map, Option, Some, None, refl, sym, ◌∙◌, ap, arith, append_assoc, append-nil}
use Rattle.std.proofs.lemmas.List.{map-append}
use Rattle.tree_core.specs.declared.scalars.Scalar.{Scalar}
use Rattle.tree_core.specs.declared.tree.PlaceName.{PlaceName}
use Rattle.tree_core.specs.Syntax.{Syntax, node, Slots, no_slots, slot, Places, no_places, hole, place}
use Rattle.std.specs.Prelude.{max}
use Rattle.tree_core.specs.View.{Spot, Row, slots_of, places_of}
use Rattle.tree_core.specs.Bare.{bare, bare_slots, bare_places}
use Rattle.tree_core.specs.Height.{height, slots_height, places_height}
use Rattle.first_grammar.specs.declared.table.Kind.{Kind}
use Rattle.first_grammar.specs.Table.{node_kind, fixed}
use Rattle.first_grammar.specs.Spells.{bare_notes, node_of, one, all}
use Rattle.first_grammar.specs.Reading.{Read}

abbrev pub bare_spot : Spot → Spot
bare_spot (name, None) = (None, None)
bare_spot (name, Some x) = (None, Some (bare x))

abbrev pub bare_spots : List Spot → List Spot
bare_spots xs = map bare_spot xs

abbrev pub bare_row : Row → Row
bare_row row = (row.0, bare_places row.1)

abbrev pub bare_rows : List Row → List Row
bare_rows rows = map bare_row rows

abbrev pub spots_height : List Spot → ℕ
spots_height xs = places_height (places_of xs)

abbrev pub rows_height : List Row → ℕ
rows_height rows = slots_height (slots_of rows)

places_bare : (xs : List Spot) → bare_places (places_of xs) ≡ places_of (bare_spots xs)
places_bare [] = refl
places_bare ((name, None) ∷ xs) = ap (λ z. hole None z) (places_bare xs)
places_bare ((name, Some x) ∷ xs) = ap (λ z. place None (bare x) z) (places_bare xs)

slots_bare : (rows : List Row) → bare_slots (slots_of rows) ≡ slots_of (bare_rows rows)
slots_bare [] = refl
slots_bare (row ∷ rows) = ap (λ z. slot row.0 (bare_places row.1) z) (slots_bare rows)

pub all_alike : (xs ys : List Spot) → bare_spots xs ≡ bare_spots ys → bare_row (all xs) ≡ bare_row (all ys)
all_alike xs ys e = ap (λ z. (true, z)) (places_bare xs ∙ ap places_of e ∙ sym (places_bare ys))

pub one_alike : (name other : Option PlaceName) (x y : Syntax) → bare x ≡ bare y → bare_row (one name x) ≡ bare_row (one other y)
one_alike name other x y e = ap (λ z. (false, place None z no_places)) e

pub node_alike : (kind : Kind) (scalars other : List Scalar) (rows more : List Row) (from that : Option ℕ) → scalars ≡ other → bare_rows rows ≡ bare_rows more
    → bare (node_of kind scalars rows from) ≡ bare (node_of kind other more that)
node_alike kind scalars other rows more from that e f =
    ap (λ z. node (node_kind kind) (fixed kind ++ z) (bare_slots (slots_of rows)) bare_notes None) e
    ∙ ap (λ z. node (node_kind kind) (fixed kind ++ other) z bare_notes None) (slots_bare rows ∙ ap slots_of f ∙ sym (slots_bare more))

mutual
  height_bare : (x : Syntax) → height (bare x) ≡ height x
  height_bare (node kind scalars slots notes from) = ap (λ z. 1 + z) (slots_height_bare slots)

  slots_height_bare : (slots : Slots) → slots_height (bare_slots slots) ≡ slots_height slots
  slots_height_bare no_slots = refl
  slots_height_bare (slot list places more) = ap (λ z. max z (slots_height (bare_slots more))) (places_height_bare places) ∙ ap (λ z. max (places_height places) z) (slots_height_bare more)

  places_height_bare : (places : Places) → places_height (bare_places places) ≡ places_height places
  places_height_bare no_places = refl
  places_height_bare (hole name more) = places_height_bare more
  places_height_bare (place name x more) = ap (λ z. max z (places_height (bare_places more))) (height_bare x) ∙ ap (λ z. max (height x) z) (places_height_bare more)

pub height_alike : (x y : Syntax) → bare x ≡ bare y → height x ≡ height y
height_alike x y e = sym (height_bare x) ∙ ap height e ∙ height_bare y

pub some_height : (x : Syntax) → 0 < height x
some_height (node kind scalars slots notes from) = omega arith

-- what is read is this much more, up to numbers and place names
pub record Adds (r : Read) (scalars : List Scalar) (rows : List Row) (new : Read) : Type 0 where
  pub scalars_are : new.0 ≡ r.0 ++ scalars
  pub rows_are : bare_rows new.1 ≡ bare_rows r.1 ++ bare_rows rows

pub adds_none : (r : Read) → Adds r [] [] r
adds_none r = record { scalars_are = sym (append-nil r.0); rows_are = sym (append-nil (bare_rows r.1)) }

pub adds_scalar : (r : Read) (v : Scalar) → Adds r (v ∷ []) [] (r.0 ++ v ∷ [], r.1)
adds_scalar r v = record { scalars_are = refl; rows_are = sym (append-nil (bare_rows r.1)) }

pub adds_row : (r : Read) (row like : Row) → bare_row row ≡ bare_row like → Adds r [] (like ∷ []) (r.0, r.1 ++ row ∷ [])
adds_row r row like e = record { scalars_are = sym (append-nil r.0); rows_are = map-append bare_row r.1 (row ∷ []) ∙ ap (λ z. bare_rows r.1 ++ z ∷ []) e }

pub adds_through : (r new last : Read) (n scalars : List Scalar) (ss rows : List Row) → Adds r n ss new → Adds new scalars rows last → Adds r (n ++ scalars) (ss ++ rows) last
adds_through r new last n scalars ss rows a b = record {
  scalars_are = b.scalars_are ∙ ap (λ z. z ++ scalars) a.scalars_are ∙ append_assoc r.0 n scalars;
  rows_are = b.rows_are ∙ ap (λ z. z ++ bare_rows rows) a.rows_are ∙ append_assoc (bare_rows r.1) (bare_rows ss) (bare_rows rows) ∙ ap (λ z. bare_rows r.1 ++ z) (sym (map-append bare_row ss rows));
}

pub spots_last : (found : List Spot) (name : Option PlaceName) (u x : Syntax) → bare u ≡ bare x → bare_spots (found ++ (None, Some u) ∷ []) ≡ bare_spots found ++ bare_spots ((name, Some x) ∷ [])
spots_last found name u x e = map-append bare_spot found ((None, Some u) ∷ []) ∙ ap (λ z. bare_spots found ++ (None, Some z) ∷ []) e

pub spots_more : (found xs : List Spot) (name : Option PlaceName) (u x : Syntax) → bare u ≡ bare x → bare_spots (found ++ (None, Some u) ∷ []) ++ bare_spots xs ≡ bare_spots found ++ bare_spots ((name, Some x) ∷ xs)
spots_more found xs name u x e = ap (λ z. z ++ bare_spots xs) (spots_last found name u x e) ∙ append_assoc (bare_spots found) (bare_spots ((name, Some x) ∷ [])) (bare_spots xs)
