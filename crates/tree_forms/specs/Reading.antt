-- What a node has: its scalars, and what stands in its slots.
use Rattle.std.specs.Prelude.{ℕ, zero, suc, ◌+◌, Bool, true, ◌&&◌, List, [], ◌∷◌, Option, Some, None, slice_get}
use Rattle.tree_core.specs.declared.scalars.Scalar.{Scalar}
use Rattle.tree_core.specs.declared.scalars.Scalar.TheVariants as scalar
use Rattle.tree_core.specs.Tests.{is_text_at, is_truth_at, is_null_at}
use Rattle.tree_core.specs.Syntax.{Syntax, node, Slots, no_slots, slot, Places, no_places, hole, place}
use Rattle.js_forms.specs.Fixed.{fixed}
use Rattle.js_forms.specs.declared.form.Form.{Form}
use Rattle.js_forms.specs.declared.piece.Piece.{Piece}
use Rattle.js_forms.specs.declared.piece.Piece.TheVariants as p
use Rattle.spelling_rules.specs.Shapes.{first_place}

-- the scalar at this number is that one
abbrev pub is_at : Scalar → Option Scalar → Bool
is_at (scalar.Text text) found = is_text_at text found
is_at (scalar.Truth truth) found = is_truth_at truth found
is_at scalar.Null found = is_null_at found

-- the scalar at this number is the one, if there is one
abbrev pub are_at : ℕ → List Scalar → List Scalar → Bool
are_at n [] found = true
are_at n (one ∷ more) found = is_at one (slice_get found n)

-- the scalars are those that the pieces of the form determine, the first of which has this number
abbrev pub begins : Form → List Piece → ℕ → List Scalar → Bool
begins _ [] n found = true
begins form (p.Scalar one ∷ more) n found = are_at n (fixed form one) found && begins form more (n + 1) found
begins _ (piece ∷ more) n found = true

abbrev pub scalars_of : Syntax → List Scalar
scalars_of (node kind scalars slots notes from) = scalars

abbrev pub child_in : ℕ → Slots → Option Syntax
child_in n no_slots = None
child_in zero (slot list first more) = first_place first
child_in (suc n) (slot list first more) = child_in n more

-- what stands in the first place of the slot of this number
abbrev pub child : ℕ → Syntax → Option Syntax
child n (node kind scalars slots notes from) = child_in n slots

abbrev pub second_place : Places → Option Syntax
second_place no_places = None
second_place (hole name more) = first_place more
second_place (place name x more) = first_place more

abbrev pub second_in : ℕ → Slots → Option Syntax
second_in n no_slots = None
second_in zero (slot list first more) = second_place first
second_in (suc n) (slot list first more) = second_in n more

-- what stands in the second place of the slot of this number
abbrev pub second_child : ℕ → Syntax → Option Syntax
second_child n (node kind found slots notes from) = second_in n slots
