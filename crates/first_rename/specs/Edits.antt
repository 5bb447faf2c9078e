-- A text in which stretches give way to a name.
use Rattle.std.specs.Prelude.{◌≡◌, ◌≤◌, ℕ, if◌then◌else◌, List, [], ◌∷◌, ◌++◌, Option, Some, None, length, drop, slice_range, slice_get}
use Rattle.tree_core.specs.declared.span.Span.{Span}
use Rattle.tree_core.specs.Syntax.{Syntax, node, Slots, no_slots, slot, Places, no_places, hole, place}
use Rattle.first_grammar.specs.declared.table.Category.{Category}
use Rattle.first_grammar.specs.Spells.{Said, At, Spells}
use Rattle.first_rename.specs.Names.{is_named}

abbrev pub known : Option Span → List Span
known None = []
known (Some span) = span ∷ []

-- the stretch of the node of this number, where it has one
abbrev pub stretch : List Span → Option ℕ → List Span
stretch spans None = []
stretch spans (Some n) = known (slice_get spans n)

abbrev mutual
  -- where the identifiers of this name stand, from left to right
  pub edits : List ℕ → List Span → Syntax → List Span
  edits name spans (node kind scalars slots notes from) = (if is_named name kind scalars then stretch spans from else []) ++ slot_edits name spans slots

  pub slot_edits : List ℕ → List Span → Slots → List Span
  slot_edits name spans no_slots = []
  slot_edits name spans (slot list places more) = place_edits name spans places ++ slot_edits name spans more

  pub place_edits : List ℕ → List Span → Places → List Span
  place_edits name spans no_places = []
  place_edits name spans (hole _ more) = place_edits name spans more
  place_edits name spans (place _ t more) = edits name spans t ++ place_edits name spans more

-- the stretches follow each other from an offset on
abbrev pub Ordered : List ℕ → ℕ → List Span → Type 0
Ordered s at [] = at ≤ length s
Ordered s at (e ∷ es) = (at ≤ e.start) × (e.start ≤ length s) × Ordered s e.end es

-- the text from an offset on, with `new` in the place of each stretch
abbrev pub patched : List ℕ → List ℕ → ℕ → List Span → List ℕ
patched s new at [] = drop at s
patched s new at (e ∷ es) = slice_range s at e.start ++ (new ++ patched s new e.end es)

-- wherever the source spells this very node, `out` has the bytes of that stretch in its place
abbrev pub Keeps : List ℕ → List Span → List ℕ → Said
Keeps s spans out t p q = (i j : ℕ) (c : Category) (l : ℕ) → Spells (At spans) s i j c l t → slice_range out p q ≡ slice_range s i j
