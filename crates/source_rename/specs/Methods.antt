-- Methods whose kind is not the one of their key (ESTree, MethodDefinition; ECMA-262, clause 15.7.1).
use Rattle.std.specs.Prelude.{ℕ, ◌+◌, Bool, true, false, ◌&&◌, ◌==◌, if◌then◌else◌, List, [], ◌∷◌, Option, Some, None, min, not, length, slice_get, codes}
use Rattle.std.specs.Str.{bytes_eq}
use Rattle.std.specs.Global.{Vec}
use Rattle.tree_core.specs.declared.scalars.Scalar.{Scalar}
use Rattle.tree_core.specs.declared.scalars.Scalar.TheVariants.{Truth}
use Rattle.tree_core.specs.Syntax.{Syntax, node, Slots, no_slots, slot, Places, no_places, hole, place}
use Rattle.tree_core.specs.View.{Row}
use Rattle.type_defs.specs.declared.kind.Kind.{Kind}
use Rattle.type_defs.specs.declared.kind.Kind.TheVariants.{MethodDefinition}
use Rattle.first_rename.specs.Names.{is_named, is_text}

abbrev pub steps_of : Option (Vec ℕ) → Option (List ℕ)
steps_of None = None
steps_of (Some steps) = Some steps.items

-- the kind that a method of an instance may not have, whose key is this name
abbrev pub wrong_kind : List ℕ → List ℕ
wrong_kind new = if bytes_eq new (codes "constructor") then codes "method" else codes "constructor"

abbrev pub is_text_at : List ℕ → Option Scalar → Bool
is_text_at text None = false
is_text_at text (Some scalar) = is_text text scalar

abbrev pub is_false : Scalar → Bool
is_false (Truth truth) = not truth
is_false _ = false

abbrev pub is_false_at : Option Scalar → Bool
is_false_at None = false
is_false_at (Some scalar) = is_false scalar

-- the scalars of a method of this kind, whose key is neither static nor computed
abbrev pub is_wrong : List ℕ → List Scalar → Bool
is_wrong kind scalars = (((length scalars == 3) && is_text_at kind (slice_get scalars 0)) && is_false_at (slice_get scalars 1)) && is_false_at (slice_get scalars 2)

abbrev pub tree_named : List ℕ → Syntax → Bool
tree_named name (node kind scalars slots notes from) = is_named name kind scalars

-- the first place holds an identifier of this name
abbrev pub first_named : List ℕ → Places → Bool
first_named name (place _ t _) = tree_named name t
first_named name _ = false

-- the slot holds an identifier of this name
abbrev pub holds_named : List ℕ → Row → Bool
holds_named name row = if row.0 then false else first_named name row.1

-- the first slot holds an identifier of this name
abbrev pub key_named : List ℕ → Slots → Bool
key_named name no_slots = false
key_named name (slot list places more) = holds_named name (list, places)

abbrev pub is_method : Kind → Bool
is_method MethodDefinition = true
is_method kind = false

-- a method that is no longer of the kind of its key once that is renamed
abbrev pub is_bad : List ℕ → List ℕ → Syntax → Bool
is_bad old new (node kind scalars slots notes from) = (is_method kind && is_wrong (wrong_kind new) scalars) && key_named old slots

-- the number of the child behind this one; none has one above the largest step
abbrev pub next : ℕ → ℕ
next n = min (n + 1) 4294967295

abbrev pub behind : ℕ → Places → ℕ
behind n no_places = n
behind n (hole _ more) = behind (next n) more
behind n (place _ t more) = behind (next n) more

-- the first of two searches, or else the other
abbrev pub first_of : Option (List ℕ) → Option (List ℕ) → Option (List ℕ)
first_of None other = other
first_of (Some steps) _ = Some steps

abbrev pub below : ℕ → Option (List ℕ) → Option (List ℕ)
below n None = None
below n (Some steps) = Some (n ∷ steps)

abbrev mutual
  -- the address of the first such method in preorder, from the tree down
  pub bad_method : List ℕ → List ℕ → Syntax → Option (List ℕ)
  bad_method old new (node kind scalars slots notes from) = if is_bad old new (node kind scalars slots notes from) then Some [] else bad_slots old new 0 slots

  pub bad_slots : List ℕ → List ℕ → ℕ → Slots → Option (List ℕ)
  bad_slots old new n no_slots = None
  bad_slots old new n (slot list places more) = first_of (bad_places old new n places) (bad_slots old new (behind n places) more)

  pub bad_places : List ℕ → List ℕ → ℕ → Places → Option (List ℕ)
  bad_places old new n no_places = None
  bad_places old new n (hole _ more) = bad_places old new (next n) more
  bad_places old new n (place _ t more) = first_of (below n (bad_method old new t)) (bad_places old new (next n) more)
