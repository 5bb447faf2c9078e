-- Trees in which the identifiers of one name have another.
use Rattle.std.specs.Prelude.{◌≡◌, ◌<◌, ℕ, ◌+◌, Bool, true, false, ◌&&◌, if◌then◌else◌, List, [], ◌∷◌, length, slice_index}
use Rattle.std.specs.Str.{bytes_eq}
use Rattle.tree_core.specs.declared.scalars.Scalar.{Scalar}
use Rattle.tree_core.specs.declared.scalars.Scalar.TheVariants.{Text}
use Rattle.tree_core.specs.Syntax.{Syntax, node, Slots, no_slots, slot, Places, no_places, hole, place}
use Rattle.type_defs.specs.declared.kind.Kind.{Kind}
use Rattle.type_defs.specs.declared.kind.Kind.TheVariants.{Identifier}
use Rattle.first_grammar.specs.Words.{is_start, is_part, is_reserved}

abbrev pub is_text : List ℕ → Scalar → Bool
is_text name (Text w) = bytes_eq w name
is_text name _ = false

abbrev pub is_identifier : Kind → Bool
is_identifier Identifier = true
is_identifier kind = false

-- the scalars are this name alone
abbrev pub is_name : List ℕ → List Scalar → Bool
is_name name (x ∷ []) = is_text name x
is_name name _ = false

-- a node of this kind and these scalars is an identifier of this name
abbrev pub is_named : List ℕ → Kind → List Scalar → Bool
is_named name kind scalars = is_identifier kind && is_name name scalars

abbrev mutual
  -- the tree in which each identifier named `old` is named `new`
  pub renamed : List ℕ → List ℕ → Syntax → Syntax
  renamed old new (node kind scalars slots notes from) = node kind (if is_named old kind scalars then Text new ∷ [] else scalars) (renamed_slots old new slots) notes from

  pub renamed_slots : List ℕ → List ℕ → Slots → Slots
  renamed_slots old new no_slots = no_slots
  renamed_slots old new (slot list places more) = slot list (renamed_places old new places) (renamed_slots old new more)

  pub renamed_places : List ℕ → List ℕ → Places → Places
  renamed_places old new no_places = no_places
  renamed_places old new (hole name more) = hole name (renamed_places old new more)
  renamed_places old new (place name t more) = place name (renamed old new t) (renamed_places old new more)

abbrev mutual
  -- how many identifiers have this name
  pub count_of : List ℕ → Syntax → ℕ
  count_of name (node kind scalars slots notes from) = (if is_named name kind scalars then 1 else 0) + count_slots name slots

  pub count_slots : List ℕ → Slots → ℕ
  count_slots name no_slots = 0
  count_slots name (slot list places more) = count_places name places + count_slots name more

  pub count_places : List ℕ → Places → ℕ
  count_places name no_places = 0
  count_places name (hole _ more) = count_places name more
  count_places name (place _ t more) = count_of name t + count_places name more

-- the bytes are a name and no reserved word
pub record IsPlainName (w : List ℕ) : Type 0 where
  pub some : 0 < length w
  pub first : is_start (slice_index w 0) ≡ true
  pub rest : (k : ℕ) → k < length w → is_part (slice_index w k) ≡ true
  pub free : is_reserved w ≡ false
