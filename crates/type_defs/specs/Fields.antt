-- The fields of each kind, and what they say of its nodes' shape.
use Rattle.std.specs.Prelude.{ℕ, Bool, false, List, [], Option, Some, None, map, filter, count_by, slice_get, slice_index_or, not}
use Rattle.std.specs.Borrow.{Bor}
use Rattle.type_defs.specs.declared.kind.Kind.{Kind}
use Rattle.type_defs.specs.declared.field_defs.FieldShape.{FieldShape}
use Rattle.type_defs.specs.declared.field_table.TheConstants.{FIELDS}
use Rattle.type_defs.specs.Kinds.{place_of}

-- a field: its name, whether it is a slot, whether that is a list, and whether it is needed
pub record Field : Type 0 where
  pub name : List ℕ
  pub slot : Bool
  pub list : Bool
  pub needed : Bool

-- what code has of a field
abbrev pub FieldDef : Type 0
FieldDef = Bor (List ℕ) × FieldShape

abbrev pub row_of : FieldDef → Field
row_of f = record { name = f.0.now; slot = f.1.slot; list = f.1.list; needed = f.1.needed }

unfoldable pub field_kinds : List Kind
field_kinds = map (λ row. row.0) FIELDS.now

unfoldable pub field_lists : List (List Field)
field_lists = map (λ row. map (λ f. record { name = f.0.now; slot = f.1.slot; list = f.1.list; needed = f.1.needed }) row.1.now) FIELDS.now

-- the scalars, and then the slots in the order of the text
unfoldable pub fields_of : Kind → List Field
fields_of kind = slice_index_or field_lists (place_of kind) []

abbrev pub is_slot : Field → Bool
is_slot f = f.slot

abbrev pub is_scalar : Field → Bool
is_scalar f = not f.slot

-- how many scalars a kind has
abbrev pub scalar_count : Kind → ℕ
scalar_count kind = count_by is_scalar (fields_of kind)

-- the slots of a kind
abbrev pub slots_at : Kind → List Field
slots_at kind = filter is_slot (fields_of kind)

-- which of the slots of a kind are lists
abbrev pub lists_at : Kind → List Bool
lists_at kind = map (λ f. f.list) (slots_at kind)

abbrev pub list_some : Option Field → Bool
list_some None = false
list_some (Some f) = f.list

-- whether a slot of a kind is a list
abbrev pub is_list_at : Kind → ℕ → Bool
is_list_at kind s = list_some (slice_get (slots_at kind) s)
