-- The key of a method, which is in its first slot.
use Rattle.std.proofs.Common.{◌≡◌, ℕ, false, List, [], ◌∷◌, map, slice_get, Some, None, refl}
use Rattle.tree_core.specs.declared.tree.Slot.{Slot}
use Rattle.tree_core.specs.View.{slot_view, slots_of}
use Rattle.source_rename.specs.Methods.{key_named, holds_named}

pub key_in_first : (name : List ℕ) (slots : List Slot) (s : Slot) → slice_get slots 0 ≡ Some s → key_named name (slots_of (map slot_view slots)) ≡ holds_named name (slot_view s)
key_in_first name [] s e = absurd cc
key_in_first name (x ∷ xs) s e = cc

pub no_key : (name : List ℕ) (slots : List Slot) → slice_get slots 0 ≡ None → key_named name (slots_of (map slot_view slots)) ≡ false
no_key name [] e = refl
no_key name (x ∷ xs) e = absurd cc
