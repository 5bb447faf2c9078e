-- What the first slots of a node hold.
use Rattle.std.proofs.Common.{◌≡◌, ℕ, false, ◌&&◌, List, [], ◌∷◌, map, slice_get, Some, None, refl}
use Rattle.tree_core.specs.declared.span.Span.{Span}
use Rattle.tree_core.specs.declared.tree.Slot.{Slot}
use Rattle.tree_core.specs.View.{slot_view, slots_of}
use Rattle.source_rename.specs.declared.edits.Edit.{Edit}
use Rattle.source_rename.specs.Exports.{lacks_both, is_empty, ended_slots, ended_row}

pub lacks_of : (slots : List Slot) (a b : Slot) → slice_get slots 0 ≡ Some a → slice_get slots 2 ≡ Some b → lacks_both (slots_of (map slot_view slots)) ≡ (is_empty (slot_view a) && is_empty (slot_view b))
lacks_of [] a b e f = absurd cc
lacks_of (x ∷ []) a b e f = absurd cc
lacks_of (x ∷ y ∷ []) a b e f = absurd cc
lacks_of (x ∷ y ∷ z ∷ more) a b e f = cc

pub lacks_first : (slots : List Slot) → slice_get slots 0 ≡ None → lacks_both (slots_of (map slot_view slots)) ≡ false
lacks_first [] e = refl
lacks_first (x ∷ more) e = absurd cc

pub lacks_third : (slots : List Slot) → slice_get slots 2 ≡ None → lacks_both (slots_of (map slot_view slots)) ≡ false
lacks_third [] e = refl
lacks_third (x ∷ []) e = refl
lacks_third (x ∷ y ∷ []) e = refl
lacks_third (x ∷ y ∷ z ∷ more) e = absurd cc

pub ended_first : (s : List ℕ) (spans : List Span) (slots : List Slot) (a : Slot) (es : List Edit) → slice_get slots 0 ≡ Some a
    → ended_slots s spans (slots_of (map slot_view slots)) es ≡ ended_row s spans (slot_view a) es
ended_first s spans [] a es e = absurd cc
ended_first s spans (x ∷ more) a es e = cc

pub ended_none : (s : List ℕ) (spans : List Span) (slots : List Slot) (es : List Edit) → slice_get slots 0 ≡ None → ended_slots s spans (slots_of (map slot_view slots)) es ≡ es
ended_none s spans [] es e = refl
ended_none s spans (x ∷ more) es e = absurd cc
