-- Nodes with slots.
use Rattle.std.proofs.Common.{◌≡◌, ℕ, List, [], ◌∷◌, Option, map, refl, sym, subst}
use Rattle.tree_core.specs.declared.scalars.Scalar.{Scalar}
use Rattle.tree_core.specs.declared.tree.Slot.{Slot}
use Rattle.tree_core.specs.declared.span.Span.{Span}
use Rattle.tree_core.specs.declared.tree.Tree.{Tree, fold-roll-Tree}
use Rattle.tree_core.specs.Notes.{Notes}
use Rattle.tree_core.specs.Syntax.{Syntax, node}
use Rattle.tree_core.specs.View.{Row, Spot, slot_step, place_step, tree_step, slot_view, slots_of, syntax}
use Rattle.type_defs.specs.declared.kind.Kind.{Kind}
use Rattle.leaf_spellings.specs.Leaves.{LeafSpelled}

slotted : (s : List ℕ) (span : Span) (kind : Kind) (found : List Scalar) (slots : List Slot) (notes : Notes) (from : Option ℕ) → (slots ≡ [] → ⊥)
    → LeafSpelled s span (node kind found (slots_of (map slot_view slots)) notes from)
slotted s span kind found [] notes from some = absurd (some refl)
slotted s span kind found (first ∷ more) notes from some = tt

pub with_slots : (s : List ℕ) (span : Span) (tree : Tree) → (tree.slots ≡ [] → ⊥) → LeafSpelled s span (syntax tree)
with_slots s span tree some =
    let is = fold-roll-Tree Row Spot Syntax slot_step place_step tree_step (record { kind = tree.kind; scalars = tree.scalars; slots = tree.slots; notes = tree.notes; from = tree.from }) in
    subst (λ (t : Syntax). LeafSpelled s span t) (sym is) (slotted s span tree.kind tree.scalars tree.slots tree.notes tree.from some)
