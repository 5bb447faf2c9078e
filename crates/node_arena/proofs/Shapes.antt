-- The form of nodes and slots, which no change of places or seats touches.
use Rattle.std.proofs.Common.{◌≡◌, sym, ◌∙◌, ap, subst, refl, ℕ, ◌+◌, ◌<◌, Bool, List, length, Option}
use Rattle.type_defs.specs.declared.kind.Kind.{Kind}
use Rattle.type_defs.specs.Fields.{lists_at}
use Rattle.node_arena.specs.declared.links.Node.{Node}
use Rattle.node_arena.specs.Rows.{edit, standing_at}
use Rattle.node_arena.specs.Forest.{Slot, HasShape, HasSlot, HasBase, with_kids}
use Rattle.node_arena.proofs.Edits.{was_kept, becomes_kept}

-- all of a slot but its places
abbrev form_of : Slot → ℕ × (ℕ × Bool)
form_of n = (n.node, (n.index, n.list))

-- all of a node but where it stands
abbrev root_of : Node → Kind × ℕ
root_of m = (m.kind, m.base)

based_from : (nodes : List Node) (s : ℕ) (a b : ℕ × (ℕ × Bool)) → a ≡ b → HasBase nodes s b.0 b.1.0 → HasBase nodes s a.0 a.1.0
based_from nodes s a b e w = subst (λ z. HasBase nodes s z.0 z.1.0) (sym e) w

-- the places of a slot change
pub shape_kids : (nodes : List Node) (slots : List Slot) (s : ℕ) (f : List ℕ → List ℕ) → HasShape nodes slots → HasShape nodes (edit slots s (with_kids f))
shape_kids nodes slots s f w = record {
  slotted = λ j k m g lt.
      let h = w.slotted j k m g lt in
      let b = becomes_kept slots s (with_kids f) (m.base + k) h.slot form_of (λ x. refl) h.is in
      record { slot = b.0; is = b.1; node = ap (λ z. z.0) b.2 ∙ h.node; index = ap (λ z. z.1.0) b.2 ∙ h.index; list = ap (λ z. z.1.1) b.2 ∙ h.list };
  based = λ i n g.
      let b = was_kept slots s (with_kids f) i n form_of (λ x. refl) g in
      based_from nodes i (form_of n) (form_of b.0) b.2 (w.based i b.0 b.1);
}

slotted_from : (slots : List Slot) (j k : ℕ) (a b : Kind × ℕ) → a ≡ b → HasSlot slots j b.1 b.0 k → HasSlot slots j a.1 a.0 k
slotted_from slots j k a b e w = subst (λ z. HasSlot slots j z.1 z.0 k) (sym e) w

within_from : (k : ℕ) (a b : Kind × ℕ) → a ≡ b → k < length (lists_at a.0) → k < length (lists_at b.0)
within_from k a b e h = subst (λ z. k < length (lists_at z.0)) e h

-- a node gets another place
pub shape_seat : (nodes : List Node) (slots : List Slot) (j : ℕ) (at : Option ℕ) → HasShape nodes slots → HasShape (edit nodes j (standing_at at)) slots
shape_seat nodes slots j at w = record {
  slotted = λ y k m g lt.
      let b = was_kept nodes j (standing_at at) y m root_of (λ x. refl) g in
      slotted_from slots y k (root_of m) (root_of b.0) b.2 (w.slotted y k b.0 b.1 (within_from k (root_of m) (root_of b.0) b.2 lt));
  based = λ i n g.
      let h = w.based i n g in
      let b = becomes_kept nodes j (standing_at at) n.node h.row root_of (λ x. refl) h.is in
      record {
        row = b.0;
        is = b.1;
        number = ap (λ z. z.1 + n.index) b.2 ∙ h.number;
        within = within_from n.index (root_of h.row) (root_of b.0) (sym b.2) h.within;
      };
}
