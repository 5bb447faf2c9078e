-- A copied row, as the method makes it.
use Rattle.std.proofs.Common.{◌≡◌, sym, ◌∙◌, ap, subst, ℕ, ◌-◌, ◌<◌, ◌≤◌, None, length, arith}
use Rattle.type_defs.specs.declared.kind.Kind.{Kind}
use Rattle.type_defs.specs.Fields.{scalar_count}
use Rattle.node_arena.specs.declared.copies.Mark.{Mark}
use Rattle.node_arena.specs.Forest.{IsRoot, Linked, linked_of, make_of, node_at, put_of}
use Rattle.node_arena.specs.Fronts.{IsCopied, IsFront, IsGrown, front}
use Rattle.node_arena.specs.Payload.{Said, with_copy}
use Rattle.node_arena.specs.Reads.{base_at, kind_at}
use Rattle.node_arena.specs.Store.{IsStore, Store, changed, copied_in, reserved, single_count, store_of}
use Rattle.node_arena.proofs.Behind.{front_put, front_row}
use Rattle.node_arena.proofs.Fronts.{take_within}
use Rattle.node_arena.proofs.Roots.{base_put, base_row, copied_put, copied_row}
use Rattle.node_arena.proofs.Stores.{store_copied}

pub store_copied_on : (a b : Linked) (p q : Said) (A : Store) (node j k : ℕ) (kind : Kind) (scalars places : ℕ) → IsStore a p → store_of a p ≡ A → node < length A.forest.nodes → j ≡ node → k ≡ node → 0 < a.spare → kind ≡ kind_at a.forest j → scalars ≡ scalar_count kind → places ≡ single_count kind → q ≡ with_copy p k scalars places → b ≡ linked_of (make_of a.forest kind) (a.spare - 1) → IsStore b q
store_copied_on a b p q A node j k kind scalars places w v at first second some kinds count singles says made =
    let same : j ≡ k = first ∙ sym second in
    let within : k < length a.forest.nodes = subst (λ z. z < length a.forest.nodes) (sym second) (subst (λ (z : Store). node < length z.forest.nodes) (sym v) at) in
    store_copied a b p q k kind scalars places w within some (kinds ∙ ap (kind_at a.forest) same) count singles says made

-- a copied row in an empty place behind the mark
pub record IsPut (m : Mark) (A C : Store) (j : ℕ) : Type 0 where
  pub ok : IsCopied A C j
  pub base : m.slots ≤ base_at C.forest j
  pub front : front m C ≡ front m A

pub put_row : (m : Mark) (A B C : Store) (node to copy : ℕ) → IsFront m (front m A) → copy ≡ length A.forest.nodes → B ≡ copied_in A node → None ≡ node_at B.forest to → m.places ≤ to → C ≡ changed B (put_of B.forest to copy) → IsPut m A C copy
put_row m A B C node to copy w number row free le filled =
    let copied = copied_row A B node copy row number in
    let within = copied.within in
    let nodes = take_within m.nodes A.forest.nodes w.nodes in
    record {
      ok = copied_put A B C to copy copied filled free;
      base = subst (λ z. m.slots ≤ z) (sym (base_put B C to copy filled free within)) (base_row m A B node copy row number w);
      front = front_put m B C to copy filled free le (omega arith) ∙ front_row m A B node row w;
    }

-- What grows with each copy.
pub grown_same : (A : Store) → IsGrown A A
grown_same A = record { nodes = omega arith; places = omega arith; roots = λ i lt r. r }

pub grown_copy : (A B : Store) (j : ℕ) → IsCopied A B j → IsGrown A B
grown_copy A B j w =
    let number = w.number in
    let within = w.within in
    record { nodes = omega arith; places = w.places; roots = w.roots }

pub copied_grown : (A B C : Store) (j : ℕ) → IsCopied A B j → IsGrown B C → IsCopied A C j
copied_grown A B C j w v =
    let number = w.number in
    let within = w.within in
    let places = w.places in
    let nodes = v.nodes in
    let more = v.places in
    record { number = number; within = omega arith; places = omega arith; roots = λ i lt r. v.roots i (omega arith) (w.roots i lt r) }

pub root_grown : (A B C : Store) (j : ℕ) → IsCopied A B j → IsGrown B C → IsRoot B.forest j → IsRoot C.forest j
root_grown A B C j w v r = v.roots j w.within r

pub reserved_so : (A B : Store) (n : ℕ) → B ≡ reserved A n → B ≡ reserved A B.spare
reserved_so A B n e = e ∙ ap (reserved A) (sym (ap (λ (z : Store). z.spare) e))
