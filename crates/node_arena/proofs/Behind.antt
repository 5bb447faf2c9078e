-- Each step behind a mark leaves the rows before it.
use Rattle.std.proofs.Common.{◌≡◌, sym, ◌∙◌, ap, subst, refl, ℕ, All, ◌<◌, ◌≤◌, Bool, true, false, List, [], ◌∷◌, ◌++◌, length, take, Option, Some, None, slice_get, replicate, arith, length-append, if◌then◌else◌}
use Rattle.std.proofs.lemmas.List.{take-append-le, take-set-le}
use Rattle.std.proofs.Math.Seq.{take-length}
use Rattle.tree_core.specs.declared.tree.PlaceName.{PlaceName}
use Rattle.tree_core.specs.declared.scalars.Scalar.{Scalar}
use Rattle.type_defs.specs.declared.kind.Kind.{Kind}
use Rattle.type_defs.specs.Fields.{lists_at, scalar_count}
use Rattle.node_arena.specs.declared.copies.Mark.{Mark}
use Rattle.node_arena.specs.declared.links.Node.{Node}
use Rattle.node_arena.specs.declared.payload.Facts.{Facts}
use Rattle.node_arena.specs.Rows.{edit, new_node, standing_at}
use Rattle.node_arena.specs.Lists.{insert_after}
use Rattle.node_arena.specs.Forest.{Forest, IsLawful, IsListSlot, IsRoot, Linked, Place, Slot, at_slot, cleared, empty_place, fill_of, front_forest, given, grown, holding, insert_after_of, insert_first_of, linked_of, list_at, list_if, list_of, new_places, new_slots, node_at, owner_of, put_of, slot_at, with_kids}
use Rattle.node_arena.specs.Payload.{Said, said_of, copied_facts, scalars_from, first_in}
use Rattle.node_arena.specs.Fronts.{Grows, HasFewSlots, IsFront, IsLonger, IsNewRoot, IsRootBehind, MayGoBefore, front}
use Rattle.node_arena.specs.Reads.{kind_at}
use Rattle.node_arena.specs.Store.{IsStore, Store, changed, copied_in, placed, reserved, store_of, with_name, single_count}
use Rattle.node_arena.proofs.Edits.{edit_here}
use Rattle.node_arena.proofs.Pushes.{push_new}
use Rattle.node_arena.proofs.Fronts.{goes_before, take_edit, take_within}

abbrev front_of : Mark → List Node → List Slot → List Place → List Facts → List Scalar → List (Option PlaceName) → Store
front_of m nodes slots places facts scalars names = record { forest = record { nodes = nodes; slots = slots; places = places }; facts = facts; scalars = scalars; names = names; spare = m.spare }

take_all : {A : Type 0} → (n : ℕ) (xs : List A) → n ≡ length xs → take n xs ≡ xs
take_all n xs e = ap (λ z. take z xs) e ∙ take-length xs

abbrev store_with : List Node → List Slot → List Place → List Facts → List Scalar → List (Option PlaceName) → ℕ → Store
store_with nodes slots places facts scalars names spare = record { forest = record { nodes = nodes; slots = slots; places = places }; facts = facts; scalars = scalars; names = names; spare = spare }

-- The mark itself.
pub front_all : (m : Mark) (A : Store) → m.nodes ≡ length A.forest.nodes → m.slots ≡ length A.forest.slots → m.places ≡ length A.forest.places → m.nodes ≡ length A.facts → m.places ≡ length A.names → m.scalars ≡ length A.scalars → m.spare ≡ A.spare → front m A ≡ A
front_all m A nodes slots places facts names scalars spare =
    let F = A.forest in
    ap (λ z. store_with z (take m.slots F.slots) (take m.places F.places) (take m.nodes A.facts) (take m.scalars A.scalars) (take m.places A.names) m.spare) (take_all m.nodes F.nodes nodes)
    ∙ (ap (λ z. store_with F.nodes z (take m.places F.places) (take m.nodes A.facts) (take m.scalars A.scalars) (take m.places A.names) m.spare) (take_all m.slots F.slots slots)
    ∙ (ap (λ z. store_with F.nodes F.slots z (take m.nodes A.facts) (take m.scalars A.scalars) (take m.places A.names) m.spare) (take_all m.places F.places places)
    ∙ (ap (λ z. store_with F.nodes F.slots F.places z (take m.scalars A.scalars) (take m.places A.names) m.spare) (take_all m.nodes A.facts facts)
    ∙ (ap (λ z. store_with F.nodes F.slots F.places A.facts z (take m.places A.names) m.spare) (take_all m.scalars A.scalars scalars)
    ∙ (ap (λ z. store_with F.nodes F.slots F.places A.facts A.scalars z m.spare) (take_all m.places A.names names)
    ∙ ap (λ z. store_with F.nodes F.slots F.places A.facts A.scalars A.names z) spare)))))

pub front_kept : (m : Mark) (A B : Store) → front m B ≡ front m A → IsFront m (front m A) → IsFront m (front m B)
front_kept m A B e w = subst (IsFront m) (sym e) w

-- A node comes into an empty place.
clear_empty : (F : Forest) (p : ℕ) (o : Option ℕ) → o ≡ None → cleared F p o ≡ F
clear_empty F p o e = ap (cleared F p) e

pub front_put : (m : Mark) (A B : Store) (p j : ℕ) → B ≡ changed A (put_of A.forest p j) → None ≡ node_at A.forest p → m.places ≤ p → m.nodes ≤ j → front m B ≡ front m A
front_put m A B p j e free places nodes =
    let F = A.forest in
    let f : B ≡ changed A (fill_of F p j) = e ∙ ap (λ z. changed A (fill_of z p j)) (clear_empty F p (node_at F p) (sym free)) in
    ap (front m) f
    ∙ (ap (λ z. front_of m z (take m.slots F.slots) (take m.places (edit F.places p (holding (Some j)))) (take m.nodes A.facts) (take m.scalars A.scalars) (take m.places A.names)) (take_edit m.nodes F.nodes j (standing_at (Some p)) nodes)
    ∙ ap (λ z. front_of m (take m.nodes F.nodes) (take m.slots F.slots) z (take m.nodes A.facts) (take m.scalars A.scalars) (take m.places A.names)) (take_edit m.places F.places p (holding (Some j)) places))

-- A new place in a list.
front_grown : (m : Mark) (A B : Store) (s : ℕ) (f : List ℕ → List ℕ) → B ≡ placed A (grown A.forest s f) → m.slots ≤ s → IsFront m (front m A) → front m B ≡ front m A
front_grown m A B s f e le w =
    let F = A.forest in
    let a = take_edit m.slots F.slots s (with_kids f) le in
    let b = take-append-le m.places F.places (empty_place s ∷ []) (take_within m.places F.places w.places) in
    let none : Option PlaceName = None in
    let c = take-append-le m.places A.names (none ∷ []) (take_within m.places A.names w.names) in
    ap (front m) e
    ∙ (ap (λ z. front_of m (take m.nodes F.nodes) z (take m.places (F.places ++ empty_place s ∷ [])) (take m.nodes A.facts) (take m.scalars A.scalars) (take m.places (A.names ++ none ∷ []))) a
    ∙ (ap (λ z. front_of m (take m.nodes F.nodes) (take m.slots F.slots) z (take m.nodes A.facts) (take m.scalars A.scalars) (take m.places (A.names ++ none ∷ []))) b
    ∙ ap (λ z. front_of m (take m.nodes F.nodes) (take m.slots F.slots) (take m.places F.places) (take m.nodes A.facts) (take m.scalars A.scalars) z) c))

at_list : (F : Forest) (o : Option ℕ) (s : ℕ) (f : ℕ → Forest) → o ≡ Some s → at_slot F o f ≡ f s
at_list F o s f e = ap (λ z. at_slot F z f) e

pub front_first : (m : Mark) (A B : Store) (s : ℕ) → B ≡ placed A (insert_first_of A.forest s None) → m.slots ≤ s → IsFront m (front m A) → front m B ≡ front m A
front_first m A B s e le w = front_grown m A B s (λ xs. length A.forest.places ∷ xs) e le w

pub front_after : (m : Mark) (A B : Store) (s p : ℕ) → list_at A.forest p ≡ Some s → B ≡ placed A (insert_after_of A.forest p None) → m.slots ≤ s → IsFront m (front m A) → front m B ≡ front m A
front_after m A B s p l e le w =
    let n : ℕ = length A.forest.places in
    let f = at_list A.forest (list_at A.forest p) s (λ z. given (grown A.forest z (insert_after p n)) n None) l in
    front_grown m A B s (insert_after p n) (e ∙ ap (placed A) f) le w

-- the new place is in the list
list_on : (s : ℕ) (n : Slot) (o : Option Slot) → o ≡ Some n → n.list ≡ true → list_if s o ≡ Some s
list_on s n o e l = ap (list_if s) e ∙ ap (λ (b : Bool). if b then Some s else None) l

list_grown : (F : Forest) (s : ℕ) (f : List ℕ → List ℕ) → IsListSlot F s → list_at (grown F s f) (length F.places) ≡ Some s
list_grown F s f w =
    let q = push_new F.places (empty_place s) in
    ap (λ o. list_of (grown F s f) (owner_of o)) q ∙ list_on s (with_kids f w.slot) _ (edit_here F.slots s (with_kids f) w.slot w.is) w.list

longer_grown : (F : Forest) (s : ℕ) (f : List ℕ → List ℕ) → IsListSlot F s → IsLonger F (grown F s f) s (length F.places)
longer_grown F s f w =
    let e = length-append F.places (empty_place s ∷ []) in
    record { nodes = refl; places = omega arith; within = omega arith; last = (omega arith, list_grown F s f w) }

pub longer_first : (A B : Store) (s p : ℕ) → IsListSlot A.forest s → p ≡ length A.forest.places → B ≡ placed A (insert_first_of A.forest s None) → IsLonger A.forest B.forest s p
longer_first A B s p w e h =
    subst (IsLonger A.forest B.forest s) (sym e) (subst (λ (z : Store). IsLonger A.forest z.forest s (length A.forest.places)) (sym h) (longer_grown A.forest s (λ xs. length A.forest.places ∷ xs) w))

list_flag : (F : Forest) (s t : ℕ) (n : Slot) (b : Bool) → n.list ≡ b → slice_get F.slots t ≡ Some n → (if b then Some t else None) ≡ Some s → IsListSlot F s
list_flag F s t n true l g e = let same : t ≡ s = cc in record { slot = n; is = subst (λ z. slice_get F.slots z ≡ Some n) same g; list = l }
list_flag F s t n false l g e = absurd (cc)

list_if_some : (F : Forest) (s t : ℕ) (o : Option Slot) → slice_get F.slots t ≡ o → list_if t o ≡ Some s → IsListSlot F s
list_if_some F s t None g e = absurd (cc)
list_if_some F s t (Some n) g e = list_flag F s t n n.list refl g e

list_of_some : (F : Forest) (s : ℕ) (o : Option ℕ) → list_of F o ≡ Some s → IsListSlot F s
list_of_some F s None e = absurd (cc)
list_of_some F s (Some t) e = list_if_some F s t (slice_get F.slots t) refl e

pub longer_after : (A B : Store) (s q p : ℕ) → list_at A.forest q ≡ Some s → p ≡ length A.forest.places → B ≡ placed A (insert_after_of A.forest q None) → IsLonger A.forest B.forest s p
longer_after A B s q p l e h =
    let n : ℕ = length A.forest.places in
    let f = at_list A.forest (list_at A.forest q) s (λ z. given (grown A.forest z (insert_after q n)) n None) l in
    subst (IsLonger A.forest B.forest s) (sym e)
    (subst (λ (z : Store). IsLonger A.forest z.forest s n) (sym (h ∙ ap (placed A) f)) (longer_grown A.forest s (insert_after q n) (list_of_some A.forest s (slot_at A.forest q) l)))

-- A place gets a name.
pub front_name : (m : Mark) (A B : Store) (p : ℕ) (name : PlaceName) → B ≡ with_name A p name → m.places ≤ p → front m B ≡ front m A
front_name m A B p name e le =
    let F = A.forest in
    ap (front m) e ∙ ap (λ z. front_of m (take m.nodes F.nodes) (take m.slots F.slots) (take m.places F.places) (take m.nodes A.facts) (take m.scalars A.scalars) z) (take-set-le m.places A.names p (Some name) le)

-- A copy of a node's row.
pub front_row : (m : Mark) (A B : Store) (node : ℕ) → B ≡ copied_in A node → IsFront m (front m A) → front m B ≡ front m A
front_row m A B node e w =
    let F = A.forest in
    let kind : Kind = kind_at F node in
    let none : Option PlaceName = None in
    let nodes = F.nodes ++ new_node kind (length F.slots) ∷ [] in
    let slots = F.slots ++ new_slots (length F.nodes) (length F.places) 0 (lists_at kind) in
    let places = F.places ++ new_places (length F.slots) (lists_at kind) in
    let facts = A.facts ++ copied_facts (length A.scalars) (slice_get A.facts node) ∷ [] in
    let scalars = A.scalars ++ scalars_from A.scalars (first_in (slice_get A.facts node)) (scalar_count kind) in
    let names = A.names ++ replicate (single_count kind) none in
    ap (front m) e
    ∙ (ap (λ z. front_of m z (take m.slots slots) (take m.places places) (take m.nodes facts) (take m.scalars scalars) (take m.places names)) (take-append-le m.nodes F.nodes (new_node kind (length F.slots) ∷ []) (take_within m.nodes F.nodes w.nodes))
    ∙ (ap (λ z. front_of m (take m.nodes F.nodes) z (take m.places places) (take m.nodes facts) (take m.scalars scalars) (take m.places names)) (take-append-le m.slots F.slots (new_slots (length F.nodes) (length F.places) 0 (lists_at kind)) (take_within m.slots F.slots w.slots))
    ∙ (ap (λ z. front_of m (take m.nodes F.nodes) (take m.slots F.slots) z (take m.nodes facts) (take m.scalars scalars) (take m.places names)) (take-append-le m.places F.places (new_places (length F.slots) (lists_at kind)) (take_within m.places F.places w.places))
    ∙ (ap (λ z. front_of m (take m.nodes F.nodes) (take m.slots F.slots) (take m.places F.places) z (take m.scalars scalars) (take m.places names)) (take-append-le m.nodes A.facts (copied_facts (length A.scalars) (slice_get A.facts node) ∷ []) (take_within m.nodes A.facts w.facts))
    ∙ (ap (λ z. front_of m (take m.nodes F.nodes) (take m.slots F.slots) (take m.places F.places) (take m.nodes A.facts) z (take m.places names)) (take-append-le m.scalars A.scalars (scalars_from A.scalars (first_in (slice_get A.facts node)) (scalar_count kind)) (take_within m.scalars A.scalars w.long))
    ∙ ap (λ z. front_of m (take m.nodes F.nodes) (take m.slots F.slots) (take m.places F.places) (take m.nodes A.facts) (take m.scalars A.scalars) z) (take-append-le m.places A.names (replicate (single_count kind) none) (take_within m.places A.names w.names)))))))

-- What the mark tells at the end.
pub new_roots : (m : Mark) (A B : Store) (j : ℕ) → front m A ≡ A → IsFront m A → front m B ≡ front m A → IsLawful B.forest → m.nodes ≤ j → j < length B.forest.nodes → IsRoot B.forest j → IsNewRoot B.forest (length A.forest.nodes) (length A.forest.places) j
new_roots m A B j e w f now le lt root =
    let nodes = w.nodes in
    let old : IsLawful (front_forest m.nodes m.slots m.places B.forest) = subst (λ (z : Store). IsLawful z.forest) (sym (f ∙ e)) w.lawful in
    record {
      new = omega arith;
      within = lt;
      may = subst (λ z. MayGoBefore B.forest z j) (sym w.places) (goes_before m.nodes m.slots m.places B.forest old now j le root);
    }

pub all_new_roots : (m : Mark) (A B : Store) (xs : List ℕ) → front m A ≡ A → IsFront m A → front m B ≡ front m A → IsLawful B.forest → All (λ j. IsRootBehind m B.forest j) xs → All (λ j. IsNewRoot B.forest (length A.forest.nodes) (length A.forest.places) j) xs
all_new_roots m A B xs e w f now all = λ k d lt. let b = all k d lt in new_roots m A B _ e w f now b.new b.within b.root

pub front_reserved : (m : Mark) (A B : Store) (n : ℕ) → B ≡ reserved A n → front m B ≡ front m A
front_reserved m A B n e = ap (front m) e

pub grows_front : (m : Mark) (A B : Store) → front m A ≡ A → IsFront m A → front m B ≡ front m A → Grows A B
grows_front m A B e w f =
    let g : front m B ≡ A = f ∙ e in
    record {
      nodes = ap (λ z. take z B.forest.nodes) w.nodes ∙ ap (λ (z : Store). z.forest.nodes) g;
      slots = ap (λ z. take z B.forest.slots) w.slots ∙ ap (λ (z : Store). z.forest.slots) g;
      places = ap (λ z. take z B.forest.places) w.places ∙ ap (λ (z : Store). z.forest.places) g;
      facts = ap (λ z. take z B.facts) w.facts ∙ ap (λ (z : Store). z.facts) g;
      scalars = ap (λ z. take z B.scalars) w.long ∙ ap (λ (z : Store). z.scalars) g;
      names = ap (λ z. take z B.names) w.names ∙ ap (λ (z : Store). z.names) g;
    }

front_store : (m : Mark) (a : Linked) (p : Said) → IsFront m (front m (store_of a p)) → a.spare ≤ p.spare → m.spare ≤ a.spare → IsStore (linked_of (front_forest m.nodes m.slots m.places a.forest) m.spare) (said_of (take m.nodes p.facts) (take m.scalars p.scalars) (take m.places p.names) p.spare)
front_store m a p w le most = record { facts = w.facts ∙ sym w.nodes; names = w.names ∙ sym w.places; scalars = w.scalars; few = w.few; spare = omega arith }

-- The rows before the mark alone are an arena.
pub store_front : (m : Mark) (a b : Linked) (p q : Said) (A : Store) → store_of a p ≡ A → IsFront m (front m A) → b ≡ linked_of (front_forest m.nodes m.slots m.places a.forest) m.spare → q ≡ said_of (take m.nodes p.facts) (take m.scalars p.scalars) (take m.places p.names) p.spare → a.spare ≤ p.spare → m.spare ≤ a.spare → IsStore b q
store_front m a b p q A v w e g le most =
    subst (λ z. IsStore z q) (sym e) (subst (λ z. IsStore (linked_of (front_forest m.nodes m.slots m.places a.forest) m.spare) z) (sym g) (front_store m a p (subst (λ z. IsFront m (front m z)) (sym v) w) le most))

pub front_is : (m : Mark) (a : Linked) (p : Said) → IsStore a p → IsLawful a.forest → HasFewSlots a.forest → m.nodes ≡ length a.forest.nodes → m.slots ≡ length a.forest.slots → m.places ≡ length a.forest.places → m.scalars ≡ length p.scalars → IsFront m (store_of a p)
front_is m a p w l few nodes slots places scalars =
    let f = w.facts in
    let n = w.names in
    record {
      nodes = sym nodes;
      slots = sym slots;
      places = sym places;
      lawful = l;
      few_slots = few;
      facts = omega arith;
      names = omega arith;
      long = sym scalars;
      scalars = w.scalars;
      few = w.few;
    }
