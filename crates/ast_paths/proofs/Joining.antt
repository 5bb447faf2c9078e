-- What may go into a place of a list may go in beside it, and the new place is behind all others.
use Rattle.std.proofs.Common.{◌≡◌, ◌≢◌, ◌+◌, ◌≤◌, ◌∙◌, ap, refl, ℕ, Bool, true, false, List, [], ◌∷◌, Option, Some, None, slice_get, length, arith, length-append, if◌then◌else◌, ◌==◌}
use Rattle.node_arena.proofs.Edits.{length_edit}
use Rattle.node_arena.specs.Lists.{insert_after, insert_before}
use Rattle.node_arena.proofs.Pushes.{push_new}
use Rattle.node_arena.specs.Reads.{kind_at, kind_in, slot_state, state_at, state_in}
use Rattle.node_arena.specs.declared.state.PlaceState.TheVariants.{Root, Single, Listed, Out}
use Rattle.ast_paths.specs.Paths.{is_listed}
use Rattle.node_arena.specs.Rows.{new_node, standing_at}
use Rattle.type_defs.specs.declared.kind.Kind.{Kind}
use Rattle.type_defs.specs.Fields.{lists_at}
use Rattle.node_arena.specs.Forest.{Forest, JoinsAt, MayGo, MayJoin, Place, Slot, at_slot, empty_place, given, grown, holding, insert_after_of, insert_before_of, insert_first_of, list_at, list_if, list_of, make_of, new_places, owner_of, slot_at}

truth_list : (b : Bool) (s t : ℕ) → (if b then Some s else None) ≡ Some t → s ≡ t
truth_list true s t h = cc
truth_list false s t h = absurd (cc)

slot_list : (s t : ℕ) (o : Option Slot) → list_if s o ≡ Some t → s ≡ t
slot_list s t None h = absurd (cc)
slot_list s t (Some n) h = truth_list n.list s t h

owner_list : (F : Forest) (o : Option ℕ) (t : ℕ) → list_of F o ≡ Some t → o ≡ Some t
owner_list F None t h = absurd (cc)
owner_list F (Some s) t h = ap Some (slot_list s t (slice_get F.slots s) h)

place_row : (o : Option Place) (s : ℕ) → owner_of o ≡ Some s → (q : Place) × (o ≡ Some q) × (q.owner ≡ Some s)
place_row None s h = absurd (cc)
place_row (Some q) s h = (q, refl, h)

may_join : (F : Forest) (p j s : ℕ) → list_at F p ≡ Some s → MayGo F p j → MayJoin F s j
may_join F p j s e m =
    let row = place_row (slice_get F.places p) s (owner_list F (slot_at F p) s e) in
    record {
      root = m.root;
      apart = λ n is under. m.apart (record { node = n.node; under = under; at = record { place = row.0; is = row.1; number = s; owner = row.2; slot = n; slot_is = is; node = refl } });
    }

joins_in : (F : Forest) (p j : ℕ) (o : Option ℕ) → list_at F p ≡ o → MayGo F p j → JoinsAt F o (Some j)
joins_in F p j None e m = tt
joins_in F p j (Some s) e m = may_join F p j s e m

-- a root that does not hold a place goes in beside it
pub joins_beside : (F : Forest) (p j : ℕ) → MayGo F p j → JoinsAt F (list_at F p) (Some j)
joins_beside F p j m = joins_in F p j (list_at F p) refl m

none_in : (F : Forest) (o : Option ℕ) → JoinsAt F o None
none_in F None = tt
none_in F (Some s) = tt

-- an empty place goes in anywhere
pub joins_none : (F : Forest) (p : ℕ) → JoinsAt F (list_at F p) None
joins_none F p = none_in F (list_at F p)

given_nodes : (F : Forest) (p : ℕ) (node : Option ℕ) → length (given F p node).nodes ≡ length F.nodes
given_nodes F p None = refl
given_nodes F p (Some j) = length_edit F.nodes j (standing_at (Some p))

given_places : (F : Forest) (p : ℕ) (node : Option ℕ) → length (given F p node).places ≡ length F.places
given_places F p None = refl
given_places F p (Some j) = length_edit F.places p (holding (Some j))

long_grown : (F : Forest) (s : ℕ) (f : List ℕ → List ℕ) → length (grown F s f).places ≡ length F.places + 1
long_grown F s f = length-append F.places (empty_place s ∷ [])

nodes_at : (F : Forest) (o node : Option ℕ) (f : List ℕ → List ℕ) → length (at_slot F o (λ s. given (grown F s f) (length F.places) node)).nodes ≡ length F.nodes
nodes_at F None _ f = refl
nodes_at F (Some s) node f = given_nodes (grown F s f) (length F.places) node

places_at : (F : Forest) (o node : Option ℕ) (f : List ℕ → List ℕ) → o ≢ None → length (at_slot F o (λ s. given (grown F s f) (length F.places) node)).places ≡ length F.places + 1
places_at F None _ f h = absurd (h refl)
places_at F (Some s) node f h = given_places (grown F s f) (length F.places) node ∙ long_grown F s f

pub nodes_after : (F : Forest) (p : ℕ) (node : Option ℕ) → length (insert_after_of F p node).nodes ≡ length F.nodes
nodes_after F p node = nodes_at F (list_at F p) node (insert_after p (length F.places))

pub nodes_before : (F : Forest) (p : ℕ) (node : Option ℕ) → length (insert_before_of F p node).nodes ≡ length F.nodes
nodes_before F p node = nodes_at F (list_at F p) node (insert_before p (length F.places))

pub places_after : (F : Forest) (p : ℕ) (node : Option ℕ) → list_at F p ≢ None → length (insert_after_of F p node).places ≡ length F.places + 1
places_after F p node h = places_at F (list_at F p) node (insert_after p (length F.places)) h

pub places_before : (F : Forest) (p : ℕ) (node : Option ℕ) → list_at F p ≢ None → length (insert_before_of F p node).places ≡ length F.places + 1
places_before F p node h = places_at F (list_at F p) node (insert_before p (length F.places)) h

-- a new first place of a list
pub nodes_first : (F : Forest) (s : ℕ) (node : Option ℕ) → length (insert_first_of F s node).nodes ≡ length F.nodes
nodes_first F s node = given_nodes (grown F s (λ xs. length F.places ∷ xs)) (length F.places) node

pub places_first : (F : Forest) (s : ℕ) (node : Option ℕ) → length (insert_first_of F s node).places ≡ length F.places + 1
places_first F s node = given_places (grown F s (λ xs. length F.places ∷ xs)) (length F.places) node ∙ long_grown F s (λ xs. length F.places ∷ xs)

-- a new node
pub nodes_made : (F : Forest) (kind : Kind) → length (make_of F kind).nodes ≡ length F.nodes + 1
nodes_made F kind = length-append F.nodes (new_node kind (length F.slots) ∷ [])

pub places_made : (F : Forest) (kind : Kind) → length F.places ≤ length (make_of F kind).places
places_made F kind = let e = length-append F.places (new_places (length F.slots) (lists_at kind)) in omega arith

pub kind_made : (F : Forest) (kind : Kind) → kind_at (make_of F kind) (length F.nodes) ≡ kind
kind_made F kind = ap kind_in (push_new F.nodes (new_node kind (length F.slots)))

root_or_out : (b : Bool) → is_listed (if b then Root else Out) ≡ false
root_or_out true = refl
root_or_out false = refl

truth_state : (b : Bool) (s : ℕ) → (if b then Some s else None) ≡ None → is_listed (if b then Listed else Single) ≡ false
truth_state true s h = absurd (cc)
truth_state false s h = refl

slot_unlisted : (s : ℕ) (o : Option Slot) → list_if s o ≡ None → is_listed (slot_state o) ≡ false
slot_unlisted s None h = refl
slot_unlisted s (Some n) h = truth_state n.list s h

owner_unlisted : (F : Forest) (p : ℕ) (o : Option ℕ) → list_of F o ≡ None → is_listed (state_in F p o) ≡ false
owner_unlisted F p None h = root_or_out (p == 0)
owner_unlisted F p (Some s) h = slot_unlisted s (slice_get F.slots s) h

-- a place in no list is not of the state Listed
pub unlisted : (F : Forest) (p : ℕ) → list_at F p ≡ None → is_listed (state_at F p) ≡ false
unlisted F p h = owner_unlisted F p (slot_at F p) h
