-- How many nodes and places there are after a change.
use Rattle.std.proofs.Common.{◌≡◌, ◌≢◌, ◌∙◌, refl, ℕ, ◌+◌, ◌≤◌, List, [], ◌∷◌, length, Option, Some, None, arith, length-append}
use Rattle.type_defs.specs.declared.kind.Kind.{Kind}
use Rattle.type_defs.specs.Fields.{lists_at}
use Rattle.node_arena.specs.Rows.{new_node, standing_at}
use Rattle.node_arena.specs.Lists.{insert_after}
use Rattle.node_arena.specs.Forest.{Forest, at_slot, clear_of, cleared, empty_place, grown, holding, insert_after_of, insert_first_of, list_at, make_of, new_places, node_at, put_of}
use Rattle.node_arena.proofs.Edits.{length_edit}

nodes_cleared : (F : Forest) (p : ℕ) (o : Option ℕ) → length (cleared F p o).nodes ≡ length F.nodes
nodes_cleared F p None = refl
nodes_cleared F p (Some j) = length_edit F.nodes j (standing_at None)

places_cleared : (F : Forest) (p : ℕ) (o : Option ℕ) → length (cleared F p o).places ≡ length F.places
places_cleared F p None = refl
places_cleared F p (Some j) = length_edit F.places p (holding None)

pub put_nodes : (F : Forest) (p j : ℕ) → length (put_of F p j).nodes ≡ length F.nodes
put_nodes F p j = length_edit (clear_of F p).nodes j (standing_at (Some p)) ∙ nodes_cleared F p (node_at F p)

pub put_places : (F : Forest) (p j : ℕ) → length (put_of F p j).places ≡ length F.places
put_places F p j = length_edit (clear_of F p).places p (holding (Some j)) ∙ places_cleared F p (node_at F p)

pub make_nodes : (F : Forest) (kind : Kind) → length (make_of F kind).nodes ≡ length F.nodes + 1
make_nodes F kind = length-append F.nodes (new_node kind (length F.slots) ∷ [])

pub make_places : (F : Forest) (kind : Kind) → length F.places ≤ length (make_of F kind).places
make_places F kind = let e = length-append F.places (new_places (length F.slots) (lists_at kind)) in omega arith

pub first_places : (F : Forest) (s : ℕ) → length (insert_first_of F s None).places ≡ length F.places + 1
first_places F s = length-append F.places (empty_place s ∷ [])

at_nodes : (F : Forest) (o : Option ℕ) (f : ℕ → List ℕ → List ℕ) → (at_slot F o (λ s. grown F s (f s))).nodes ≡ F.nodes
at_nodes F None f = refl
at_nodes F (Some s) f = refl

at_places : (F : Forest) (o : Option ℕ) (f : ℕ → List ℕ → List ℕ) → o ≢ None → length (at_slot F o (λ s. grown F s (f s))).places ≡ length F.places + 1
at_places F None f n = absurd (n refl)
at_places F (Some s) f n = length-append F.places (empty_place s ∷ [])

pub after_nodes : (F : Forest) (p : ℕ) → (insert_after_of F p None).nodes ≡ F.nodes
after_nodes F p = at_nodes F (list_at F p) (λ _. insert_after p (length F.places))

pub after_places : (F : Forest) (p : ℕ) → list_at F p ≢ None → length (insert_after_of F p None).places ≡ length F.places + 1
after_places F p n = at_places F (list_at F p) (λ _. insert_after p (length F.places)) n
