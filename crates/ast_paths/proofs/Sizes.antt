-- How many nodes and places a changed forest has.
use Rattle.std.proofs.Common.{◌≡◌, ◌∙◌, refl, ℕ, Bool, true, false, if◌then◌else◌, length, Option, Some, None}
use Rattle.node_arena.proofs.Edits.{length_edit}
use Rattle.node_arena.specs.Rows.{standing_at}
use Rattle.node_arena.specs.Forest.{Forest, at_slot, clear_of, cleared, holding, left, list_at, node_at, owned_by, put_of, reseated, unlink_of}
use Rattle.node_arena.specs.Reads.{owner_at, place_at, state_at}
use Rattle.node_arena.specs.declared.state.PlaceState.{PlaceState}
use Rattle.node_arena.specs.declared.state.PlaceState.TheVariants.{Root, Single, Listed, Out}
use Rattle.ast_paths.specs.Paths.{is_bare, prune_of, take_out_in, take_out_of, take_owner_some, take_place_of}

nodes_reseated : (F : Forest) (j p : ℕ) (at to : Option ℕ) → length (reseated F j p at to).nodes ≡ length F.nodes
nodes_reseated F j p at to = length_edit F.nodes j (standing_at at)

places_reseated : (F : Forest) (j p : ℕ) (at to : Option ℕ) → length (reseated F j p at to).places ≡ length F.places
places_reseated F j p at to = length_edit F.places p (holding to)

nodes_clear : (F : Forest) (p : ℕ) (o : Option ℕ) → length (cleared F p o).nodes ≡ length F.nodes
nodes_clear F p None = refl
nodes_clear F p (Some j) = nodes_reseated F j p None None

places_clear : (F : Forest) (p : ℕ) (o : Option ℕ) → length (cleared F p o).places ≡ length F.places
places_clear F p None = refl
places_clear F p (Some j) = places_reseated F j p None None

pub nodes_cleared : (F : Forest) (p : ℕ) → length (clear_of F p).nodes ≡ length F.nodes
nodes_cleared F p = nodes_clear F p (node_at F p)

pub places_cleared : (F : Forest) (p : ℕ) → length (clear_of F p).places ≡ length F.places
places_cleared F p = places_clear F p (node_at F p)

pub nodes_put : (F : Forest) (p j : ℕ) → length (put_of F p j).nodes ≡ length F.nodes
nodes_put F p j = nodes_reseated (clear_of F p) j p (Some p) (Some j) ∙ nodes_cleared F p

pub places_put : (F : Forest) (p j : ℕ) → length (put_of F p j).places ≡ length F.places
places_put F p j = places_reseated (clear_of F p) j p (Some p) (Some j) ∙ places_cleared F p

nodes_unlink : (F : Forest) (p : ℕ) (o : Option ℕ) → length (at_slot F o (λ s. left (clear_of F p) s p)).nodes ≡ length F.nodes
nodes_unlink F p None = refl
nodes_unlink F p (Some s) = nodes_cleared F p

places_unlink : (F : Forest) (p : ℕ) (o : Option ℕ) → length (at_slot F o (λ s. left (clear_of F p) s p)).places ≡ length F.places
places_unlink F p None = refl
places_unlink F p (Some s) = length_edit (clear_of F p).places p (owned_by None) ∙ places_cleared F p

pub nodes_unlinked : (F : Forest) (p : ℕ) → length (unlink_of F p).nodes ≡ length F.nodes
nodes_unlinked F p = nodes_unlink F p (list_at F p)

pub places_unlinked : (F : Forest) (p : ℕ) → length (unlink_of F p).places ≡ length F.places
places_unlinked F p = places_unlink F p (list_at F p)

nodes_out : (F : Forest) (p : ℕ) (state : PlaceState) → length (take_out_in F p state).nodes ≡ length F.nodes
nodes_out F p Listed = nodes_unlinked F p
nodes_out F p Single = nodes_cleared F p
nodes_out F p Root = nodes_cleared F p
nodes_out F p Out = refl

places_out : (F : Forest) (p : ℕ) (state : PlaceState) → length (take_out_in F p state).places ≡ length F.places
places_out F p Listed = places_unlinked F p
places_out F p Single = places_cleared F p
places_out F p Root = places_cleared F p
places_out F p Out = refl

pub nodes_taken : (F : Forest) (p : ℕ) → length (take_out_of F p).nodes ≡ length F.nodes
nodes_taken F p = nodes_out F p (state_at F p)

pub places_taken : (F : Forest) (p : ℕ) → length (take_out_of F p).places ≡ length F.places
places_taken F p = places_out F p (state_at F p)

nodes_place : (F : Forest) (o : Option ℕ) → length (take_place_of F o).nodes ≡ length F.nodes
nodes_place F None = refl
nodes_place F (Some p) = nodes_taken F p

places_place : (F : Forest) (o : Option ℕ) → length (take_place_of F o).places ≡ length F.places
places_place F None = refl
places_place F (Some p) = places_taken F p

nodes_bare : (F : Forest) (j : ℕ) (b : Bool) → length (if b then take_place_of F (place_at F j) else F).nodes ≡ length F.nodes
nodes_bare F j true = nodes_place F (place_at F j)
nodes_bare F j false = refl

places_bare : (F : Forest) (j : ℕ) (b : Bool) → length (if b then take_place_of F (place_at F j) else F).places ≡ length F.places
places_bare F j true = places_place F (place_at F j)
places_bare F j false = refl

nodes_owner : (F : Forest) (o : Option ℕ) → length (take_owner_some F o).nodes ≡ length F.nodes
nodes_owner F None = refl
nodes_owner F (Some j) = nodes_bare F j (is_bare F j)

places_owner : (F : Forest) (o : Option ℕ) → length (take_owner_some F o).places ≡ length F.places
places_owner F None = refl
places_owner F (Some j) = places_bare F j (is_bare F j)

pub nodes_pruned : (F : Forest) (p : ℕ) → length (prune_of F p).nodes ≡ length F.nodes
nodes_pruned F p = nodes_owner (take_out_of F p) (owner_at F p) ∙ nodes_taken F p

pub places_pruned : (F : Forest) (p : ℕ) → length (prune_of F p).places ≡ length F.places
places_pruned F p = places_owner (take_out_of F p) (owner_at F p) ∙ places_taken F p
