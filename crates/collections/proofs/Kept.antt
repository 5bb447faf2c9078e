-- Ids stay ids from change to change, and filled places stay filled.
use Rattle.std.proofs.Common.{◌≡◌, ◌∙◌, ap, ℕ, ◌<◌, length, arith}
use Rattle.node_arena.specs.Forest.{Forest}
use Rattle.node_arena.specs.Store.{Store, changed}
use Rattle.ast_paths.specs.Paths.{KeepsFilled, KeepsIds, prune_of}
use Rattle.ast_paths.proofs.Sizes.{nodes_pruned, places_pruned}

pub keeps_same : (F : Forest) → KeepsIds F F
keeps_same F = record { nodes = omega arith; places = omega arith }

pub keeps_more : (F G H : Forest) → KeepsIds F G → KeepsIds G H → KeepsIds F H
keeps_more F G H a b =
    let n = a.nodes in
    let m = b.nodes in
    let p = a.places in
    let q = b.places in
    record { nodes = omega (arith, n, m); places = omega (arith, p, q) }

pub keeps_place : (F G : Forest) (p : ℕ) → KeepsIds F G → p < length F.places → p < length G.places
keeps_place F G p a h = let q = a.places in omega (arith, q, h)

pub filled_more : (F G H : Forest) → KeepsFilled F G → KeepsFilled G H → KeepsFilled F H
filled_more F G H a b = λ x h. b x (a x h)

pub keeps_pruned : (A B : Store) (p : ℕ) → B ≡ changed A (prune_of A.forest p) → KeepsIds A.forest B.forest
keeps_pruned A B p e =
    let n : length B.forest.nodes ≡ length A.forest.nodes = ap (λ (s : Store). length s.forest.nodes) e ∙ nodes_pruned A.forest p in
    let m : length B.forest.places ≡ length A.forest.places = ap (λ (s : Store). length s.forest.places) e ∙ places_pruned A.forest p in
    record { nodes = omega (arith, n); places = omega (arith, m) }
