-- A chain is what the links lead to, so a table stands for one forest.
use Rattle.std.proofs.Common.{◌≡◌, inl, inr, ⊎_elim, ◌∙◌, ap, refl, ℕ, zero, suc, ◌≤◌, List, [], ◌∷◌, length, map, Option, Some, None, slice_get, true, false, arith}
use Rattle.std.proofs.Math.Dec.{eqb}
use Rattle.std.specs.List.{IsDistinct, list_any, AllByRecursion}
use Rattle.std.proofs.lemmas.Bool.Decides.{eqb_tells}
use Rattle.std.proofs.lemmas.Map.Steps.{length-le_from_distinct_below}
use Rattle.std.proofs.lemmas.Option.{slice_get_within}
use Rattle.node_arena.specs.declared.links.Node.{Node}
use Rattle.node_arena.specs.declared.links.PlaceRow.{PlaceRow}
use Rattle.node_arena.specs.Rows.{Rows}
use Rattle.node_arena.specs.Lists.{Among, Distinct, head_or}
use Rattle.node_arena.specs.Forest.{Chain, Forest, Slot, Place, Stands, IsLawful, followed, slot_of, place_of, forest_of, core_of}
use Rattle.node_arena.proofs.Linking.{chain_row}

none_same : (x : ℕ) (xs : List ℕ) → (Among x xs → ⊥) → AllByRecursion (λ y. eqb x y ≡ false) xs
none_same x [] n = tt
none_same x (y ∷ ys) n = (⊎_elim (λ e. absurd (n (inl e.1))) (λ e. e.0) (eqb_tells x y), none_same x ys (λ m. n (inr m)))

distinct_told : (xs : List ℕ) → Distinct xs → IsDistinct eqb xs
unfolding IsDistinct
distinct_told [] d = tt
distinct_told (x ∷ xs) d = (none_same x xs d.0, distinct_told xs d.1)

among_told : (x : ℕ) (xs : List ℕ) → list_any (eqb x) xs ≡ true → Among x xs
among_told x [] h = absurd (cc)
among_told x (y ∷ ys) h = ⊎_elim (λ e. inl e.1) (λ e. inr (among_told x ys (rw e.0 at h))) (eqb_tells x y)

-- a chain is no longer than the table
chain_long : (ps : List PlaceRow) (s : ℕ) (xs : List ℕ) → Chain ps s None xs None → Distinct xs → length xs ≤ length ps
chain_long ps s xs c d =
    length-le_from_distinct_below xs (length ps) (distinct_told xs d) (λ x h. let row = chain_row ps s xs None None x c (among_told x xs h) in slice_get_within ps x row.0 row.1)

chain_followed : (n : ℕ) (ps : List PlaceRow) (s : ℕ) (xs : List ℕ) (prev : Option ℕ) → Chain ps s prev xs None → length xs ≤ n → followed n ps (head_or xs None) ≡ xs
chain_followed zero ps s [] prev c h = refl
chain_followed (suc n) ps s [] prev c h = refl
chain_followed zero ps s (x ∷ xs) prev c h = absurd (omega arith)
chain_followed (suc n) ps s (x ∷ xs) prev c h = rw c.0.is (ap (λ z. x ∷ z) (chain_followed n ps s xs (Some x) c.1 (omega arith)))

slots_told : (ps : List PlaceRow) (fs : List Slot) → ((s : ℕ) (n : Slot) → slice_get fs s ≡ Some n → followed (length ps) ps (head_or n.kids None) ≡ n.kids) → map (slot_of ps) (map core_of fs) ≡ fs
slots_told ps [] e = refl
slots_told ps (f ∷ fs) e =
    ap (λ (z : List ℕ). record f { kids = z } ∷ map (slot_of ps) (map core_of fs)) (e zero f refl) ∙ ap (λ z. f ∷ z) (slots_told ps fs (λ s. e (suc s)))

abbrev forest_with : List Node → List Slot → List Place → Forest
forest_with nodes slots places = record { nodes = nodes; slots = slots; places = places }

pub stands_for_one : (t : Rows) (F : Forest) → Stands t F → IsLawful F → forest_of t ≡ F
stands_for_one t F w l =
    let ps = t.places in
    let walks = slots_told ps F.slots (λ s n g. let c = w.chains s n g in chain_followed (length ps) ps s n.kids None c (chain_long ps s n.kids c (l.lists.distinct s n g))) in
    ap (λ z. forest_with z (map (slot_of ps) t.slots) (map place_of ps)) w.nodes
    ∙ (ap (λ z. forest_with F.nodes (map (slot_of ps) z) (map place_of ps)) w.slots
    ∙ (ap (λ z. forest_with F.nodes z (map place_of ps)) walks ∙ ap (λ z. forest_with F.nodes F.slots z) w.places))
