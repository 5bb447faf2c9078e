-- New nodes behind a mark, and roots that stay roots.
use Rattle.std.proofs.Common.{◌≡◌, sym, ◌∙◌, ap, subst, refl, ℕ, zero, suc, All, ◌<◌, ◌≤◌, List, [], ◌∷◌, ◌++◌, length, Option, Some, None, slice_get, arith, length-append}
use Rattle.std.proofs.lemmas.List.Elements.{All-append}
use Rattle.type_defs.specs.declared.kind.Kind.{Kind}
use Rattle.type_defs.specs.Fields.{lists_at}
use Rattle.node_arena.specs.declared.copies.Mark.{Mark}
use Rattle.node_arena.specs.declared.links.Node.{Node}
use Rattle.node_arena.specs.Rows.{edit, new_node, standing_at}
use Rattle.node_arena.specs.Forest.{Forest, IsRoot, IsRoot_row, cleared, fill_of, holding, make_of, new_places, node_at, put_of}
use Rattle.node_arena.specs.Fronts.{IsCopied, IsFront, IsRootBehind, front}
use Rattle.node_arena.specs.Reads.{base_at, base_in, kind_at}
use Rattle.node_arena.specs.Store.{Store, changed, copied_in}
use Rattle.node_arena.proofs.Edits.{edit_away, edit_here, length_edit}
use Rattle.node_arena.proofs.Pushes.{item_at, push_new, push_old}
use Rattle.node_arena.proofs.Fronts.{take_within}

pub root_same : (F G : Forest) (j : ℕ) → G.nodes ≡ F.nodes → IsRoot F j → IsRoot G j
root_same F G j e r = subst (λ z. IsRoot_row (slice_get z j)) (sym e) r

root_made : (F : Forest) (kind : Kind) (j : ℕ) → j < length F.nodes → IsRoot F j → IsRoot (make_of F kind) j
root_made F kind j lt r =
    let m = item_at F.nodes j lt in
    subst IsRoot_row (sym (push_old F.nodes j (new_node kind (length F.slots)) m.0 m.1)) (subst IsRoot_row m.1 r)

pub root_new : (A B : Store) (node j : ℕ) → B ≡ copied_in A node → j ≡ length A.forest.nodes → IsRoot B.forest j
root_new A B node j e n =
    subst (λ (z : Store). IsRoot z.forest j) (sym e)
    (subst (λ z. IsRoot (copied_in A node).forest z) (sym n)
    (subst IsRoot_row (sym (push_new A.forest.nodes (new_node (kind_at A.forest node) (length A.forest.slots)))) refl))

row_copied : (A : Store) (node : ℕ) → IsCopied A (copied_in A node) (length A.forest.nodes)
row_copied A node =
    let F = A.forest in
    let kind : Kind = kind_at F node in
    let nodes = length-append F.nodes (new_node kind (length F.slots) ∷ []) in
    let places = length-append F.places (new_places (length F.slots) (lists_at kind)) in
    record {
      number = refl;
      within = omega arith;
      places = omega arith;
      roots = λ i lt r. root_made F kind i lt r;
    }

pub copied_row : (A B : Store) (node j : ℕ) → B ≡ copied_in A node → j ≡ length A.forest.nodes → IsCopied A B j
copied_row A B node j e n = subst (λ z. IsCopied A z j) (sym e) (subst (IsCopied A (copied_in A node)) (sym n) (row_copied A node))

pub base_row : (m : Mark) (A B : Store) (node j : ℕ) → B ≡ copied_in A node → j ≡ length A.forest.nodes → IsFront m (front m A) → m.slots ≤ base_at B.forest j
base_row m A B node j e n w =
    let F = A.forest in
    let slots = take_within m.slots F.slots w.slots in
    let base : base_at (copied_in A node).forest (length F.nodes) ≡ length F.slots = ap base_in (push_new F.nodes (new_node (kind_at F node) (length F.slots))) in
    let here : base_at B.forest j ≡ length F.slots = ap (λ (z : Store). base_at z.forest j) e ∙ (ap (base_at (copied_in A node).forest) n ∙ base) in
    omega arith

base_kept : (nodes : List Node) (j : ℕ) (at : Option ℕ) (row : Node) → slice_get nodes j ≡ Some row → base_in (slice_get (edit nodes j (standing_at at)) j) ≡ base_in (slice_get nodes j)
base_kept nodes j at row g = ap base_in (edit_here nodes j (standing_at at) row g) ∙ ap base_in (sym g)

fill_is : (B C : Store) (p j : ℕ) → C ≡ changed B (put_of B.forest p j) → None ≡ node_at B.forest p → C ≡ changed B (fill_of B.forest p j)
fill_is B C p j e free = e ∙ ap (λ z. changed B (fill_of (cleared B.forest p z) p j)) (sym free)

pub base_put : (B C : Store) (p j : ℕ) → C ≡ changed B (put_of B.forest p j) → None ≡ node_at B.forest p → j < length B.forest.nodes → base_at C.forest j ≡ base_at B.forest j
base_put B C p j e free lt =
    let row = item_at B.forest.nodes j lt in
    ap (λ (z : Store). base_at z.forest j) (fill_is B C p j e free) ∙ base_kept B.forest.nodes j (Some p) row.0 row.1

-- the node that was made comes into an empty place
filled : (A B : Store) (p j : ℕ) → IsCopied A B j → IsCopied A (changed B (fill_of B.forest p j)) j
filled A B p j w =
    let F = B.forest in
    let nodes = length_edit F.nodes j (standing_at (Some p)) in
    let places = length_edit F.places p (holding (Some j)) in
    let within = w.within in
    let more = w.places in
    let number = w.number in
    record {
      number = number;
      within = omega arith;
      places = omega arith;
      roots = λ i lt r. subst IsRoot_row (sym (edit_away F.nodes j i (standing_at (Some p)) (λ e. absurd (omega arith)))) (w.roots i lt r);
    }

pub copied_put : (A B C : Store) (p j : ℕ) → IsCopied A B j → C ≡ changed B (put_of B.forest p j) → None ≡ node_at B.forest p → IsCopied A C j
copied_put A B C p j w e free = subst (λ z. IsCopied A z j) (sym (fill_is B C p j e free)) (filled A B p j w)

pub copied_places : (A B C : Store) (j : ℕ) → IsCopied A B j → C.forest.nodes ≡ B.forest.nodes → length B.forest.places ≤ length C.forest.places → IsCopied A C j
copied_places A B C j w e le =
    let more = w.places in
    record {
      number = w.number;
      within = subst (λ z. j < length z) (sym e) w.within;
      places = omega arith;
      roots = λ i lt r. root_same B.forest C.forest i e (w.roots i lt r);
    }

-- Roots behind a mark.
pub root_behind : (m : Mark) (A B : Store) (j : ℕ) → IsFront m (front m A) → IsCopied A B j → IsRoot B.forest j → IsRootBehind m B.forest j
root_behind m A B j w c r =
    let nodes = take_within m.nodes A.forest.nodes w.nodes in
    let number = c.number in
    record { new = omega arith; within = c.within; root = r }

behind_kept : (m : Mark) (A B : Store) (j k : ℕ) → IsCopied A B k → IsRootBehind m A.forest j → IsRootBehind m B.forest j
behind_kept m A B j k c b =
    let number = c.number in
    let within = c.within in
    let old = b.within in
    record { new = b.new; within = omega arith; root = c.roots j b.within b.root }

all_one : (P : ℕ → Type 0) (x : ℕ) → P x → All P (x ∷ [])
all_one P x h zero d lt = h
all_one P x h (suc k) d lt = absurd (omega arith)

pub roots_pushed : (m : Mark) (A B : Store) (xs ys : List ℕ) (x : ℕ) → IsFront m (front m A) → IsCopied A B x → IsRoot B.forest x → All (λ j. IsRootBehind m A.forest j) xs → ys ≡ xs ++ x ∷ [] → All (λ j. IsRootBehind m B.forest j) ys
roots_pushed m A B xs ys x w c r all e =
    let P : ℕ → Type 0 = λ j. IsRootBehind m B.forest j in
    subst (All P) (sym e) (All-append P xs (x ∷ []) (λ k d lt. behind_kept m A B _ x c (all k d lt)) (all_one P x (root_behind m A B x w c r)))
