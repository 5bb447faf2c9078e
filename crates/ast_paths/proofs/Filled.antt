-- Places that hold a node hold one still after the changes.
use Rattle.std.proofs.Common.{◌≡◌, ◌≢◌, ◌≤◌, ◌⊎◌, inl, inr, sym, ◌∙◌, ap, subst, refl, ℕ, zero, suc, ◌<◌, true, List, [], ◌∷◌, length, take, Option, Some, None, slice_get, arith}
use Rattle.node_arena.proofs.Edits.{edit_away, edit_here, same_or_not}
use Rattle.node_arena.proofs.Pushes.{append_old, before_end, item_at}
use Rattle.node_arena.specs.Forest.{Forest, Place, at_slot, clear_of, cleared, empty_place, given, grown, holding, insert_after_of, insert_before_of, insert_first_of, list_at, make_of, new_places, node_at, node_of, put_of}
use Rattle.node_arena.specs.Lists.{insert_after, insert_before}
use Rattle.node_arena.specs.Store.{Store, reserved}
use Rattle.type_defs.specs.declared.kind.Kind.{Kind}
use Rattle.type_defs.specs.Fields.{lists_at}
use Rattle.node_arena.specs.Fronts.{Grows}
use Rattle.ast_paths.specs.Paths.{KeepsIds, is_filled, is_some}
use Rattle.ast_paths.proofs.Sizes.{places_cleared}

-- the row of a filled place
some_row : (o : Option Place) → is_some (node_of o) ≡ true → (q : Place) × (o ≡ Some q)
some_row None h = absurd (cc)
some_row (Some q) h = (q, refl)

row_filled : (F : Forest) (x : ℕ) → is_filled F x ≡ true → (q : Place) × (slice_get F.places x ≡ Some q)
unfolding is_filled
row_filled F x h = some_row (slice_get F.places x) h

same_filled : (F G : Forest) (x : ℕ) → node_at G x ≡ node_at F x → is_filled F x ≡ true → is_filled G x ≡ true
unfolding is_filled
same_filled F G x e h = ap is_some e ∙ h

node_filled : (G : Forest) (x j : ℕ) → node_at G x ≡ Some j → is_filled G x ≡ true
unfolding is_filled
node_filled G x j e = ap is_some e

away_cleared : (F : Forest) (p x : ℕ) (o : Option ℕ) → x ≢ p → slice_get (cleared F p o).places x ≡ slice_get F.places x
away_cleared F p x None n = refl
away_cleared F p x (Some j) n = edit_away F.places p x (holding None) n

away_put : (F : Forest) (p j x : ℕ) → x ≢ p → node_at (put_of F p j) x ≡ node_at F x
away_put F p j x n = ap node_of (edit_away (clear_of F p).places p x (holding (Some j)) n ∙ away_cleared F p x (node_at F p) n)

here_put : (F : Forest) (p j : ℕ) → p < length F.places → node_at (put_of F p j) p ≡ Some j
here_put F p j h =
    let long : p < length (clear_of F p).places = subst (λ n. p < n) (sym (places_cleared F p)) h in
    let row = item_at (clear_of F p).places p long in
    ap node_of (edit_here (clear_of F p).places p (holding (Some j)) row.0 row.1)

put_at : (F : Forest) (p j x : ℕ) → p < length F.places → (x ≡ p) ⊎ (x ≢ p) → is_filled F x ≡ true → is_filled (put_of F p j) x ≡ true
put_at F p j x h (inl e) f = node_filled (put_of F p j) x j (ap (node_at (put_of F p j)) e ∙ here_put F p j h)
put_at F p j x h (inr n) f = same_filled F (put_of F p j) x (away_put F p j x n) f

pub put_filled : (F : Forest) (p j x : ℕ) → p < length F.places → is_filled F x ≡ true → is_filled (put_of F p j) x ≡ true
put_filled F p j x h f = put_at F p j x h (same_or_not x p) f

grown_row : (F : Forest) (s : ℕ) (f : List ℕ → List ℕ) (x : ℕ) (q : Place) → slice_get F.places x ≡ Some q → slice_get (grown F s f).places x ≡ Some q
grown_row F s f x q e = append_old F.places (empty_place s ∷ []) x q e

given_row : (F : Forest) (s : ℕ) (f : List ℕ → List ℕ) (node : Option ℕ) (x : ℕ) (q : Place) → slice_get F.places x ≡ Some q → slice_get (given (grown F s f) (length F.places) node).places x ≡ Some q
given_row F s f None x q e = grown_row F s f x q e
given_row F s f (Some j) x q e =
    edit_away (grown F s f).places (length F.places) x (holding (Some j)) (before_end F.places x q e) ∙ grown_row F s f x q e

given_filled : (F : Forest) (s : ℕ) (f : List ℕ → List ℕ) (node : Option ℕ) (x : ℕ) → is_filled F x ≡ true → is_filled (given (grown F s f) (length F.places) node) x ≡ true
given_filled F s f node x h =
    let row = row_filled F x h in
    same_filled F (given (grown F s f) (length F.places) node) x (ap node_of (given_row F s f node x row.0 row.1 ∙ sym row.1)) h

slot_filled : (F : Forest) (o node : Option ℕ) (f : List ℕ → List ℕ) (x : ℕ) → is_filled F x ≡ true → is_filled (at_slot F o (λ s. given (grown F s f) (length F.places) node)) x ≡ true
slot_filled F None _ f x h = h
slot_filled F (Some s) node f x h = given_filled F s f node x h

pub after_filled : (F : Forest) (p : ℕ) (node : Option ℕ) (x : ℕ) → is_filled F x ≡ true → is_filled (insert_after_of F p node) x ≡ true
after_filled F p node x h = slot_filled F (list_at F p) node (insert_after p (length F.places)) x h

pub before_filled : (F : Forest) (p : ℕ) (node : Option ℕ) (x : ℕ) → is_filled F x ≡ true → is_filled (insert_before_of F p node) x ≡ true
before_filled F p node x h = slot_filled F (list_at F p) node (insert_before p (length F.places)) x h

pub first_filled : (F : Forest) (s : ℕ) (node : Option ℕ) (x : ℕ) → is_filled F x ≡ true → is_filled (insert_first_of F s node) x ≡ true
first_filled F s node x h = given_filled F s (λ xs. length F.places ∷ xs) node x h

pub made_filled : (F : Forest) (kind : Kind) (x : ℕ) → is_filled F x ≡ true → is_filled (make_of F kind) x ≡ true
made_filled F kind x h =
    let row = row_filled F x h in
    same_filled F (make_of F kind) x (ap node_of (append_old F.places (new_places (length F.slots) (lists_at kind)) x row.0 row.1 ∙ sym row.1)) h

-- rows behind others
taken_get : {A : Type 0} → (n : ℕ) (xs : List A) (i : ℕ) (x : A) → slice_get (take n xs) i ≡ Some x → slice_get xs i ≡ Some x
taken_get zero xs i x h = absurd (cc)
taken_get (suc n) [] i x h = absurd (cc)
taken_get (suc n) (y ∷ ys) zero x h = h
taken_get (suc n) (y ∷ ys) (suc i) x h = taken_get n ys i x h

taken_long : {A : Type 0} → (n : ℕ) (xs : List A) → length (take n xs) ≤ length xs
taken_long zero xs = omega arith
taken_long (suc n) [] = omega arith
taken_long (suc n) (y ∷ ys) = let h : length (take n ys) ≤ length ys = taken_long n ys in omega arith

front_long : {A : Type 0} → (xs ys : List A) (n : ℕ) → take n ys ≡ xs → length xs ≤ length ys
front_long xs ys n e = subst (λ z. length z ≤ length ys) e (taken_long n ys)

pub behind_filled : (A B : Store) (x : ℕ) → Grows A B → is_filled A.forest x ≡ true → is_filled B.forest x ≡ true
behind_filled A B x g h =
    let row = row_filled A.forest x h in
    let at : slice_get B.forest.places x ≡ Some row.0 = taken_get (length A.forest.places) B.forest.places x row.0 (ap (λ z. slice_get z x) g.places ∙ row.1) in
    same_filled A.forest B.forest x (ap node_of (at ∙ sym row.1)) h

pub ids_behind : (A B : Store) → Grows A B → KeepsIds A.forest B.forest
ids_behind A B g = record {
  nodes = front_long A.forest.nodes B.forest.nodes (length A.forest.nodes) g.nodes;
  places = front_long A.forest.places B.forest.places (length A.forest.places) g.places;
}

pub ids_kept : (F G : Forest) → length F.nodes ≤ length G.nodes → length F.places ≤ length G.places → KeepsIds F G
ids_kept F G a b = record { nodes = a; places = b }

-- only the memory that is promised differs
pub spare_kept : (A : Store) → A ≡ reserved A A.spare
spare_kept A = refl

pub spare_only : (A B : Store) (m : ℕ) → B ≡ reserved A m → B ≡ reserved A B.spare
spare_only A B m e = e ∙ ap (reserved A) (sym (ap (λ (s : Store). s.spare) e))
