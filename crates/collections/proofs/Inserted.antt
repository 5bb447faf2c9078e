-- Places that are added one after another.
use Rattle.std.proofs.Common.{◌≡◌, ◌<◌, ℕ, List, [], ◌∷◌, ◌++◌, nat_eq, All, refl, sym, ap, ◌∙◌, append_assoc, append-nil, subst, cond, true, false}
use Rattle.std.specs.List.{list_any}
use Rattle.std.proofs.lemmas.List.Elements.{All-push, All-head, All-tail}
use Rattle.indexmap.specs.IndexSet.{insert_all, insert_key}
use Rattle.type_defs.specs.declared.groups.NodeType.{NodeType}
use Rattle.node_arena.specs.Forest.{Forest}
use Rattle.collections.specs.Found.{below_path, below_paths, found_below}

all_last : (kept xs : List ℕ) (x : ℕ) → insert_all nat_eq kept (xs ++ x ∷ []) ≡ insert_key nat_eq (insert_all nat_eq kept xs) x
all_last kept [] x = refl
all_last kept (y ∷ xs) x = all_last (insert_key nat_eq kept y) xs x

pub added_one : (kept new old xs more : List ℕ) (x : ℕ) → kept ≡ insert_all nat_eq old xs → new ≡ insert_key nat_eq kept x → more ≡ xs ++ x ∷ [] → new ≡ insert_all nat_eq old more
added_one kept new old xs more x k n m = n ∙ (ap (λ z. insert_key nat_eq z x) k ∙ (sym (all_last old xs x) ∙ ap (insert_all nat_eq old) (sym m)))

pub all_more : (kept xs ys : List ℕ) → insert_all nat_eq kept (xs ++ ys) ≡ insert_all nat_eq (insert_all nat_eq kept xs) ys
all_more kept [] ys = refl
all_more kept (x ∷ xs) ys = all_more (insert_key nat_eq kept x) xs ys

below_last : (F : Forest) (of : NodeType) (ps : List ℕ) (p : ℕ) → below_paths F of (ps ++ p ∷ []) ≡ below_paths F of ps ++ below_path F of p
below_last F of [] p = append-nil (below_path F of p)
below_last F of (q ∷ ps) p = ap (λ z. below_path F of q ++ z) (below_last F of ps p) ∙ sym (append_assoc (below_path F of q) (below_paths F of ps) (below_path F of p))

pub found_one : (F : Forest) (of : NodeType) (kept new ps more below : List ℕ) (p : ℕ) → kept ≡ found_below F of ps → new ≡ insert_all nat_eq kept below → below ≡ below_path F of p → more ≡ ps ++ p ∷ []
    → new ≡ found_below F of more
found_one F of kept new ps more below p k n b m =
    n ∙ (ap (λ z. insert_all nat_eq z below) k ∙ (ap (insert_all nat_eq (found_below F of ps)) b
    ∙ (sym (all_more [] (below_paths F of ps) (below_path F of p)) ∙ ap (insert_all nat_eq []) (sym (below_last F of ps p) ∙ ap (below_paths F of) (sym m)))))

all_one : (end : ℕ) (kept : List ℕ) (x : ℕ) → All (λ p. p < end) kept → x < end → All (λ p. p < end) (insert_key nat_eq kept x)
all_one end kept x h p =
    elim (list_any (nat_eq x) kept) as (λ b. All (λ p. p < end) (cond b kept (kept ++ x ∷ []))) [ true ↦ h | false ↦ All-push (λ p. p < end) kept x h p ]

all_inserted : (end : ℕ) (kept xs : List ℕ) → All (λ p. p < end) kept → All (λ p. p < end) xs → All (λ p. p < end) (insert_all nat_eq kept xs)
all_inserted end kept [] h hs = h
all_inserted end kept (x ∷ xs) h hs = all_inserted end (insert_key nat_eq kept x) xs (all_one end kept x h (All-head (λ p. p < end) x xs hs)) (All-tail (λ p. p < end) x xs hs)

pub all_added : (end : ℕ) (kept new xs : List ℕ) → All (λ p. p < end) kept → All (λ p. p < end) xs → new ≡ insert_all nat_eq kept xs → All (λ p. p < end) new
all_added end kept new xs h hs e = subst (λ z. All (λ p. p < end) z) (sym e) (all_inserted end kept xs h hs)
