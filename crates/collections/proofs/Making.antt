-- One change more at the places of a list, and a refusal there.
use Rattle.std.proofs.Common.{◌≡◌, ◌≢◌, ◌<◌, ◌≤◌, ◌+◌, ℕ, zero, suc, Bool, true, false, List, [], ◌∷◌, ◌++◌, Some, length, take, slice_get, get_or, subst, sym, ap, refl, ◌∙◌, arith, add-one}
use Rattle.std.proofs.Math.Seq.{take-suc}
use Rattle.node_arena.specs.declared.state.PlaceState.{PlaceState}
use Rattle.node_arena.specs.declared.state.PlaceState.TheVariants.{Root, Single, Listed, Out}
use Rattle.node_arena.specs.Reads.{state_at}
use Rattle.node_arena.specs.Store.{Store, changed, reserved}
use Rattle.ast_paths.specs.declared.fault.PathFault.{PathFault}
use Rattle.ast_paths.specs.declared.fault.PathFault.TheVariants as f
use Rattle.ast_paths.specs.Paths.{KeepsFilled, KeepsIds, prune_of, takes_nodes}
use Rattle.collections.specs.Changes.{Made, unchanged, change, Stopped, Replaced, Inserted, Removed}

made_last : {Change : Store → ℕ → Store → Type 0} {A B C : Store} {ps : List ℕ} (p : ℕ) → Made Change A ps B → Change B p C → Made Change A (ps ++ p ∷ []) C
made_last p (unchanged A) d = change p d (unchanged _)
made_last p (change q c m) d = change q c (made_last p m d)

pub made_none : (Change : Store → ℕ → Store → Type 0) (A : Store) (ps : List ℕ) → Made Change A (take 0 ps) A
made_none Change A ps = unchanged A

pub made_next : (Change : Store → ℕ → Store → Type 0) (A B C : Store) (ps : List ℕ) (at p : ℕ) → at < length ps → p ≡ get_or ps at p → Made Change A (take at ps) B → Change B p C
    → Made Change A (take (at + 1) ps) C
made_next Change A B C ps at p h e m c =
    let t : take (at + 1) ps ≡ take at ps ++ p ∷ [] = ap (λ n. take n ps) (add-one at) ∙ (take-suc ps at p h ∙ ap (λ z. take at ps ++ z ∷ []) (sym e)) in
    subst (λ z. Made Change A z C) (sym t) (made_last p m c)

took_all : (ps : List ℕ) (n : ℕ) → length ps ≤ n → take n ps ≡ ps
took_all [] zero h = refl
took_all [] (suc n) h = refl
took_all (p ∷ ps) zero h = absurd (omega (arith, h))
took_all (p ∷ ps) (suc n) h = ap (λ z. p ∷ z) (took_all ps n (omega (arith, h)))

pub made_all : (Change : Store → ℕ → Store → Type 0) (A B : Store) (ps : List ℕ) (n : ℕ) → length ps ≤ n → Made Change A (take n ps) B → Made Change A ps B
made_all Change A B ps n h m = subst (λ z. Made Change A z B) (took_all ps n h) m

slice_is : (ps : List ℕ) (i p : ℕ) → i < length ps → slice_get ps i ≡ Some (get_or ps i p)
slice_is [] i p h = absurd (omega (arith, h))
slice_is (q ∷ ps) zero p h = refl
slice_is (q ∷ ps) (suc i) p h = slice_is ps i p (omega (arith, h))

pub stopped_at : (Change : Store → ℕ → Store → Type 0) (Refuses : Store → ℕ → Type 0) (A B C : Store) (list ps : List ℕ) (at p : ℕ) (fault : PathFault) → list ≡ ps → at < length list → p ≡ get_or list at p
    → Made Change A (take at list) B → C ≡ reserved B C.spare → (fault ≡ f.NotInList → Refuses B p) → (Refuses B p → fault ≡ f.NotInList) → fault ≢ f.NoField → Stopped Change Refuses A ps fault C
stopped_at Change Refuses A B C list ps at p fault l h e m k to from n =
    let made : Made Change A (take at ps) B = subst (λ z. Made Change A (take at z) B) l m in
    let is : slice_get ps at ≡ Some p = ap (λ z. slice_get z at) (sym l) ∙ (slice_is list at p h ∙ ap Some (sym e)) in
    record { count = at; place = p; is = is; left = B; made = made; kept = k; listed = (to, from); field = n }

not_false : (b : Bool) → (b ≡ false → ⊥) → b ≡ true
not_false true h = refl
not_false false h = absurd (h refl)

pub replaced : (A B : Store) (p n : ℕ) → (takes_nodes (state_at A.forest p) n ≡ false → ⊥) → KeepsIds A.forest B.forest → (0 < n → KeepsFilled A.forest B.forest) → Replaced n A p B
replaced A B p n t i k = record { takes = not_false (takes_nodes (state_at A.forest p) n) t; ids = i; filled = k }

not_unlisted : (s : PlaceState) → (s ≢ Listed → ⊥) → s ≡ Listed
not_unlisted Listed h = refl
not_unlisted Root h = absurd (h (λ e. cc))
not_unlisted Single h = absurd (h (λ e. cc))
not_unlisted Out h = absurd (h (λ e. cc))

pub inserted : (A B : Store) (p : ℕ) → (state_at A.forest p ≢ Listed → ⊥) → KeepsIds A.forest B.forest → KeepsFilled A.forest B.forest → Inserted A p B
inserted A B p t i k = record { listed = not_unlisted (state_at A.forest p) t; ids = i; filled = k }

pub removed : (A B : Store) (p : ℕ) → state_at A.forest p ≢ Out → B ≡ changed A (prune_of A.forest p) → Removed A p B
removed A B p t e = record { within = t; after = e }

pub spare_kept : (A B : Store) → B ≡ A → B ≡ reserved A B.spare
spare_kept A B e = e ∙ ap (λ (s : Store). reserved A s.spare) (sym e)

pub not_field : (fault : PathFault) → fault ≡ f.NotInList → fault ≢ f.NoField
not_field fault a b = let e : f.NotInList ≡ f.NoField = sym a ∙ b in cc
