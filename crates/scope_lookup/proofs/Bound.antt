-- One more place of a name among bindings.
use Rattle.std.proofs.Common.{◌≡◌, ℕ, zero, suc, ◌+◌, ◌<◌, Bool, true, false, cond, not, ◌||◌, List, [], ◌∷◌, ◌++◌, length, map, nat_eq, nat_lt, slice_index_or, slice_set, Option, Some, None, refl, sym, ap, ◌∙◌, arith}
use Rattle.std.proofs.lemmas.List.{map-append}
use Rattle.std.specs.Cmp.Lexicographic.{pointwise}
use Rattle.std.specs.Prelude.{position}
use Rattle.std.specs.List.{list_any, position_or_len}
use Rattle.scope_lookup.specs.declared.scope.Binding.{Binding}
use Rattle.node_arena.specs.Store.{Store}
use Rattle.scope_lookup.specs.Scopings.{name_at}
use Rattle.scope_lookup.specs.Bindings.{add_at, bind, bind_all, bind_some, with_place}

abbrev name_of : Binding → List ℕ
name_of b = b.name

any_map : {K : Type 0} (f : K → List ℕ) (t : List ℕ → Bool) (ks : List K) → list_any (λ k. t (f k)) ks ≡ list_any t (map f ks)
any_map f t [] = refl
any_map f t (k ∷ ks) = ap (λ z. t (f k) || z) (any_map f t ks)

place_map : {K : Type 0} (f : K → List ℕ) (t : List ℕ → Bool) (ks : List K) → position_or_len (λ k. t (f k)) ks ≡ position_or_len t (map f ks)
place_map f t [] = refl
place_map f t (k ∷ ks) = ap (λ z. cond (not (t (f k))) (1 + z) 0) (place_map f t ks)

length_map : {K : Type 0} (f : K → List ℕ) (ks : List K) → length (map f ks) ≡ length ks
length_map f [] = refl
length_map f (k ∷ ks) = ap suc (length_map f ks)

all_last : (A : Store) (bs : List Binding) (ps : List ℕ) (p : ℕ) → bind_all A bs (ps ++ p ∷ []) ≡ bind_some (bind_all A bs ps) p (name_at A p)
all_last A bs [] p = refl
all_last A bs (q ∷ ps) p = all_last A (bind_some bs q (name_at A q)) ps p

-- the number of a binding of the name
found_step : (b : Binding) (bs : List Binding) (name : List ℕ) (p i n : ℕ) (y : Bool) → ((j : ℕ) → n ≡ j → j < length bs → add_at bs j p ≡ bind bs name p) → cond (not y) (1 + n) 0 ≡ i → i < suc (length bs)
    → add_at (b ∷ bs) i p ≡ cond y (with_place b p ∷ bs) (b ∷ bind bs name p)
found_step b bs name p zero n true ih e h = refl
found_step b bs name p (suc i) n true ih e h = absurd (omega (arith, e))
found_step b bs name p zero n false ih e h = absurd (omega (arith, e))
found_step b bs name p (suc i) n false ih e h = ap (λ z. b ∷ z) (ih i (omega (arith, e)) (omega (arith, h)))

found_at : (bs : List Binding) (name : List ℕ) (p i : ℕ) → position_or_len (pointwise nat_eq name) (map name_of bs) ≡ i → i < length bs → add_at bs i p ≡ bind bs name p
found_at [] name p i e h = absurd (omega (arith, h))
found_at (b ∷ bs) name p i e h =
    found_step b bs name p i (position_or_len (pointwise nat_eq name) (map name_of bs)) (pointwise nat_eq name b.name) (λ j f k. found_at bs name p j f k) e h

-- no binding has the name
new_step : (b new : Binding) (bs : List Binding) (name : List ℕ) (p : ℕ) (y : Bool) → (list_any (pointwise nat_eq name) (map name_of bs) ≡ false → bs ++ new ∷ [] ≡ bind bs name p)
    → (y || list_any (pointwise nat_eq name) (map name_of bs)) ≡ false → (b ∷ bs) ++ new ∷ [] ≡ cond y (with_place b p ∷ bs) (b ∷ bind bs name p)
new_step b new bs name p true ih e = let f : true ≡ false = e in cc
new_step b new bs name p false ih e = ap (λ z. b ∷ z) (ih e)

new_at : (bs : List Binding) (name : List ℕ) (p : ℕ) → list_any (pointwise nat_eq name) (map name_of bs) ≡ false → bs ++ record { name = name; places = p ∷ [] } ∷ [] ≡ bind bs name p
new_at [] name p e = refl
new_at (b ∷ bs) name p e = new_step b (record { name = name; places = p ∷ [] }) bs name p (pointwise nat_eq name b.name) (new_at bs name p) e

-- the names stay
names_step : (bs : List Binding) (i p : ℕ) → map name_of (add_at bs i p) ≡ map name_of bs
names_step [] i p = refl
names_step (b ∷ bs) zero p = refl
names_step (b ∷ bs) (suc i) p = ap (λ z. b.name ∷ z) (names_step bs i p)

index_told : (n len i : ℕ) (y : Bool) → cond y (Some n) None ≡ Some i → n ≡ i
index_told n len i true e = grind arith
index_told n len i false e = let f : None ≡ Some i = e in cc

pub known_name : {K : Type 0} (f : K → List ℕ) (keys : List K) (bs new : List Binding) (name : List ℕ) (p i : ℕ) → map f keys ≡ map name_of bs → position (λ k. pointwise nat_eq name (f k)) keys ≡ Some i → i < length bs
    → new ≡ add_at bs i p → new ≡ bind bs name p
known_name f keys bs new name p i m e h n =
    let t = pointwise nat_eq name in
    let q : position_or_len (λ k. t (f k)) keys ≡ i = index_told (position_or_len (λ k. t (f k)) keys) (length keys) i (nat_lt (position_or_len (λ k. t (f k)) keys) (length keys)) e in
    n ∙ found_at bs name p i (sym (place_map f t keys ∙ ap (position_or_len t) m) ∙ q) h

pub known_names : {K : Type 0} (f : K → List ℕ) (keys : List K) (bs new : List Binding) (p i : ℕ) → map f keys ≡ map name_of bs → new ≡ add_at bs i p → map f keys ≡ map name_of new
known_names f keys bs new p i m n = m ∙ (sym (names_step bs i p) ∙ ap (map name_of) (sym n))

pub known_index : {K : Type 0} (f : K → List ℕ) (keys : List K) (bs : List Binding) (i : ℕ) → map f keys ≡ map name_of bs → i < length keys → i < length bs
known_index f keys bs i m h =
    let a = length_map f keys in
    let b = length_map name_of bs in
    let c = ap length m in
    omega (arith, a, b, c, h)

pub new_name : {K : Type 0} (f : K → List ℕ) (keys : List K) (bs new : List Binding) (name : List ℕ) (p : ℕ) → map f keys ≡ map name_of bs → list_any (λ k. pointwise nat_eq name (f k)) keys ≡ false
    → new ≡ bs ++ record { name = name; places = p ∷ [] } ∷ [] → new ≡ bind bs name p
new_name f keys bs new name p m e n =
    n ∙ new_at bs name p (sym (any_map f (pointwise nat_eq name) keys ∙ ap (list_any (pointwise nat_eq name)) m) ∙ e)

pub new_names : {K : Type 0} (f : K → List ℕ) (keys more : List K) (bs new : List Binding) (key : K) (name : List ℕ) (p : ℕ) → map f keys ≡ map name_of bs → f key ≡ name → more ≡ keys ++ key ∷ []
    → new ≡ bs ++ record { name = name; places = p ∷ [] } ∷ [] → map f more ≡ map name_of new
new_names f keys more bs new key name p m e k n =
    ap (map f) k ∙ (map-append f keys (key ∷ []) ∙ (ap (λ z. z ++ f key ∷ []) m ∙ (ap (λ z. map name_of bs ++ z ∷ []) e
    ∙ (sym (map-append name_of bs (record { name = name; places = p ∷ [] } ∷ [])) ∙ ap (map name_of) (sym n)))))

-- one place more
pub bound_next : (A : Store) (bs new : List Binding) (ps more : List ℕ) (p : ℕ) → bs ≡ bind_all A [] ps → more ≡ ps ++ p ∷ [] → new ≡ bind_some bs p (name_at A p) → new ≡ bind_all A [] more
bound_next A bs new ps more p b m n =
    n ∙ (ap (λ z. bind_some z p (name_at A p)) b ∙ (sym (all_last A [] ps p) ∙ ap (bind_all A []) (sym m)))

-- the binding of a number with one more place
set_step : (bs : List Binding) (i p : ℕ) (b : Binding) → i < length bs → b ≡ slice_index_or bs i b → slice_set bs i (with_place b p) ≡ add_at bs i p
set_step [] i p b h e = absurd (omega (arith, h))
set_step (c ∷ bs) zero p b h e = ap (λ z. with_place z p ∷ bs) e
set_step (c ∷ bs) (suc i) p b h e = ap (λ z. c ∷ z) (set_step bs i p b (omega (arith, h)) e)

pub set_told : (bs : List Binding) (i p : ℕ) (b : Binding) (places : List ℕ) → i < length bs → b ≡ slice_index_or bs i b → places ≡ b.places ++ p ∷ [] → slice_set bs i (record { name = b.name; places = places }) ≡ add_at bs i p
set_told bs i p b places h e f = ap (λ z. slice_set bs i (record { name = b.name; places = z })) f ∙ set_step bs i p b h e

-- a new key goes last
pub key_added : {K : Type 0} (f : K → List ℕ) (keys more : List K) (key : K) (name : List ℕ) → f key ≡ name → list_any (λ k. pointwise nat_eq name (f k)) keys ≡ false
    → more ≡ cond (list_any (λ k. pointwise nat_eq (f key) (f k)) keys) keys (keys ++ key ∷ []) → more ≡ keys ++ key ∷ []
key_added f keys more key name e a m =
    m ∙ ap (λ b. cond b keys (keys ++ key ∷ [])) (ap (λ z. list_any (λ k. pointwise nat_eq z (f k)) keys) e ∙ a)
