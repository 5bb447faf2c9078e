-- What waits on a stack of lists, and what a pop and the pushes change of it.
use Rattle.std.proofs.Common.{◌≡◌, ◌≢◌, ℕ, zero, suc, ◌-◌, ◌<◌, List, [], ◌∷◌, ◌++◌, length, map, filter, Bool, true, false, cond, Option, Some, None, refl, sym, ap, ◌∙◌, append_assoc, append-nil, if◌then◌else◌, arith}
use Rattle.node_arena.specs.Forest.{node_at}
use Rattle.node_arena.specs.Reads.{first_at, next_at}
use Rattle.node_arena.specs.Store.{Store}
use Rattle.scope_lookup.specs.declared.scoping.Scoping.{Scoping}
use Rattle.scope_lookup.specs.declared.scope.Scope.{Scope}
use Rattle.scope_lookup.specs.declared.walk.Pending.{Pending}
use Rattle.scope_lookup.specs.Scopings.{is_nothing, scoping_below, own_scoping}
use Rattle.scope_lookup.specs.Walk.{Met, along, below, binding_places, does_bind, if_any, is_binding, kept_list, listed, met, of_some, own_places, place_of, rest, rests, under}

listed_zero : (A : Store) (d : ℕ) (m : Scoping) (at : Option ℕ) → listed 0 A d m at ≡ []
unfolding listed along
listed_zero A d m at = refl

listed_none : (n : ℕ) (A : Store) (d : ℕ) (m : Scoping) → listed n A d m None ≡ []
unfolding listed along
listed_none zero A d m = refl
listed_none (suc n) A d m = refl

listed_some : (n : ℕ) (A : Store) (d : ℕ) (m : Scoping) (p : ℕ) → listed (suc n) A d m (Some p) ≡ met A m p ∷ (under A d m p ++ listed n A d m (next_at A.forest p))
unfolding listed along
listed_some n A d m p = refl

below_zero : (A : Store) (m : Scoping) (j : ℕ) → below 0 A m j ≡ []
unfolding below
below_zero A m j = refl

-- what is met in a slot of a node
abbrev slot_list : Store → ℕ → Scoping → ℕ → ℕ → List Met
slot_list A d m j k = kept_list A d (scoping_below A j k m) (first_at A.forest j k)

below_suc : (d : ℕ) (A : Store) (m : Scoping) (j : ℕ) → below (suc d) A m j ≡ slot_list A d m j 0 ++ (slot_list A d m j 1 ++ (slot_list A d m j 2 ++ slot_list A d m j 3))
unfolding below listed
below_suc d A m j = refl

rests_none : (A : Store) → rests A [] ≡ []
unfolding rests
rests_none A = refl

rests_push : (A : Store) (ws : List Pending) (w : Pending) → rests A (ws ++ w ∷ []) ≡ rest A w ++ rests A ws
unfolding rests
rests_push A [] w = sym (append-nil (rest A w))
rests_push A (v ∷ ws) w = ap (λ z. z ++ rest A v) (rests_push A ws w) ∙ append_assoc (rest A w) (rests A ws) (rest A v)

-- a list of no places, and one without a first place, are pushed as nothing
pub push_zero : (A : Store) (ws : List Pending) (n d : ℕ) (m : Scoping) (at : Option ℕ) → n ≡ 0 → rests A ws ≡ listed n A d m at ++ rests A ws
push_zero A ws n d m at e = ap (λ z. z ++ rests A ws) (sym (ap (λ z. listed z A d m at) e ∙ listed_zero A d m at))

pub push_none : (A : Store) (ws : List Pending) (n d : ℕ) (m : Scoping) (at : Option ℕ) → at ≡ None → rests A ws ≡ listed n A d m at ++ rests A ws
push_none A ws n d m at e = ap (λ z. z ++ rests A ws) (sym (ap (listed n A d m) e ∙ listed_none n A d m))

pub push_some : (A : Store) (ws new : List Pending) (n d : ℕ) (m : Scoping) (p : ℕ) (at : Option ℕ) → n ≢ 0 → at ≡ Some p
    → new ≡ ws ++ record { at = p; more = n - 1; depth = d; scoping = m } ∷ [] → rests A new ≡ listed n A d m at ++ rests A ws
push_some A ws new zero d m p at h e x = absurd (h refl)
push_some A ws new (suc n) d m p at h e x =
    let k : suc n - 1 ≡ n = omega arith in
    ap (rests A) x ∙ (rests_push A ws (record { at = p; more = suc n - 1; depth = d; scoping = m })
    ∙ ap (λ z. z ++ rests A ws) (ap (λ z. listed (suc z) A d m (Some p)) k ∙ ap (listed (suc n) A d m) (sym e)))

if_nothing : (m : Scoping) (xs : List Met) → is_nothing m ≡ true → if_any m xs ≡ []
if_nothing m xs e = ap (λ b. if b then [] else xs) e

if_something : (m : Scoping) (xs : List Met) → is_nothing m ≡ false → if_any m xs ≡ xs
if_something m xs e = ap (λ b. if b then [] else xs) e

pub list_nothing : (A : Store) (ws : List Pending) (d : ℕ) (m : Scoping) (at : Option ℕ) → is_nothing m ≡ true → rests A ws ≡ kept_list A d m at ++ rests A ws
list_nothing A ws d m at e = ap (λ z. z ++ rests A ws) (sym (if_nothing m (listed (length A.forest.places) A d m at) e))

pub list_some : (A : Store) (ws new : List Pending) (n d : ℕ) (m : Scoping) (at : Option ℕ) → is_nothing m ≡ false → n ≡ length A.forest.places → rests A new ≡ listed n A d m at ++ rests A ws
    → rests A new ≡ kept_list A d m at ++ rests A ws
list_some A ws new n d m at e f x =
    x ∙ ap (λ z. z ++ rests A ws) (ap (λ z. listed z A d m at) f ∙ sym (if_something m (listed (length A.forest.places) A d m at) e))

if_step : (b : Bool) (xs : List Met) → xs ≡ [] → cond b [] xs ≡ []
if_step true xs e = refl
if_step false xs e = e

kept_none : (A : Store) (d : ℕ) (m : Scoping) → kept_list A d m None ≡ []
kept_none A d m = if_step (is_nothing m) (listed (length A.forest.places) A d m None) (listed_none (length A.forest.places) A d m)

-- a slot without places waits as nothing
pub list_absent : (A : Store) (ws : List Pending) (d : ℕ) (m : Scoping) (first at : Option ℕ) → first ≡ at → first ≡ None → rests A ws ≡ kept_list A d m at ++ rests A ws
list_absent A ws d m first at e n = sym (ap (λ z. z ++ rests A ws) (ap (kept_list A d m) (sym e ∙ n) ∙ kept_none A d m))

joined : (a b c d r : List Met) → a ++ (b ++ (c ++ (d ++ r))) ≡ (a ++ (b ++ (c ++ d))) ++ r
joined a b c d r =
    ap (λ z. a ++ (b ++ z)) (sym (append_assoc c d r))
    ∙ (ap (λ z. a ++ z) (sym (append_assoc b (c ++ d) r)) ∙ sym (append_assoc a (b ++ (c ++ d)) r))

four : (A : Store) (ws ws3 ws2 ws1 new : List Pending) (a b c d : List Met) → rests A ws3 ≡ d ++ rests A ws → rests A ws2 ≡ c ++ rests A ws3 → rests A ws1 ≡ b ++ rests A ws2 → rests A new ≡ a ++ rests A ws1
    → rests A new ≡ (a ++ (b ++ (c ++ d))) ++ rests A ws
four A ws ws3 ws2 ws1 new a b c d p3 p2 p1 p0 =
    p0 ∙ (ap (λ z. a ++ z) (p1 ∙ ap (λ z. b ++ z) (p2 ∙ ap (λ z. c ++ z) p3)) ∙ joined a b c d (rests A ws))

pub slots_zero : (A : Store) (ws : List Pending) (d : ℕ) (m : Scoping) (j : ℕ) → d ≡ 0 → rests A ws ≡ below d A m j ++ rests A ws
slots_zero A ws d m j e = ap (λ z. z ++ rests A ws) (sym (ap (λ z. below z A m j) e ∙ below_zero A m j))

pub slots_push : (A : Store) (ws ws3 ws2 ws1 new : List Pending) (d : ℕ) (m : Scoping) (j : ℕ) → d ≢ 0
    → rests A ws3 ≡ slot_list A (d - 1) m j 3 ++ rests A ws
    → rests A ws2 ≡ slot_list A (d - 1) m j 2 ++ rests A ws3
    → rests A ws1 ≡ slot_list A (d - 1) m j 1 ++ rests A ws2
    → rests A new ≡ slot_list A (d - 1) m j 0 ++ rests A ws1
    → rests A new ≡ below d A m j ++ rests A ws
slots_push A ws ws3 ws2 ws1 new zero m j h p3 p2 p1 p0 = absurd (h refl)
slots_push A ws ws3 ws2 ws1 new (suc d) m j h p3 p2 p1 p0 =
    let k : suc d - 1 ≡ d = omega arith in
    let L : ℕ → List Met = slot_list A (suc d - 1) m j in
    four A ws ws3 ws2 ws1 new (L 0) (L 1) (L 2) (L 3) p3 p2 p1 p0
    ∙ ap (λ z. z ++ rests A ws) (ap (λ z. slot_list A z m j 0 ++ (slot_list A z m j 1 ++ (slot_list A z m j 2 ++ slot_list A z m j 3))) k ∙ sym (below_suc d A m j))

abbrev own_list : Store → Scope → ℕ → List Met
own_list A s k = kept_list A (length A.forest.nodes) (own_scoping A.forest s k) (first_at A.forest s.owner k)

own_all : (A : Store) (s : Scope) → own_places A s ≡ own_list A s 0 ++ (own_list A s 1 ++ (own_list A s 2 ++ own_list A s 3))
unfolding own_places
own_all A s = refl

pub own_push : (A : Store) (ws ws3 ws2 ws1 new : List Pending) (s : Scope)
    → rests A ws3 ≡ own_list A s 3 ++ rests A ws
    → rests A ws2 ≡ own_list A s 2 ++ rests A ws3
    → rests A ws1 ≡ own_list A s 1 ++ rests A ws2
    → rests A new ≡ own_list A s 0 ++ rests A ws1
    → rests A new ≡ own_places A s ++ rests A ws
own_push A ws ws3 ws2 ws1 new s p3 p2 p1 p0 =
    four A ws ws3 ws2 ws1 new (own_list A s 0) (own_list A s 1) (own_list A s 2) (own_list A s 3) p3 p2 p1 p0 ∙ ap (λ z. z ++ rests A ws) (sym (own_all A s))

-- the first place of a list goes: where it is empty, and where a node stands in it
pub step_none : (A : Store) (w : Pending) (old mid : List Pending) (o : Option ℕ) → o ≡ next_at A.forest w.at → rests A mid ≡ listed w.more A w.depth w.scoping o ++ rests A old
    → node_at A.forest w.at ≡ None → rest A w ++ rests A old ≡ met A w.scoping w.at ∷ rests A mid
step_none A w old mid o x m e =
    let u : under A w.depth w.scoping w.at ≡ [] = ap (λ z. of_some z (below w.depth A w.scoping)) e in
    ap (λ z. z ++ rests A old) (listed_some w.more A w.depth w.scoping w.at ∙ ap (λ z. met A w.scoping w.at ∷ (z ++ listed w.more A w.depth w.scoping (next_at A.forest w.at))) u)
    ∙ ap (λ z. met A w.scoping w.at ∷ z) (ap (λ z. listed w.more A w.depth w.scoping z ++ rests A old) (sym x) ∙ sym m)

pub step_some : (A : Store) (w : Pending) (old mid new : List Pending) (o : Option ℕ) (j : ℕ) → o ≡ next_at A.forest w.at → rests A mid ≡ listed w.more A w.depth w.scoping o ++ rests A old
    → node_at A.forest w.at ≡ Some j → rests A new ≡ below w.depth A w.scoping j ++ rests A mid → rest A w ++ rests A old ≡ met A w.scoping w.at ∷ rests A new
step_some A w old mid new o j x m e n =
    let u : under A w.depth w.scoping w.at ≡ below w.depth A w.scoping j = ap (λ z. of_some z (below w.depth A w.scoping)) e in
    let L : List Met = listed w.more A w.depth w.scoping (next_at A.forest w.at) in
    ap (λ z. z ++ rests A old) (listed_some w.more A w.depth w.scoping w.at ∙ ap (λ z. met A w.scoping w.at ∷ (z ++ L)) u)
    ∙ ap (λ z. met A w.scoping w.at ∷ z) (append_assoc (below w.depth A w.scoping j) L (rests A old)
    ∙ (ap (λ z. below w.depth A w.scoping j ++ z) (ap (λ z. listed w.more A w.depth w.scoping z ++ rests A old) (sym x) ∙ sym m) ∙ sym n))

-- at the start the owner's slots are pending, at the end nothing
pub start_rests : (A : Store) (ws : List Pending) (s : Scope) → rests A ws ≡ own_places A s ++ rests A [] → rests A ws ≡ own_places A s
start_rests A ws s e = e ∙ (ap (λ z. own_places A s ++ z) (rests_none A) ∙ append-nil (own_places A s))

pub end_rests : (A : Store) (ws : List Pending) (found : List ℕ) → ws ≡ [] → found ++ binding_places (rests A ws) ≡ found
end_rests A ws found e = ap (λ z. found ++ binding_places z) (ap (rests A) e ∙ rests_none A) ∙ append-nil found

binding_yes : (x : Met) (xs : List Met) → x.binds ≡ true → binding_places (x ∷ xs) ≡ x.place ∷ binding_places xs
binding_yes x xs t = ap (λ b. map place_of (cond b (x ∷ filter is_binding xs) (filter is_binding xs))) t

binding_no : (x : Met) (xs : List Met) → x.binds ≡ false → binding_places (x ∷ xs) ≡ binding_places xs
binding_no x xs t = ap (λ b. map place_of (cond b (x ∷ filter is_binding xs) (filter is_binding xs))) t

popped : (A : Store) (old ws new : List Pending) (w : Pending) → old ≡ ws ++ w ∷ [] → rest A w ++ rests A ws ≡ met A w.scoping w.at ∷ rests A new → rests A old ≡ met A w.scoping w.at ∷ rests A new
popped A old ws new w o e = ap (rests A) o ∙ (rests_push A ws w ∙ e)

pub shorter : (A : Store) (old ws new : List Pending) (w : Pending) → old ≡ ws ++ w ∷ [] → rest A w ++ rests A ws ≡ met A w.scoping w.at ∷ rests A new → length (rests A new) < length (rests A old)
shorter A old ws new w o e = let p = ap length (popped A old ws new w o e) in omega (arith, p)

-- the place that was popped declares a name, or does not
pub kept : (A : Store) (old ws new : List Pending) (w : Pending) (found : List ℕ) → old ≡ ws ++ w ∷ [] → rest A w ++ rests A ws ≡ met A w.scoping w.at ∷ rests A new
    → does_bind A w.scoping w.at ≡ true → (found ++ w.at ∷ []) ++ binding_places (rests A new) ≡ found ++ binding_places (rests A old)
kept A old ws new w found o e t =
    append_assoc found (w.at ∷ []) (binding_places (rests A new))
    ∙ ap (λ z. found ++ z) (sym (ap binding_places (popped A old ws new w o e) ∙ binding_yes (met A w.scoping w.at) (rests A new) t))

pub passed : (A : Store) (old ws new : List Pending) (w : Pending) (found : List ℕ) → old ≡ ws ++ w ∷ [] → rest A w ++ rests A ws ≡ met A w.scoping w.at ∷ rests A new
    → does_bind A w.scoping w.at ≡ false → found ++ binding_places (rests A new) ≡ found ++ binding_places (rests A old)
passed A old ws new w found o e t =
    ap (λ z. found ++ z) (sym (ap binding_places (popped A old ws new w o e) ∙ binding_no (met A w.scoping w.at) (rests A new) t))

-- so the loop goes on
pub told_kept : (A : Store) (old ws new : List Pending) (w : Pending) (found more all : List ℕ) → old ≡ ws ++ w ∷ [] → rest A w ++ rests A ws ≡ met A w.scoping w.at ∷ rests A new
    → does_bind A w.scoping w.at ≡ true → more ≡ found ++ w.at ∷ [] → found ++ binding_places (rests A old) ≡ all → more ++ binding_places (rests A new) ≡ all
told_kept A old ws new w found more all o e t m a = ap (λ z. z ++ binding_places (rests A new)) m ∙ (kept A old ws new w found o e t ∙ a)

pub told_passed : (A : Store) (old ws new : List Pending) (w : Pending) (found all : List ℕ) → old ≡ ws ++ w ∷ [] → rest A w ++ rests A ws ≡ met A w.scoping w.at ∷ rests A new
    → does_bind A w.scoping w.at ≡ false → found ++ binding_places (rests A old) ≡ all → found ++ binding_places (rests A new) ≡ all
told_passed A old ws new w found all o e t a = passed A old ws new w found o e t ∙ a

pub told_end : (A : Store) (ws : List Pending) (found all : List ℕ) → ws ≡ [] → found ++ binding_places (rests A ws) ≡ all → found ≡ all
told_end A ws found all e a = sym (end_rests A ws found e) ∙ a

pub told_start : (A : Store) (ws : List Pending) (s : Scope) → rests A ws ≡ own_places A s ++ rests A [] → [] ++ binding_places (rests A ws) ≡ binding_places (own_places A s)
told_start A ws s e = ap binding_places (start_rests A ws s e)
