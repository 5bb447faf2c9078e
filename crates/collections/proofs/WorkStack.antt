-- What waits on a stack of lists, and what a pop and the pushes change of it.
use Rattle.std.proofs.Common.{◌≡◌, ◌≢◌, ℕ, zero, suc, ◌-◌, ◌<◌, List, [], ◌∷◌, ◌++◌, length, filter, Bool, true, false, cond, Option, Some, None, refl, sym, ap, ◌∙◌, append_assoc, append-nil, arith}
use Rattle.type_defs.specs.declared.groups.NodeType.{NodeType}
use Rattle.node_arena.specs.Forest.{Forest, node_at}
use Rattle.node_arena.specs.Reads.{first_at, next_at}
use Rattle.collections.specs.declared.preorder.Pending.{Pending}
use Rattle.collections.specs.Below.{along, below, is_of, listed, of_some, rest, rests, under}

listed_zero : (F : Forest) (d : ℕ) (at : Option ℕ) → listed 0 F d at ≡ []
unfolding listed along
listed_zero F d at = refl

listed_none : (n : ℕ) (F : Forest) (d : ℕ) → listed n F d None ≡ []
unfolding listed along
listed_none zero F d = refl
listed_none (suc n) F d = refl

listed_some : (n : ℕ) (F : Forest) (d p : ℕ) → listed (suc n) F d (Some p) ≡ p ∷ (under F d p ++ listed n F d (next_at F p))
unfolding listed along
listed_some n F d p = refl

below_zero : (F : Forest) (j : ℕ) → below 0 F j ≡ []
unfolding below
below_zero F j = refl

below_suc : (d : ℕ) (F : Forest) (j : ℕ) → below (suc d) F j ≡
    listed (length F.places) F d (first_at F j 0) ++ (listed (length F.places) F d (first_at F j 1) ++ (listed (length F.places) F d (first_at F j 2) ++ listed (length F.places) F d (first_at F j 3)))
unfolding below listed
below_suc d F j = refl

rests_none : (F : Forest) → rests F [] ≡ []
unfolding rests
rests_none F = refl

pub rests_push : (F : Forest) (ws : List Pending) (w : Pending) → rests F (ws ++ w ∷ []) ≡ rest F w ++ rests F ws
unfolding rests
rests_push F [] w = sym (append-nil (rest F w))
rests_push F (v ∷ ws) w = ap (λ z. z ++ rest F v) (rests_push F ws w) ∙ append_assoc (rest F w) (rests F ws) (rest F v)

-- a list of no places, and one without a first place, are pushed as nothing
pub push_zero : (F : Forest) (ws : List Pending) (n d : ℕ) (at : Option ℕ) → n ≡ 0 → rests F ws ≡ listed n F d at ++ rests F ws
push_zero F ws n d at e = ap (λ z. z ++ rests F ws) (sym (ap (λ z. listed z F d at) e ∙ listed_zero F d at))

pub push_none : (F : Forest) (ws : List Pending) (n d : ℕ) (at : Option ℕ) → at ≡ None → rests F ws ≡ listed n F d at ++ rests F ws
push_none F ws n d at e = ap (λ z. z ++ rests F ws) (sym (ap (listed n F d) e ∙ listed_none n F d))

pub push_some : (F : Forest) (ws new : List Pending) (n d p : ℕ) (at : Option ℕ) → n ≢ 0 → at ≡ Some p
    → new ≡ ws ++ record { at = p; more = n - 1; depth = d } ∷ [] → rests F new ≡ listed n F d at ++ rests F ws
push_some F ws new zero d p at h e m = absurd (h refl)
push_some F ws new (suc n) d p at h e m =
    let k : suc n - 1 ≡ n = omega arith in
    ap (rests F) m ∙ (rests_push F ws (record { at = p; more = suc n - 1; depth = d })
    ∙ ap (λ z. z ++ rests F ws) (ap (λ z. listed (suc z) F d (Some p)) k ∙ ap (listed (suc n) F d) (sym e)))

pub slots_zero : (F : Forest) (ws : List Pending) (d j : ℕ) → d ≡ 0 → rests F ws ≡ below d F j ++ rests F ws
slots_zero F ws d j e = ap (λ z. z ++ rests F ws) (sym (ap (λ z. below z F j) e ∙ below_zero F j))

joined : (a b c d r : List ℕ) → a ++ (b ++ (c ++ (d ++ r))) ≡ (a ++ (b ++ (c ++ d))) ++ r
joined a b c d r =
    ap (λ z. a ++ (b ++ z)) (sym (append_assoc c d r))
    ∙ (ap (λ z. a ++ z) (sym (append_assoc b (c ++ d) r)) ∙ sym (append_assoc a (b ++ (c ++ d)) r))

pub slots_push : (F : Forest) (ws ws3 ws2 ws1 new : List Pending) (d n j : ℕ) (o0 o1 o2 o3 : Option ℕ) → d ≢ 0 → n ≡ length F.places
    → o3 ≡ first_at F j 3 → rests F ws3 ≡ listed n F (d - 1) o3 ++ rests F ws
    → o2 ≡ first_at F j 2 → rests F ws2 ≡ listed n F (d - 1) o2 ++ rests F ws3
    → o1 ≡ first_at F j 1 → rests F ws1 ≡ listed n F (d - 1) o1 ++ rests F ws2
    → o0 ≡ first_at F j 0 → rests F new ≡ listed n F (d - 1) o0 ++ rests F ws1
    → rests F new ≡ below d F j ++ rests F ws
slots_push F ws ws3 ws2 ws1 new zero n j o0 o1 o2 o3 h m e3 p3 e2 p2 e1 p1 e0 p0 = absurd (h refl)
slots_push F ws ws3 ws2 ws1 new (suc d) n j o0 o1 o2 o3 h m e3 p3 e2 p2 e1 p1 e0 p0 =
    let k : suc d - 1 ≡ d = omega arith in
    let L : Option ℕ → List ℕ = listed (length F.places) F d in
    let s : (o : Option ℕ) → listed n F (suc d - 1) o ≡ L o = λ o. ap (λ z. listed z F (suc d - 1) o) m ∙ ap (λ z. listed (length F.places) F z o) k in
    let q3 : rests F ws3 ≡ L (first_at F j 3) ++ rests F ws = p3 ∙ ap (λ z. z ++ rests F ws) (s o3 ∙ ap L e3) in
    let q2 : rests F ws2 ≡ L (first_at F j 2) ++ rests F ws3 = p2 ∙ ap (λ z. z ++ rests F ws3) (s o2 ∙ ap L e2) in
    let q1 : rests F ws1 ≡ L (first_at F j 1) ++ rests F ws2 = p1 ∙ ap (λ z. z ++ rests F ws2) (s o1 ∙ ap L e1) in
    let q0 : rests F new ≡ L (first_at F j 0) ++ rests F ws1 = p0 ∙ ap (λ z. z ++ rests F ws1) (s o0 ∙ ap L e0) in
    q0
    ∙ (ap (λ z. L (first_at F j 0) ++ z) (q1 ∙ ap (λ z. L (first_at F j 1) ++ z) (q2 ∙ ap (λ z. L (first_at F j 2) ++ z) q3))
    ∙ (joined (L (first_at F j 0)) (L (first_at F j 1)) (L (first_at F j 2)) (L (first_at F j 3)) (rests F ws)
    ∙ ap (λ z. z ++ rests F ws) (sym (below_suc d F j))))

-- the first place of a list goes: where it is empty, and where a node stands in it
pub step_none : (F : Forest) (w : Pending) (old mid : List Pending) (o : Option ℕ) → o ≡ next_at F w.at → rests F mid ≡ listed w.more F w.depth o ++ rests F old
    → node_at F w.at ≡ None → rest F w ++ rests F old ≡ w.at ∷ rests F mid
step_none F w old mid o x m e =
    let u : under F w.depth w.at ≡ [] = ap (λ z. of_some z (below w.depth F)) e in
    ap (λ z. z ++ rests F old) (listed_some w.more F w.depth w.at ∙ ap (λ z. w.at ∷ (z ++ listed w.more F w.depth (next_at F w.at))) u)
    ∙ ap (λ z. w.at ∷ z) (ap (λ z. listed w.more F w.depth z ++ rests F old) (sym x) ∙ sym m)

pub step_some : (F : Forest) (w : Pending) (old mid new : List Pending) (o : Option ℕ) (j : ℕ) → o ≡ next_at F w.at → rests F mid ≡ listed w.more F w.depth o ++ rests F old
    → node_at F w.at ≡ Some j → rests F new ≡ below w.depth F j ++ rests F mid → rest F w ++ rests F old ≡ w.at ∷ rests F new
step_some F w old mid new o j x m e n =
    let u : under F w.depth w.at ≡ below w.depth F j = ap (λ z. of_some z (below w.depth F)) e in
    let L = listed w.more F w.depth (next_at F w.at) in
    ap (λ z. z ++ rests F old) (listed_some w.more F w.depth w.at ∙ ap (λ z. w.at ∷ (z ++ L)) u)
    ∙ ap (λ z. w.at ∷ z) (append_assoc (below w.depth F j) L (rests F old)
    ∙ (ap (λ z. below w.depth F j ++ z) (ap (λ z. listed w.more F w.depth z ++ rests F old) (sym x) ∙ sym m) ∙ sym n))

-- at the start one node's slots are pending, at the end nothing
pub start_rests : (F : Forest) (ws : List Pending) (d j : ℕ) → rests F ws ≡ below d F j ++ rests F [] → rests F ws ≡ below d F j
start_rests F ws d j e = e ∙ (ap (λ z. below d F j ++ z) (rests_none F) ∙ append-nil (below d F j))

pub end_rests : (F : Forest) (ws : List Pending) (f : ℕ → Bool) (found : List ℕ) → ws ≡ [] → found ++ filter f (rests F ws) ≡ found
end_rests F ws f found e = ap (λ z. found ++ filter f z) (ap (rests F) e ∙ rests_none F) ∙ append-nil found

filter_yes : (f : ℕ → Bool) (x : ℕ) (xs : List ℕ) → f x ≡ true → filter f (x ∷ xs) ≡ x ∷ filter f xs
filter_yes f x xs t = ap (λ b. cond b (x ∷ filter f xs) (filter f xs)) t

filter_no : (f : ℕ → Bool) (x : ℕ) (xs : List ℕ) → f x ≡ false → filter f (x ∷ xs) ≡ filter f xs
filter_no f x xs t = ap (λ b. cond b (x ∷ filter f xs) (filter f xs)) t

pub popped : (F : Forest) (old ws new : List Pending) (w : Pending) → old ≡ ws ++ w ∷ [] → rest F w ++ rests F ws ≡ w.at ∷ rests F new → rests F old ≡ w.at ∷ rests F new
popped F old ws new w o e = ap (rests F) o ∙ (rests_push F ws w ∙ e)

pub shorter : (F : Forest) (old ws new : List Pending) (w : Pending) → old ≡ ws ++ w ∷ [] → rest F w ++ rests F ws ≡ w.at ∷ rests F new → length (rests F new) < length (rests F old)
shorter F old ws new w o e = let p = ap length (popped F old ws new w o e) in omega (arith, p)

-- the place that was popped is found, or is not
pub kept : (F : Forest) (old ws new : List Pending) (w : Pending) (of : NodeType) (found : List ℕ) → old ≡ ws ++ w ∷ [] → rest F w ++ rests F ws ≡ w.at ∷ rests F new
    → is_of F of w.at ≡ true → (found ++ w.at ∷ []) ++ filter (is_of F of) (rests F new) ≡ found ++ filter (is_of F of) (rests F old)
kept F old ws new w of found o e t =
    append_assoc found (w.at ∷ []) (filter (is_of F of) (rests F new))
    ∙ ap (λ z. found ++ z) (sym (ap (filter (is_of F of)) (popped F old ws new w o e) ∙ filter_yes (is_of F of) w.at (rests F new) t))

pub passed : (F : Forest) (old ws new : List Pending) (w : Pending) (of : NodeType) (found : List ℕ) → old ≡ ws ++ w ∷ [] → rest F w ++ rests F ws ≡ w.at ∷ rests F new
    → is_of F of w.at ≡ false → found ++ filter (is_of F of) (rests F new) ≡ found ++ filter (is_of F of) (rests F old)
passed F old ws new w of found o e t =
    ap (λ z. found ++ z) (sym (ap (filter (is_of F of)) (popped F old ws new w o e) ∙ filter_no (is_of F of) w.at (rests F new) t))

-- so the loop goes on
pub told_kept : (F : Forest) (old ws new : List Pending) (w : Pending) (of : NodeType) (found more all : List ℕ) → old ≡ ws ++ w ∷ [] → rest F w ++ rests F ws ≡ w.at ∷ rests F new
    → is_of F of w.at ≡ true → more ≡ found ++ w.at ∷ [] → found ++ filter (is_of F of) (rests F old) ≡ all → more ++ filter (is_of F of) (rests F new) ≡ all
told_kept F old ws new w of found more all o e t m a = ap (λ z. z ++ filter (is_of F of) (rests F new)) m ∙ (kept F old ws new w of found o e t ∙ a)

pub told_passed : (F : Forest) (old ws new : List Pending) (w : Pending) (of : NodeType) (found all : List ℕ) → old ≡ ws ++ w ∷ [] → rest F w ++ rests F ws ≡ w.at ∷ rests F new
    → is_of F of w.at ≡ false → found ++ filter (is_of F of) (rests F old) ≡ all → found ++ filter (is_of F of) (rests F new) ≡ all
told_passed F old ws new w of found all o e t a = passed F old ws new w of found o e t ∙ a

pub told_end : (F : Forest) (ws : List Pending) (f : ℕ → Bool) (found all : List ℕ) → ws ≡ [] → found ++ filter f (rests F ws) ≡ all → found ≡ all
told_end F ws f found all e a = sym (end_rests F ws f found e) ∙ a

pub told_start : (F : Forest) (ws : List Pending) (d j : ℕ) (f : ℕ → Bool) → rests F ws ≡ below d F j ++ rests F [] → [] ++ filter f (rests F ws) ≡ filter f (below d F j)
told_start F ws d j f e = ap (filter f) (start_rests F ws d j e)
