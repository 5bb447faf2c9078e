-- Steps along lists of patterns and of places.
use Rattle.std.proofs.Common.{◌≡◌, ℕ, zero, suc, ◌+◌, ◌-◌, ◌<◌, ◌≤◌, min, Bool, true, false, cond, not, List, [], ◌∷◌, length, get_or, map, drop, drop-cons, add-one, Option, Some, None, refl, sym, ap, ◌∙◌, arith}
use Rattle.std.proofs.Math.ListN.{drop_of_length-le}
use Rattle.std.proofs.Math.Nat.{min-eq_left}
use Rattle.std.proofs.lemmas.List.{length-map}
use Rattle.node_arena.specs.Forest.{Forest}
use Rattle.node_arena.specs.Reads.{next_at}
use Rattle.node_arena.specs.Store.{Store}
use Rattle.collections.specs.declared.pattern.Pattern.{Pattern}
use Rattle.collections.specs.declared.pattern.FieldPattern.{FieldPattern, fold-roll-FieldPattern}
use Rattle.collections.specs.Reads.{Reading, field_read, list}
use Rattle.collections.specs.Matches.{Told, Try, NodeTry, pattern_step, field_step, also, field_tried, fields_told, has_places, items_told, list_told, told, tried}

suc_less : (n i : ℕ) → i < n → n - i ≡ suc (n - (i + 1))
suc_less n i h = omega (arith, h)

pub long_none : (F : Forest) (n i : ℕ) (b : Bool) → i < n → has_places F (n - i) None ≡ b → b ≡ false
long_none F n i b h e = sym e ∙ ap (λ z. has_places F z None) (suc_less n i h)

pub long_some : (F : Forest) (n i p : ℕ) (b : Bool) → i < n → has_places F (n - i) (Some p) ≡ b → has_places F (n - (i + 1)) (next_at F p) ≡ b
long_some F n i p b h e = sym (ap (λ z. has_places F z (Some p)) (suc_less n i h)) ∙ e

pub long_end : (F : Forest) (n i : ℕ) (at : Option ℕ) (b : Bool) → n ≤ i → has_places F (n - i) at ≡ b → b ≡ true
long_end F n i at b h e = let k : n - i ≡ zero = omega (arith, h) in sym e ∙ ap (λ z. has_places F z at) k

-- nothing more is visited, and what was counted is all
ended : (v w n : ℕ) → w ≡ 0 → v ≤ 18446744073709551615 → min (v + w) 18446744073709551615 ≡ n → v ≡ n
ended v w n e h m =
    let s : v ≡ v + w = omega (arith, e) in
    let l : v + w ≤ 18446744073709551615 = omega (arith, e, h) in
    s ∙ (sym (min-eq_left l) ∙ m)

no_items : (A : Store) (ts : List Try) → (items_told ts A None).visits ≡ 0
no_items A [] = refl
no_items A (t ∷ ts) = refl

pub fields_end : (A : Store) (j i v n : ℕ) (fs : List FieldPattern) → length fs ≤ i → v ≤ 18446744073709551615
    → min (v + (fields_told (map field_tried (drop i fs)) A j).visits) 18446744073709551615 ≡ n → v ≡ n
fields_end A j i v n fs h l m = ended v (fields_told (map field_tried (drop i fs)) A j).visits n (ap (λ z. (fields_told (map field_tried z) A j).visits) (drop_of_length-le fs h)) l m

pub items_end : (A : Store) (i v n : ℕ) (at : Option ℕ) (ps : List Pattern) → length ps ≤ i → v ≤ 18446744073709551615
    → min (v + (items_told (map tried (drop i ps)) A at).visits) 18446744073709551615 ≡ n → v ≡ n
items_end A i v n at ps h l m = ended v (items_told (map tried (drop i ps)) A at).visits n (ap (λ z. (items_told (map tried z) A at).visits) (drop_of_length-le ps h)) l m

pub items_none : (A : Store) (i v n : ℕ) (at : Option ℕ) (ps : List Pattern) → at ≡ None → v ≤ 18446744073709551615
    → min (v + (items_told (map tried (drop i ps)) A at).visits) 18446744073709551615 ≡ n → v ≡ n
items_none A i v n at ps e l m =
    ended v (items_told (map tried (drop i ps)) A at).visits n (ap (λ z. (items_told (map tried (drop i ps)) A z).visits) e ∙ no_items A (map tried (drop i ps))) l m

-- what is told of a list that is long enough
pub told_long : (A : Store) (at : Option ℕ) (ps : List Pattern) (v : ℕ) → has_places A.forest (length ps) at ≡ true → v ≡ min (items_told (map tried ps) A at).visits 18446744073709551615
    → v ≡ min (list_told (map tried ps) A (list at)).visits 18446744073709551615
told_long A at ps v h e =
    let b : has_places A.forest (length (map tried ps)) at ≡ true = ap (λ n. has_places A.forest n at) (length-map ps tried) ∙ h in
    e ∙ ap (λ (z : Bool). min (cond z (items_told (map tried ps) A at) (told false)).visits 18446744073709551615) (sym b)

-- a field that fits, and those behind it
also_true : (a b : Told) → a.fits ≡ true → also a b ≡ record { fits = b.fits; visits = a.visits + b.visits }
also_true a b e = ap (λ z. cond z (record { fits = b.fits; visits = a.visits + b.visits }) a) e

abbrev from_field : Store → ℕ → ℕ → List FieldPattern → Told
from_field A j i fs = fields_told (map field_tried (drop i fs)) A j

told_next : (A : Store) (j i : ℕ) (fs : List FieldPattern) (f : FieldPattern) → i < length fs → f ≡ get_or fs i f → (field_tried f A j).fits ≡ true
    → from_field A j i fs ≡ record { fits = (from_field A j (i + 1) fs).fits; visits = (field_tried f A j).visits + (from_field A j (i + 1) fs).visits }
told_next A j i fs f h g t =
    let d : drop i fs ≡ f ∷ drop (i + 1) fs = drop-cons fs i f h ∙ (ap (λ z. z ∷ drop (suc i) fs) (sym g) ∙ ap (λ n. f ∷ drop n fs) (sym (add-one i))) in
    ap (λ z. fields_told (map field_tried z) A j) d ∙ also_true (field_tried f A j) (from_field A j (i + 1) fs) t

-- what a field's pattern tells of what the field reads as is what the field tells of the node
field_is : (A : Store) (j : ℕ) (f : FieldPattern) → tried f.pattern A (field_read A j f.name) ≡ field_tried f A j
field_is A j f = sym (ap (λ (t : NodeTry). t A j) (fold-roll-FieldPattern Try NodeTry pattern_step field_step (record { name = f.name; pattern = f.pattern })))

not_no : (b : Bool) → not b ≡ false → b ≡ true
not_no true e = refl
not_no false e = let f : true ≡ false = e in cc

sum_step : (v a r w n : ℕ) → w ≡ min a 18446744073709551615 → n ≡ min (v + w) 18446744073709551615 → min (n + r) 18446744073709551615 ≡ min (v + (a + r)) 18446744073709551615
sum_step v a r w n e f = omega (arith, e, f)

pub fields_next : (A : Store) (j i v n w : ℕ) (fs : List FieldPattern) (f : FieldPattern) (name : List ℕ) (r : Reading) (b : Bool) (all : Told) → i < length fs → f ≡ get_or fs i f → name ≡ f.name
    → r ≡ field_read A j name → b ≡ (tried f.pattern A r).fits → w ≡ min (tried f.pattern A r).visits 18446744073709551615 → not b ≡ false → n ≡ min (v + w) 18446744073709551615
    → (from_field A j i fs).fits ≡ all.fits → min (v + (from_field A j i fs).visits) 18446744073709551615 ≡ min all.visits 18446744073709551615
    → ((from_field A j (i + 1) fs).fits ≡ all.fits) × (min (n + (from_field A j (i + 1) fs).visits) 18446744073709551615 ≡ min all.visits 18446744073709551615)
fields_next A j i v n w fs f name r b all h g en er eb ew unlike sum fits visits =
    let q : tried f.pattern A r ≡ field_tried f A j = ap (tried f.pattern A) (er ∙ ap (field_read A j) en) ∙ field_is A j f in
    let yes : (field_tried f A j).fits ≡ true = sym (ap (λ (z : Told). z.fits) q) ∙ (sym eb ∙ not_no b unlike) in
    let counted : w ≡ min (field_tried f A j).visits 18446744073709551615 = ew ∙ ap (λ (z : Told). min z.visits 18446744073709551615) q in
    let d = told_next A j i fs f h g yes in (
      sym (ap (λ (z : Told). z.fits) d) ∙ fits,
      sum_step v (field_tried f A j).visits (from_field A j (i + 1) fs).visits w n counted sum ∙ (sym (ap (λ (z : Told). min (v + z.visits) 18446744073709551615) d) ∙ visits),
    )
