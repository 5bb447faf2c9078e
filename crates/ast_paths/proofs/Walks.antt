-- A walk along a list.
use Rattle.std.proofs.Common.{◌≡◌, ◌≢◌, ◌≤◌, ◌<◌, ◌+◌, ◌-◌, sym, ◌∙◌, ap, refl, ℕ, zero, suc, List, map, length, Option, Some, None, slice_get, get_or, arith}
use Rattle.std.proofs.lemmas.Option.{get_or_from_slice_get, slice_get-get_or, slice_get_within}
use Rattle.node_arena.proofs.Pushes.{mapped, mapped_back}
use Rattle.type_defs.specs.declared.kind.Kind.{Kind}
use Rattle.type_defs.specs.Fields.{Field, FieldDef, row_of, slots_at}
use Rattle.node_arena.specs.Forest.{Forest}
use Rattle.node_arena.specs.Reads.{kind_at}
use Rattle.ast_paths.specs.Paths.{IsKid, IsSlotNamed, kid_of, next_some, nth_from}

pub nth_first : (F : Forest) (first : Option ℕ) → nth_from F first 0 ≡ first
unfolding nth_from
nth_first F first = refl

-- one place further
pub nth_more : (F : Forest) (first : Option ℕ) (n : ℕ) → nth_from F first (n + 1) ≡ next_some F (nth_from F first n)
unfolding nth_from
nth_more F first n = let e : n + 1 ≡ suc n = omega arith in ap (nth_from F first) e

gone : (F : Forest) (first : Option ℕ) (n k : ℕ) → nth_from F first n ≡ None → nth_from F first (n + k) ≡ None
gone F first n zero h = let e : n + 0 ≡ n = omega arith in ap (nth_from F first) e ∙ h
gone F first n (suc k) h =
    let e : n + suc k ≡ (n + k) + 1 = omega arith in
    ap (nth_from F first) e ∙ (nth_more F first (n + k) ∙ ap (next_some F) (gone F first n k h))

-- no place comes after the end of a list
pub nth_gone : (F : Forest) (first : Option ℕ) (n m : ℕ) → nth_from F first n ≡ None → n ≤ m → nth_from F first m ≡ None
nth_gone F first n m h l = let e : m ≡ n + (m - n) = omega arith in ap (nth_from F first) e ∙ gone F first n (m - n) h

pub kid_found : (F : Forest) (j slot index : ℕ) (name : List ℕ) (o : Option ℕ) → IsSlotNamed (kind_at F j) slot name → o ≡ kid_of F j slot index → IsKid F j name index o
kid_found F j slot index name o n e = record { slot = slot; named = n; is = e }

-- a slot of the table that has the name
pub slot_found : (kind : Kind) (i : ℕ) (fs : List FieldDef) (f : FieldDef) (name : List ℕ) → map row_of fs ≡ slots_at kind → slice_get fs i ≡ Some f → f.0.now ≡ name → IsSlotNamed kind i name
slot_found kind i fs f name e g n = record { field = row_of f; is = ap (λ z. slice_get z i) (sym e) ∙ mapped row_of fs i f g; named = n }

pub slot_found_at : (kind : Kind) (i : ℕ) (fs : List FieldDef) (d : FieldDef) (name : List ℕ) → map row_of fs ≡ slots_at kind → i < length fs → (get_or fs i d).0.now ≡ name → IsSlotNamed kind i name
slot_found_at kind i fs d name e l n = slot_found kind i fs (get_or fs i d) name e (slice_get-get_or fs i d l) n

-- a slot of another name
pub slot_lacks : (kind : Kind) (i : ℕ) (fs : List FieldDef) (d : FieldDef) (name : List ℕ) → map row_of fs ≡ slots_at kind → (get_or fs i d).0.now ≢ name → (field : Field) → slice_get (slots_at kind) i ≡ Some field → field.name ≢ name
slot_lacks kind i fs d name e other field g h =
    let back = mapped_back row_of fs i field (ap (λ z. slice_get z i) e ∙ g) in
    let same : get_or fs i d ≡ back.0 = get_or_from_slice_get fs i back.0 d back.1 in
    other (ap (λ (z : FieldDef). z.0.now) same ∙ (ap (λ (z : Field). z.name) back.2 ∙ h))

-- a slot has a row of the table
pub slot_within : (kind : Kind) (i : ℕ) (fs : List FieldDef) (field : Field) → map row_of fs ≡ slots_at kind → slice_get (slots_at kind) i ≡ Some field → i < length fs
slot_within kind i fs field e g =
    let back = mapped_back row_of fs i field (ap (λ z. slice_get z i) e ∙ g) in
    slice_get_within fs i back.0 back.1
