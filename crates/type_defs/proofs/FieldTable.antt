-- What holds of the fields of every kind: a test of each row, and what the test means.
use Rattle.std.proofs.Common.{◌≡◌, ◌≤◌, refl, ℕ, zero, suc, ◌+◌, Bool, true, false, ◌&&◌, nat_le, not, cond, count_by, filter, drop, length, sym, ap, ◌∙◌, List, [], ◌∷◌, map, slice_index_or, arith, zero-add}
use Rattle.std.proofs.lemmas.Bool.{and_parts, leb-true}
use Rattle.std.proofs.lemmas.List.{drop-map, length-map}
use Rattle.std.proofs.lemmas.List.Sums.{sum_by-cons}
use Rattle.type_defs.specs.declared.kind.Kind.{Kind}
use Rattle.type_defs.specs.Kinds.{place_of}
use Rattle.type_defs.specs.Fields.{Field, FieldDef, field_lists, row_of, fields_of, is_scalar, is_slot, scalar_count, slots_at}

are_slots : List Field → Bool
are_slots [] = true
are_slots (f ∷ fs) = f.slot && are_slots fs

-- no scalar stands behind a slot
scalars_first : List Field → Bool
scalars_first [] = true
scalars_first (f ∷ fs) = cond f.slot (are_slots fs) (scalars_first fs)

abbrev is_sound : List Field → Bool
is_sound fs = nat_le (count_by is_scalar fs) 4 && (nat_le (length (filter is_slot fs)) 4 && scalars_first fs)

are_sound : List (List Field) → Bool
are_sound [] = true
are_sound (fs ∷ more) = is_sound fs && are_sound more

tested : are_sound field_lists ≡ true
unfolding field_lists are_sound scalars_first are_slots
tested = refl

sound_at : (all : List (List Field)) (i : ℕ) → are_sound all ≡ true → is_sound (slice_index_or all i []) ≡ true
unfolding are_sound scalars_first
sound_at [] i h = refl
sound_at (fs ∷ more) zero h = (and_parts (is_sound fs) (are_sound more) h).0
sound_at (fs ∷ more) (suc i) h = sound_at more i (and_parts (is_sound fs) (are_sound more) h).1

-- the slots of a list that begins with f
abbrev Slots : Bool → Field → List Field → List Field
Slots slot f fs = cond slot (f ∷ filter is_slot fs) (filter is_slot fs)

all_slots : (fs : List Field) → are_slots fs ≡ true → filter is_slot fs ≡ fs
unfolding are_slots
all_slots [] h = refl
all_slots (f ∷ fs) h = let p = and_parts f.slot (are_slots fs) h in ap (λ b. Slots b f fs) p.0 ∙ ap (λ xs. f ∷ xs) (all_slots fs p.1)

counted : (f : Field) (fs : List Field) (slot : Bool) → f.slot ≡ slot → count_by is_scalar (f ∷ fs) ≡ cond (not slot) 1 0 + count_by is_scalar fs
counted f fs slot e = sum_by-cons (λ x. cond (is_scalar x) 1 0) f fs ∙ ap (λ b. cond (not b) 1 0 + count_by is_scalar fs) e

no_scalars : (fs : List Field) → are_slots fs ≡ true → count_by is_scalar fs ≡ 0
unfolding are_slots
no_scalars [] h = refl
no_scalars (f ∷ fs) h = let p = and_parts f.slot (are_slots fs) h in counted f fs true p.0 ∙ (zero-add (count_by is_scalar fs) ∙ no_scalars fs p.1)

behind : (fs : List Field) → scalars_first fs ≡ true → drop (count_by is_scalar fs) fs ≡ filter is_slot fs
unfolding scalars_first
behind [] h = refl
behind (f ∷ fs) h = elim f.slot as (λ b. f.slot ≡ b → drop (count_by is_scalar (f ∷ fs)) (f ∷ fs) ≡ filter is_slot (f ∷ fs)) [
  | true ↦ λ e.
      let slots : are_slots fs ≡ true = ap (λ b. cond b (are_slots fs) (scalars_first fs)) (sym e) ∙ h in
      let none : count_by is_scalar (f ∷ fs) ≡ 0 = counted f fs true e ∙ (zero-add (count_by is_scalar fs) ∙ no_scalars fs slots) in
      ap (λ n. drop n (f ∷ fs)) none ∙ (ap (λ xs. f ∷ xs) (sym (all_slots fs slots)) ∙ ap (λ b. Slots b f fs) (sym e))
  | false ↦ λ e.
      let later : scalars_first fs ≡ true = ap (λ b. cond b (are_slots fs) (scalars_first fs)) (sym e) ∙ h in
      let one : 1 + count_by is_scalar fs ≡ suc (count_by is_scalar fs) = omega arith in
      ap (λ n. drop n (f ∷ fs)) (counted f fs false e ∙ one) ∙ (behind fs later ∙ ap (λ b. Slots b f fs) (sym e))
] refl

-- the three parts of the test
sound : (kind : Kind) → (scalar_count kind ≤ 4) × ((length (slots_at kind) ≤ 4) × (drop (scalar_count kind) (fields_of kind) ≡ slots_at kind))
unfolding fields_of
sound kind =
    let fs = fields_of kind in
    let p = and_parts (nat_le (count_by is_scalar fs) 4) (nat_le (length (filter is_slot fs)) 4 && scalars_first fs) (sound_at field_lists (place_of kind) tested) in
    let q = and_parts (nat_le (length (filter is_slot fs)) 4) (scalars_first fs) p.1 in
    (leb-true (count_by is_scalar fs) 4 p.0, (leb-true (length (filter is_slot fs)) 4 q.0, behind fs q.1))

pub scalar_count_few : (kind : Kind) → scalar_count kind ≤ 4
scalar_count_few kind = (sound kind).0

pub slots_at_few : (kind : Kind) → length (slots_at kind) ≤ 4
slots_at_few kind = (sound kind).1.0

-- the slots are the fields behind the scalars
pub slots_behind : (kind : Kind) (defs : List FieldDef) → map row_of defs ≡ fields_of kind → map row_of (drop (scalar_count kind) defs) ≡ slots_at kind
slots_behind kind defs e = sym (drop-map row_of (scalar_count kind) defs) ∙ (ap (drop (scalar_count kind)) e ∙ (sound kind).1.1)

pub slots_few : (kind : Kind) (slots : List FieldDef) → map row_of slots ≡ slots_at kind → length slots ≤ 4
slots_few kind slots e = let few = slots_at_few kind in omega (arith, simp length-map at (ap length e))
