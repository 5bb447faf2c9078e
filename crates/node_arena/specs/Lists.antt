-- Lists of numbers.
use Rattle.std.specs.Prelude.{◌≡◌, ◌⊎◌, ℕ, Bool, List, [], ◌∷◌, Option, Some, ◌==◌, if◌then◌else◌}
use Rattle.type_defs.specs.Fields.{FieldDef}

abbrev pub is_list : FieldDef → Bool
is_list f = f.1.list

-- the number is in the list
abbrev pub Among : ℕ → List ℕ → Type 0
Among x [] = ⊥
Among x (y ∷ ys) = (x ≡ y) ⊎ Among x ys

-- no number comes twice
abbrev pub Distinct : List ℕ → Type 0
Distinct [] = Unit {0}
Distinct (x ∷ xs) = (Among x xs → ⊥) × Distinct xs

-- the first number, or what follows where there is none
abbrev pub head_or : List ℕ → Option ℕ → Option ℕ
head_or [] o = o
head_or (x ∷ xs) o = Some x

-- the last number, or what goes before where there is none
abbrev pub last_or : List ℕ → Option ℕ → Option ℕ
last_or [] o = o
last_or (x ∷ xs) o = last_or xs (Some x)

-- q after p
abbrev pub insert_after : ℕ → ℕ → List ℕ → List ℕ
insert_after p q [] = []
insert_after p q (x ∷ xs) = if x == p then x ∷ (q ∷ xs) else x ∷ insert_after p q xs

-- q before p
abbrev pub insert_before : ℕ → ℕ → List ℕ → List ℕ
insert_before p q [] = []
insert_before p q (x ∷ xs) = if x == p then q ∷ (x ∷ xs) else x ∷ insert_before p q xs

-- without p
abbrev pub without : ℕ → List ℕ → List ℕ
without p [] = []
without p (x ∷ xs) = if x == p then xs else x ∷ without p xs
