-- The table that an arena begins with.
use Rattle.std.proofs.Common.{◌≡◌, sym, ◌∙◌, ap, subst, refl, ℕ, zero, suc, [], ◌∷◌, Some, None, slice_get, arith}
use Rattle.node_arena.specs.Rows.{Table, start_rows, start_table}
use Rattle.node_arena.specs.Forest.{Place, Stands, forest_of, ends, IsLawful, IsTable, start_forest}
use Rattle.node_arena.proofs.Standing.{Keeps, table_from}

only : {A : Type 0} → (x : A) (i : ℕ) (y : A) → slice_get (x ∷ []) i ≡ Some y → y ≡ x
only x zero y g = cc
only x (suc i) y g = absurd (cc)

nothing : {A : Type 0} → (i : ℕ) (y : A) → slice_get [] i ≡ Some y → ⊥
nothing i y g = cc

lawful_start : IsLawful start_forest
lawful_start = record {
  shape = record { slotted = λ j k m g lt. absurd (nothing j m g); based = λ s n g. absurd (nothing s n g) };
  lists = record {
    owned = λ x s q g o. let none : None ≡ Some s = ap (λ (z : Place). z.owner) (sym (only _ x q g)) ∙ o in absurd (cc);
    owner = λ s x n g m. absurd (nothing s n g);
    distinct = λ s n g. absurd (nothing s n g);
    single = λ s n g l. absurd (nothing s n g);
  };
  seats = record {
    seated = λ x j q g h. let none : None ≡ Some j = ap (λ (z : Place). z.node) (sym (only _ x q g)) ∙ h in absurd (cc);
    seat = λ j x m g a. absurd (nothing j m g);
  };
  root = record { place = record { owner = None; node = None }; is = refl; owner = refl };
  ended = λ i. ends (λ x j b. absurd (nothing b.at.number b.at.slot b.at.slot_is));
}

stands_start : Stands start_rows start_forest
stands_start = record { nodes = refl; slots = refl; places = refl; chains = λ s n g. absurd (nothing s n g) }

start_keeps : Keeps start_rows start_forest
start_keeps = table_from start_rows start_forest stands_start lawful_start (omega arith) (omega arith) (omega arith)

pub start_table_is : (t : Table) → t ≡ start_table → IsTable t.rows
start_table_is t e = subst (λ (z : Table). IsTable z.rows) (sym e) start_keeps.0

pub start_shows : (t : Table) → t ≡ start_table → forest_of t.rows ≡ start_forest
start_shows t e = ap (λ (z : Table). forest_of z.rows) e ∙ start_keeps.1
