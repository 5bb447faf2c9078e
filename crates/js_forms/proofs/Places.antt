-- The levels of the second and of the third part of the table.
use Rattle.std.proofs.Common.{◌≡◌, ◌∙◌, ◌≤◌, ◌<◌, ◌-◌, ℕ, true, false, refl, sym, ap}
use Rattle.std.specs.Prelude.{nat_lt, slice_index_or}
use Rattle.std.proofs.lemmas.Bool.{le-ltb, lt-ltb}
use Rattle.js_forms.specs.declared.form.Form.{Form}
use Rattle.js_forms.specs.Table.{place_of, level_at, table_level, operation_levels, statement_levels}

pub second_level : (form : Form) (at level : ℕ) → at ≡ place_of form → 23 ≤ at → at < 52 → level ≡ slice_index_or operation_levels (at - 23) 0 → level ≡ table_level form
second_level _ at level place low high is =
    let one : nat_lt at 23 ≡ false = le-ltb at 23 low in
    let two : nat_lt at 52 ≡ true = lt-ltb at 52 high in
    let found : level_at at ≡ slice_index_or operation_levels (at - 23) 0 = rw (one, two) refl in
    is ∙ (sym found ∙ ap level_at place)

pub third_level : (form : Form) (at level : ℕ) → at ≡ place_of form → 23 ≤ at → 52 ≤ at → at < 82 → level ≡ slice_index_or statement_levels (at - 52) 0 → level ≡ table_level form
third_level _ at level place low more high is =
    let one : nat_lt at 23 ≡ false = le-ltb at 23 low in
    let two : nat_lt at 52 ≡ false = le-ltb at 52 more in
    let three : nat_lt at 82 ≡ true = lt-ltb at 82 high in
    let found : level_at at ≡ slice_index_or statement_levels (at - 52) 0 = rw (one, two, three) refl in
    is ∙ (sym found ∙ ap level_at place)
