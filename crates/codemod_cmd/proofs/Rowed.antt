-- What rows leave, count and show, of lists of rows that are put together.
use Rattle.std.proofs.Common.{◌≡◌, ℕ, ◌+◌, ◌-◌, ◌^◌, ◌≤◌, min, Bool, true, false, ◌||◌, List, [], ◌∷◌, ◌++◌, refl, sym, ap, ◌∙◌, arith}
use Rattle.std.specs.Prelude.{Option, if◌then◌else◌, nat_lt, ◌==◌}
use Rattle.std.proofs.Math.Bool.{or-false}
use Rattle.std.proofs.lemmas.Bool.{lt-ltb}
use Rattle.std.proofs.lemmas.Grind.{flat_map-append}
use Rattle.std.proofs.lemmas.List.{flat_map_more}
use Rattle.std.proofs.lemmas.List.Sums.{sum_by-append, sum_by_push}
use Rattle.cm_store.specs.Contents.{Contents}
use Rattle.run_report.specs.Counting.{counted, no_counts}
use Rattle.run_report.specs.declared.counts.Counts.{Counts}
use Rattle.run_report.specs.declared.answer.RowError.{RowError}
use Rattle.run_report.specs.declared.answer.RowError.TheVariants.{Unnamed}
use Rattle.run_report.specs.declared.answer.RowAnswer.{RowAnswer}
use Rattle.run_report.specs.declared.answer.RowAnswer.TheVariants.{Ok, Unmodified, Skipped, Error}
use Rattle.codemod_cmd.specs.Rows.{Row, refused, answer_of, leaves, after, row_faults, faults_of, Rises, shown, shown_all, counted_all, is_error, has_error}
use Rattle.codemod_cmd.specs.Folders.{unnamed_rows}

pub after_then : (dry : Bool) (held : Option Contents) (xs ys : List (List ℕ × Row)) → after dry held (xs ++ ys) ≡ after dry (after dry held xs) ys
after_then dry held [] ys = refl
after_then dry held (x ∷ xs) ys = after_then dry (leaves dry held x.0 x.1) xs ys

pub counted_then : (c : Counts) (xs ys : List (List ℕ × Row)) → counted_all c (xs ++ ys) ≡ counted_all (counted_all c xs) ys
counted_then c [] ys = refl
counted_then c (x ∷ xs) ys = counted_then (counted c (answer_of x.1)) xs ys

pub shown_then : (print : Bool) (xs ys : List (List ℕ × Row)) → shown_all print (xs ++ ys) ≡ shown_all print xs ++ shown_all print ys
shown_then print xs ys = flat_map-append (λ r. shown print r.0 r.1) xs ys

pub shown_one : (print : Bool) (name : List ℕ) (row : Row) → shown print name row ≡ shown_all print ((name, row) ∷ [])
shown_one print name row = flat_map_more {X = List ℕ × Row} (λ r. shown print r.0 r.1) [] [] (name, row)

pub faults_then : (xs ys : List (List ℕ × Row)) → faults_of (xs ++ ys) ≡ faults_of xs + faults_of ys
faults_then xs ys = sum_by-append (λ r. row_faults r.1) xs ys

faults_one : (name : List ℕ) (row : Row) → faults_of ((name, row) ∷ []) ≡ row_faults row
faults_one name row = let s = sum_by_push {X = List ℕ × Row} (λ r. row_faults r.1) [] (name, row) in omega (arith, s)

pub rises_then : (a b n f0 f1 f2 : ℕ) → n ≡ a + b → Rises a f0 f1 → Rises b f1 f2 → Rises n f0 f2
rises_then a b n f0 f1 f2 e p q = omega (arith, e, p, q)

pub rises_later : (n f0 f1 f2 : ℕ) → f0 ≤ f1 → Rises n f1 f2 → Rises n f0 f2
rises_later n f0 f1 f2 le p = omega (arith, le, p)

pub rises_none : (f0 f1 : ℕ) → f0 ≤ f1 → Rises 0 f0 f1
rises_none f0 f1 le = omega (arith, le)

pub rises_one : (name : List ℕ) (row : Row) (f0 f1 : ℕ) → Rises (row_faults row) f0 f1 → Rises (faults_of ((name, row) ∷ [])) f0 f1
rises_one name row f0 f1 p = rises_then (row_faults row) 0 _ f0 f1 f1 (omega (arith, faults_one name row)) p (omega arith)

-- a row of names that are left out changes nothing in the store
skipped : (b dry : Bool) (held : Option Contents) (name : List ℕ) (error : RowError) (rows : List (List ℕ × Row))
    → after dry held ((if b then [] else (name, refused error) ∷ []) ++ rows) ≡ after dry held rows
skipped true dry held name error rows = refl
skipped false dry held name error rows = refl

pub after_unnamed : (dry : Bool) (held : Option Contents) (name : List ℕ) (unnamed : ℕ) (rows : List (List ℕ × Row)) → after dry held (unnamed_rows name unnamed ++ rows) ≡ after dry held rows
after_unnamed dry held name unnamed rows = skipped (unnamed == 0) dry held name _ rows

no_fault : (b : Bool) (name : List ℕ) (count : ℕ) → faults_of (if b then [] else (name, refused (Unnamed count)) ∷ []) ≡ 0
no_fault true name count = refl
no_fault false name count = faults_one name (refused (Unnamed count))

pub unnamed_faults : (name : List ℕ) (unnamed : ℕ) → faults_of (unnamed_rows name unnamed) ≡ 0
unnamed_faults name unnamed = no_fault (unnamed == 0) name unnamed

or_true : (b : Bool) → (b || true) ≡ true
or_true true = refl
or_true false = refl

-- errors are counted where some row is one
error_counted : (c : Counts) (answer : RowAnswer) → nat_lt 0 (counted c answer).errors ≡ (nat_lt 0 c.errors || is_error answer)
error_counted c Ok = sym (or-false (nat_lt 0 c.errors))
error_counted c Unmodified = sym (or-false (nat_lt 0 c.errors))
error_counted c Skipped = sym (or-false (nat_lt 0 c.errors))
error_counted c (Error error) = lt-ltb 0 (min (c.errors + 1) (2 ^ 64 - 1)) (omega arith) ∙ sym (or_true (nat_lt 0 c.errors))

or_joined : (a b c : Bool) → ((a || b) || c) ≡ (a || (b || c))
or_joined true b c = refl
or_joined false b c = refl

errors_counted : (c : Counts) (rows : List (List ℕ × Row)) → nat_lt 0 (counted_all c rows).errors ≡ (nat_lt 0 c.errors || has_error rows)
errors_counted c [] = sym (or-false (nat_lt 0 c.errors))
errors_counted c (r ∷ rows) =
    errors_counted (counted c (answer_of r.1)) rows ∙ ap (λ b. b || has_error rows) (error_counted c (answer_of r.1)) ∙ or_joined (nat_lt 0 c.errors) (is_error (answer_of r.1)) (has_error rows)

pub any_error : (rows : List (List ℕ × Row)) → nat_lt 0 (counted_all no_counts rows).errors ≡ has_error rows
any_error rows = errors_counted no_counts rows
