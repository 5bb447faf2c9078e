-- The rows of a run: by what each comes, what it leaves in the store and what is written of it.
use Rattle.std.specs.Prelude.{◌≡◌, ℕ, ◌+◌, ◌-◌, ◌^◌, ◌<◌, ◌≤◌, min, Bool, true, false, if◌then◌else◌, List, [], ◌∷◌, ◌++◌, length, Option, Some, None, Result, IfSome}
use Rattle.std.specs.Prelude.{Ok as Good, Err as Bad}
use Rattle.std.specs.Option.{IsSomeAnd}
use Rattle.std.specs.List.{flat_map, list_any, sum_by}
use Rattle.std.specs.FinMap.{get}
use Rattle.std.specs.declared.alloc.Global.{Global}
use Rattle.std.specs.declared.vec.Vec.{Vec}
use Rattle.cm_store.specs.Contents.{Contents, replaced}
use Rattle.cm_text.specs.declared.source.TheConstants.{MAX_LENGTH}
use Rattle.run_report.specs.Texts.{row_line, printed}
use Rattle.run_report.specs.Counting.{counted}
use Rattle.run_report.specs.declared.counts.Counts.{Counts}
use Rattle.run_report.specs.declared.answer.RowError.{RowError}
use Rattle.run_report.specs.declared.answer.RowError.TheVariants.{Missing, ReadFault, ListFault, WriteFault, TooLong}
use Rattle.run_report.specs.declared.answer.RowAnswer.{RowAnswer}
use Rattle.run_report.specs.declared.answer.RowAnswer.TheVariants.{Ok, Error}
use Rattle.codemod_cmd.specs.declared.reading.Unread.{Unread}
use Rattle.codemod_cmd.specs.declared.reading.Unread.TheVariants.{Refused as RefusedRead, NoMemory}

-- what came of a name: what the script makes of its bytes, or why there are none, or a new text that could not be written. The last may stay all the same
pub data Row : Type 0 where
  answered : RowAnswer → List ℕ → Row
  refused : RowError → Row
  unwritten : List ℕ → Bool → Row

abbrev pub answer_of : Row → RowAnswer
answer_of (answered answer text) = answer
answer_of (refused error) = Error error
answer_of (unwritten text stays) = Error WriteFault

-- the name has these bytes, no more than may be read
abbrev pub HasBytes : Option Contents → List ℕ → List ℕ → Type 0
HasBytes None name bytes = Unit {0}
HasBytes (Some c) name bytes = (get c.files name ≡ Some bytes) × (length bytes ≤ MAX_LENGTH)

-- the name has no bytes that may be read, for this reason
abbrev pub HasNone : Option Contents → List ℕ → RowError → Type 0
HasNone held name Missing = IfSome held (λ c. get c.files name ≡ None)
HasNone held name TooLong = IfSome held (λ c. IsSomeAnd (get c.files name) (λ bytes. MAX_LENGTH < length bytes))
HasNone held name ReadFault = Unit {0}
HasNone held name _ = ⊥

-- the row of a file, where a script says so of bytes
abbrev pub IsRow : (List ℕ → RowAnswer → List ℕ → Type 0) → Bool → Option Contents → List ℕ → Row → Type 0
IsRow says dry held name (answered answer text) = (bytes : List ℕ) × HasBytes held name bytes × says bytes answer text
IsRow says dry held name (refused error) = HasNone held name error
IsRow says dry held name (unwritten text stays) = (dry ≡ false) × ((bytes : List ℕ) × HasBytes held name bytes × says bytes Ok text)

-- what a row leaves in the store: a new text, unless the run is dry, and else what there was
abbrev pub leaves : Bool → Option Contents → List ℕ → Row → Option Contents
leaves dry held name (answered Ok text) = if dry then held else replaced held name text
leaves dry held name (unwritten text stays) = if stays then replaced held name text else held
leaves dry held name _ = held

-- what the rows leave in the store, one after another
abbrev pub after : Bool → Option Contents → List (List ℕ × Row) → Option Contents
after dry held [] = held
after dry held (r ∷ rows) = after dry (leaves dry held r.0 r.1) rows

-- the failures of the store that a row speaks of
abbrev pub faults_in : RowError → ℕ
faults_in ReadFault = 1
faults_in ListFault = 1
faults_in _ = 0

abbrev pub row_faults : Row → ℕ
row_faults (answered answer text) = 0
row_faults (refused error) = faults_in error
row_faults (unwritten text stays) = 1

abbrev pub faults_of : List (List ℕ × Row) → ℕ
faults_of rows = sum_by (λ r. row_faults r.1) rows

-- the count rose by so much, or stands at its end
abbrev pub Rises : ℕ → ℕ → ℕ → Type 0
Rises n before now = min (before + n) (2 ^ 64 - 1) ≤ now

-- what is answered to a read of the name
abbrev pub Loads : Option Contents → ℕ → ℕ → List ℕ → Result (Vec ℕ Global) Unread → Type 0
Loads held before now name (Good bytes) = HasBytes held name bytes.items
Loads held before now name (Bad (RefusedRead error)) = HasNone held name error × Rises (faults_in error) before now
Loads held before now name (Bad NoMemory) = Unit {0}

-- the line of a row, and the text where there is a new one and it is asked for
abbrev pub shown : Bool → List ℕ → Row → List ℕ
shown print name (answered Ok text) = row_line name Ok ++ (if print then printed text else [])
shown print name row = row_line name (answer_of row)

abbrev pub shown_all : Bool → List (List ℕ × Row) → List ℕ
shown_all print rows = flat_map (λ r. shown print r.0 r.1) rows

-- the counts with those of the rows
abbrev pub counted_all : Counts → List (List ℕ × Row) → Counts
counted_all counts [] = counts
counted_all counts (r ∷ rows) = counted_all (counted counts (answer_of r.1)) rows

abbrev pub is_error : RowAnswer → Bool
is_error (Error error) = true
is_error _ = false

abbrev pub has_error : List (List ℕ × Row) → Bool
has_error rows = list_any (λ r. is_error (answer_of r.1)) rows
