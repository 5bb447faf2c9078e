-- Tokens in a text: where they stand. A text is the list of its bytes.
use Rattle.std.specs.Prelude.{◌≡◌, ◌⊎◌, ℕ, zero, suc, ◌+◌, ◌-◌, ◌<◌, ◌≤◌, Bool, true, false, ◌||◌, ◌&&◌, if◌then◌else◌, nat_le, ◌==◌, IsTrue, List, length, slice_index, slice_range}
use Rattle.std.specs.List.{list_any}
use Rattle.std.specs.Str.{bytes_eq}
use Rattle.first_grammar.specs.declared.table.Word.{Word}
use Rattle.first_grammar.specs.declared.table.Word.TheVariants as w
use Rattle.first_grammar.specs.declared.words.TheConstants.{RESERVED}

-- a space or a line feed
abbrev pub is_blank : ℕ → Bool
is_blank c = c == 32 || c == 10

-- a letter, `$` or `_`
abbrev pub is_start : ℕ → Bool
is_start c = (nat_le 97 c && nat_le c 122) || (nat_le 65 c && nat_le c 90) || c == 36 || c == 95

-- one of these or a digit
abbrev pub is_part : ℕ → Bool
is_part c = is_start c || (nat_le 48 c && nat_le c 57)

-- the name stands in the list of reserved words
unfoldable pub is_reserved : List ℕ → Bool
is_reserved name = list_any (λ word. bytes_eq word.now name) RESERVED

-- the token that is this one byte
abbrev pub mark_of : ℕ → Word
mark_of c =
    if c == 40 then w.OpenParen else if c == 41 then w.CloseParen else if c == 44 then w.Comma else if c == 46 then w.Dot else if c == 59 then w.Semicolon
    else if c == 61 then w.Assign else w.Other

-- the first of at most n offsets from i on whose byte fails the test
unfoldable pub run : (ℕ → Bool) → List ℕ → ℕ → ℕ → ℕ
run test s zero i = i
run test s (suc n) i = if test (slice_index s i) then run test s n (i + 1) else i

abbrev pub blanks_end : List ℕ → ℕ → ℕ
blanks_end s i = run is_blank s (length s - i) i

abbrev pub name_end : List ℕ → ℕ → ℕ
name_end s i = run is_part s (length s - i) i

-- each byte from i up to j passes the test
pub record Each (test : ℕ → Bool) (s : List ℕ) (i j : ℕ) : Type 0 where
  pub order : i ≤ j
  pub within : j ≤ length s
  pub bytes : (k : ℕ) → i ≤ k → k < j → IsTrue (test (slice_index s k))

abbrev pub Blank : List ℕ → ℕ → ℕ → Type 0
Blank s i j = Each is_blank s i j

-- no byte that passes the test stands at j
abbrev pub Stops : (ℕ → Bool) → List ℕ → ℕ → Type 0
Stops test s j = (j ≡ length s) ⊎ (test (slice_index s j) ≡ false)

-- a name stands from i to j, and no longer one
pub record NameAt (s : List ℕ) (i j : ℕ) : Type 0 where
  pub first : is_start (slice_index s i) ≡ true
  pub rest : Each is_part s (i + 1) j
  pub last : Stops is_part s j

-- a name stands there that is reserved, or is not
pub record WordAt (reserved : Bool) (s : List ℕ) (i j : ℕ) : Type 0 where
  pub name : NameAt s i j
  pub reserved_or_not : is_reserved (slice_range s i j) ≡ reserved

-- the byte c stands from i to j
pub record MarkAt (c : ℕ) (s : List ℕ) (i j : ℕ) : Type 0 where
  pub within : i < length s
  pub is : slice_index s i ≡ c
  pub end : j ≡ i + 1

-- the token is a name, reserved or not
abbrev pub is_name_word : Word → Bool
is_name_word w.Name = true
is_name_word w.Reserved = true
is_name_word _ = false

-- the token stands from i to j
abbrev pub Stands : List ℕ → Word → ℕ → ℕ → Type 0
Stands s w.End i j = (i ≡ length s) × (j ≡ i)
Stands s w.Name i j = WordAt false s i j
Stands s w.Reserved i j = WordAt true s i j
Stands s w.OpenParen i j = MarkAt 40 s i j
Stands s w.CloseParen i j = MarkAt 41 s i j
Stands s w.Comma i j = MarkAt 44 s i j
Stands s w.Dot i j = MarkAt 46 s i j
Stands s w.Semicolon i j = MarkAt 59 s i j
Stands s w.Assign i j = MarkAt 61 s i j
Stands s w.Other i j = ⊥

-- blanks stand from i to b, and then the token up to e
pub record Scan (s : List ℕ) (i : ℕ) (word : Word) (b e : ℕ) : Type 0 where
  pub blank : Blank s i b
  pub stands : Stands s word b e
