-- The words that the grammar knows by name (ECMA-262, clause 12.7.2).
use Rattle.std.specs.Prelude.{ℕ, Bool, true, false, List, [], ◌∷◌, ◌==◌, bytes_eq, if◌then◌else◌, filter, map, slice_index_or}
use denote.Enum.Declared.{tag_of}
use Rattle.type_defs.specs.Rows.{in_order}
use Rattle.js_tokens.specs.contracts.word.Word.{the_type}
use Rattle.js_tokens.specs.declared.word.Word.{Word}
use Rattle.js_tokens.specs.declared.word.Word.TheVariants.{Plain}
use Rattle.js_tokens.specs.declared.word.TheConstants.{WORDS}

unfoldable pub words : List Word
words = map (λ row. row.0) WORDS.now

unfoldable pub word_spellings : List (List ℕ)
word_spellings = map (λ row. row.1.now) WORDS.now

unfoldable pub reservations : List Bool
reservations = map (λ row. row.2) WORDS.now

-- the rows stand in the order of the enum
abbrev pub are_in_order : List Word → Bool
are_in_order = in_order the_type 0

-- the word's place in the enum, 0 for any other name
abbrev pub word_number : Word → ℕ
word_number = tag_of the_type

abbrev pub word_spelling : Word → List ℕ
word_spelling word = slice_index_or word_spellings (word_number word) []

-- the word is no identifier
abbrev pub reserved : Word → Bool
reserved word = slice_index_or reservations (word_number word) true

abbrev pub begins_with : ℕ → List ℕ → Bool
begins_with byte [] = false
begins_with byte (first ∷ rest) = first == byte

-- the words that begin with the byte
unfoldable pub words_on : ℕ → List Word
words_on byte = filter (λ word. begins_with byte (word_spelling word)) words

-- the first of these words that is spelled as the name, `Plain` where none is
abbrev pub first_spelled : List Word → List ℕ → Word
first_spelled [] name = Plain
first_spelled (word ∷ more) name = if bytes_eq (word_spelling word) name then word else first_spelled more name

-- the word that a name of these characters is
abbrev pub word_of : List ℕ → Word
word_of name = first_spelled words name
