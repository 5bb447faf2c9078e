-- The punctuators (ECMA-262, clause 12.8).
use Rattle.std.specs.Prelude.{ℕ, Bool, List, [], map, slice_index_or}
use denote.Enum.Declared.{tag_of}
use Rattle.type_defs.specs.Rows.{in_order}
use Rattle.js_tokens.specs.contracts.punctuator.Punctuator.{the_type}
use Rattle.js_tokens.specs.declared.punctuator.Punctuator.{Punctuator}
use Rattle.js_tokens.specs.declared.punctuator.TheConstants.{PUNCTUATORS}

unfoldable pub punctuators : List Punctuator
punctuators = map (λ row. row.0) PUNCTUATORS.now

unfoldable pub punctuator_spellings : List (List ℕ)
punctuator_spellings = map (λ row. row.1.now) PUNCTUATORS.now

-- the rows stand in the order of the enum
abbrev pub are_in_order : List Punctuator → Bool
are_in_order = in_order the_type 0

-- the punctuator's place in the enum, from 0
abbrev pub punctuator_number : Punctuator → ℕ
punctuator_number = tag_of the_type

abbrev pub punctuator_spelling : Punctuator → List ℕ
punctuator_spelling punctuator = slice_index_or punctuator_spellings (punctuator_number punctuator) []
