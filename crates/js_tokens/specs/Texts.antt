-- The code units that names, strings and templates spell.
use Rattle.std.specs.Prelude.{ℕ, zero, suc, ◌+◌, ◌-◌, ◌==◌, Bool, List, [], ◌∷◌, ◌++◌, slice_index, Option, Some, unwrap_or, Result, Ok, Err, if◌then◌else◌}
use Rattle.std.specs.Char.Escape.{encode_utf16}
use Rattle.std.specs.Option.{option_map_or}
use Rattle.js_tokens.specs.Pieces.{character, line_feed, unicode_escape, string_escape, template_escape}
use Rattle.js_tokens.specs.declared.piece.Piece.{Piece}
use Rattle.js_tokens.specs.declared.text.Spelled.{Spelled}
use Rattle.js_tokens.specs.declared.text.Spelled.TheVariants.{AsWritten, InTemplate, InName}
use Rattle.js_tokens.specs.declared.text.Cooked.{Cooked}
use Rattle.js_tokens.specs.declared.text.Cooked.TheVariants.{OfString, OfTemplate}

-- the one or two code units of a piece, none of a line continuation
abbrev pub piece_units : Piece → List ℕ
piece_units piece = option_map_or encode_utf16 piece.code []

-- where escapes mean nothing
abbrev pub plain_piece : Spelled → List ℕ → Piece
plain_piece AsWritten bytes = character bytes
plain_piece InTemplate bytes = if slice_index bytes 0 == 0x0D then line_feed bytes else character bytes
plain_piece InName bytes = if slice_index bytes 0 == 0x5C then unwrap_or (unicode_escape bytes) (character bytes) else character bytes

-- where an escape may be no valid one
abbrev pub cooked_piece : Cooked → List ℕ → Option Piece
cooked_piece OfString bytes = if slice_index bytes 0 == 0x5C then string_escape bytes else Some (character bytes)
cooked_piece OfTemplate bytes =
    if slice_index bytes 0 == 0x5C then template_escape bytes
    else Some (plain_piece InTemplate bytes)

-- the code units of the bytes, piece by piece, once `skip` bytes are passed
unfoldable pub plain_units : Spelled → ℕ → List ℕ → List ℕ
plain_units how skip [] = []
plain_units how (suc skip) (byte ∷ bytes) = plain_units how skip bytes
plain_units how zero (byte ∷ bytes) =
    let piece = plain_piece how (byte ∷ bytes) in
    piece_units piece ++ plain_units how (piece.len - 1) bytes

-- these code units before the others, if there are others
abbrev pub before : List ℕ → Result (List ℕ) ℕ → Result (List ℕ) ℕ
before units (Ok more) = Ok (units ++ more)
before units (Err at) = Err at

-- the same from the offset on, or the offset of the first escape that is not valid
unfoldable pub cooked_units : Cooked → ℕ → ℕ → List ℕ → Result (List ℕ) ℕ
cooked_units how at skip [] = Ok []
cooked_units how at (suc skip) (byte ∷ bytes) = cooked_units how (at + 1) skip bytes
cooked_units how at zero (byte ∷ bytes) =
    option_map_or
    (λ piece. before (piece_units piece) (cooked_units how (at + 1) (piece.len - 1) bytes))
    (cooked_piece how (byte ∷ bytes))
    (Err at)

-- the code units of a text as it stands, or of a template's raw text
abbrev pub code_units : Bool → List ℕ → List ℕ
code_units template raw = plain_units (if template then InTemplate else AsWritten) 0 raw

-- the code units of a name, its escapes read
abbrev pub name_units : List ℕ → List ℕ
name_units name = plain_units InName 0 name

-- the value of what stands between the quotes of a string
abbrev pub string_value : List ℕ → Result (List ℕ) ℕ
string_value raw = cooked_units OfString 0 0 raw

-- the cooked value of one part of a template
abbrev pub template_value : List ℕ → Result (List ℕ) ℕ
template_value raw = cooked_units OfTemplate 0 0 raw
