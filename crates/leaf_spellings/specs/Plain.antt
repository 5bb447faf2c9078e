-- Texts whose bytes, as numbers, are the code units that they spell.
use Rattle.std.specs.Prelude.{◌≡◌, ℕ, true, false, List, Ok}
use Rattle.js_tokens.specs.Texts.{code_units, name_units, string_value}

-- the bytes spell the code units as a name, as a text that stands as written, as characters of a
-- template, and as a string
pub record SpellsPlainly (bytes units : List ℕ) : Type 0 where
  pub name : units ≡ name_units bytes
  pub written : units ≡ code_units false bytes
  pub in_template : units ≡ code_units true bytes
  pub in_quotes : string_value bytes ≡ Ok units
