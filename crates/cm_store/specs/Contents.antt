-- What a store holds. A name is a list of bytes.
use Rattle.std.specs.Prelude.{ℕ, List, Option, refl}
use Rattle.std.specs.Option.{option_map}
use Rattle.std.specs.Ordering.{nat_cmp}
use Rattle.std.specs.Cmp.Lexicographic.{slice_cmp}
use Rattle.std.specs.FinMap.{FinMap, insert, code}
use Rattle.std.specs.Coded.{Coded, code_by, coded×, coded_list, coded_ℕ}

-- a map from names
abbrev pub Named : Type 0 → Type 0
Named X = FinMap (slice_cmp nat_cmp) X

-- the bytes of each file, and for folders how many of their entries have no name in UTF-8
pub record Contents : Type 0 where
  pub files : Named (List ℕ)
  pub unnamed : Named ℕ

-- the contents where the name holds these bytes
abbrev pub with_file : Contents → List ℕ → List ℕ → Contents
with_file c name bytes = record { files = insert c.files name bytes; unnamed = c.unnamed }

-- the same of contents that may be told
abbrev pub replaced : Option Contents → List ℕ → List ℕ → Option Contents
replaced told name bytes = option_map (λ c. with_file c name bytes) told

-- contents are stored as the pair of their maps
abbrev pub contents_code : Coded Contents
contents_code =
    let name : Coded (List ℕ) = coded_list coded_ℕ in
    code_by (Named (List ℕ) × Named ℕ) (coded× (code name name) (code name coded_ℕ)) (λ c. (c.files, c.unnamed)) (λ p. record { files = p.0; unnamed = p.1 }) (λ _. refl)
