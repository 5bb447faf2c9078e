-- Texts that are told to be the same.
use Rattle.std.proofs.Common.{◌≡◌, ℕ, true, List}
use Rattle.std.proofs.lemmas.Slice.Eq.{bytes_eq-Decides}
use Rattle.std.specs.Str.{bytes_eq}

pub same_bytes : (units text : List ℕ) → bytes_eq units text ≡ true → units ≡ text
same_bytes units text same = (bytes_eq-Decides units text).0 same
