-- Tests on stored names, by which a folder is listed.
use Rattle.std.specs.Prelude.{ℕ, ◌&&◌, not, nat_eq, Bool, List, [], length, drop}
use Rattle.std.specs.List.{starts_with}
use Rattle.std.specs.Str.{bytes_eq}
use Rattle.cm_store.specs.Listing.{part_of}

-- whether the name goes on behind the front
abbrev pub is_below : List ℕ → List ℕ → Bool
is_below front name = starts_with nat_eq name front

-- whether it goes on with this part, which is not empty
abbrev pub has_part : List ℕ → List ℕ → List ℕ → Bool
has_part front part name = is_below front name && (bytes_eq (part_of (drop (length front) name)) part && not (bytes_eq part []))
