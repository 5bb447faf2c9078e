-- Names in the order of their bytes.
use Rattle.std.proofs.Common.{◌≡◌, List, [], ◌∷◌, map, Global, String, string_bytes}
use Rattle.std.specs.List.{AllByRecursion}
use Rattle.std.specs.List.Sorted.{IsStrictlySortedBy}
use Rattle.std.specs.Ordering.{nat_cmp}
use Rattle.std.specs.String.{string_cmp}
use Rattle.std.specs.Cmp.Lexicographic.{slice_cmp}
use Rattle.std.specs.declared.cmp.Ordering.TheVariants.{Less}

all_above : (k : String Global) (keys : List (String Global)) → AllByRecursion (λ y. string_cmp k y ≡ Less) keys → AllByRecursion (λ y. slice_cmp nat_cmp (string_bytes k) y ≡ Less) (map (λ s. string_bytes s) keys)
all_above k [] h = tt
all_above k (x ∷ keys) h = (h.0, all_above k keys h.1)

-- texts in order have bytes in order
pub sorted_bytes : (keys : List (String Global)) → IsStrictlySortedBy string_cmp keys → IsStrictlySortedBy (slice_cmp nat_cmp) (map (λ s. string_bytes s) keys)
unfolding IsStrictlySortedBy
sorted_bytes [] h = tt
sorted_bytes (k ∷ keys) h = (all_above k keys h.0, sorted_bytes keys h.1)
