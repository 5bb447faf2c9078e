use Rattle.std.proofs.Common.{◌≡◌, ℕ, List, take}
use Rattle.std.specs.List.{list_any}
use Rattle.std.specs.BTreeSet.{contains_text}
use Rattle.cm_store.specs.Below.{has_part}
use Rattle.cm_store.proofs.folders.parts_below.Given as goal

abbrev pub invariant-loop-file : goal.invariant-loop-file
invariant-loop-file l = (q : List ℕ) → contains_text l.parts q ≡ list_any (λ f. has_part l.front q f.name) (take l.file-index l.files)
