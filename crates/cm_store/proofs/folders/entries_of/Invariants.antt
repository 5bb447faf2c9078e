use Rattle.std.proofs.Common.{◌≡◌, ◌++◌, IsTrue, ◌↔◌, map, All, None, string_bytes}
use Rattle.std.specs.FinMap.{get}
use Rattle.cm_store.specs.Files.{files_of}
use Rattle.cm_store.proofs.folders.entries_of.Given as goal

abbrev pub invariant-loop-part : goal.invariant-loop-part
invariant-loop-part l = (map (λ e. e.name) l.entries ≡ map (λ s. string_bytes s) l.yielded) × All (λ e. IsTrue e.folder ↔ (get (files_of l.files) (l.front ++ e.name) ≡ None)) l.entries
