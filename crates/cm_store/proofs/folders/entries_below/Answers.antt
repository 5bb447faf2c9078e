use Rattle.std.proofs.Common.{◌↔◌, ℕ, List, Contains, sym, subst}
use Rattle.cm_store.specs.Files.{files_of}
use Rattle.cm_store.specs.Listing.{IsPart}
use Rattle.cm_store.proofs.Parts.{parts_in_set}
use Rattle.cm_store.proofs.folders.entries_below.Goals as goal

pub returns : goal.returns
returns c = record {
  parts = subst (λ (names : List (List ℕ)). (q : List ℕ) → Contains names q ↔ IsPart (files_of c.args.files.now) c.args.front.now q) (sym c.in_ok-entries.ensures.names) (parts_in_set c.args.files.now c.args.front.now c.in_ok-parts.parts c.in_ok-parts.ensures);
  order = c.in_ok-entries.ensures.order;
  folders = c.in_ok-entries.ensures.folders;
}
