use Rattle.std.proofs.Common.{◌≡◌, ◌++◌, drop, map}
use Rattle.tree_core.specs.View.{place_view, places_of}
use Rattle.source_rename.specs.Exports.{open_ends}
use Rattle.source_rename.proofs.exports.open_ends.Given as goal

abbrev pub invariant-loop-item : goal.invariant-loop-item
invariant-loop-item l =
    l.found.items ++ open_ends l.search.source.now l.search.spans.now (places_of (map place_view (drop l.item-index l.items)))
    ≡ open_ends l.search.source.now l.search.spans.now (places_of (map place_view l.items))
