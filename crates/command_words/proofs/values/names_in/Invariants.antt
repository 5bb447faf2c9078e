use Rattle.std.proofs.Common.{◌≡◌, length}
use denote.Text.{Utf8}
use denote.Shadow.{shadow}
use Rattle.command_words.specs.Values.{names_in}
use Rattle.command_words.proofs.NameLists.{added, parts}
use Rattle.command_words.proofs.values.names_in.Given as goal

abbrev pub invariant-names : goal.invariant-names
invariant-names l = shadow (Utf8 l.rest) × (names_in l.text ≡ added l.names (parts l.rest))

abbrev pub decreases-names : goal.decreases-names
decreases-names l = length l.rest
