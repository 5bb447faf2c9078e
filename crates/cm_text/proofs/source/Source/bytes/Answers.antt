use Rattle.std.proofs.Common.{subst}
use Rattle.std.proofs.lemmas.Str.{IsUtf8-had}
use Rattle.std.specs.Str.{IsUtf8}
use Rattle.cm_text.proofs.source.Source.bytes.Goals as goal

pub returns-clause-utf8 : goal.returns-clause-utf8
returns-clause-utf8 c = subst IsUtf8 c.self.view_is (IsUtf8-had _ c.self.invariant.1)
