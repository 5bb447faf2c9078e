-- What may stand at a place in a pattern (ECMA-262, clauses 13.15.5 and 14.3.3).
use Rattle.std.specs.Prelude.{Bool, true, false}
use Rattle.pattern_cover.specs.declared.conversion.PatternPosition.{PatternPosition}
use Rattle.pattern_cover.specs.declared.conversion.PatternPosition.TheVariants.{Whole, Value, Element, Property}

abbrev pub is_last : PatternPosition → Bool
is_last (Element last) = last
is_last (Property last) = last
is_last _ = false

abbrev pub takes_default : PatternPosition → Bool
takes_default Value = true
takes_default (Element last) = true
takes_default _ = false

abbrev pub takes_pattern : PatternPosition → Bool
takes_pattern Whole = true
takes_pattern Value = true
takes_pattern (Element last) = true
takes_pattern _ = false

abbrev pub is_property : PatternPosition → Bool
is_property (Property last) = true
is_property _ = false
