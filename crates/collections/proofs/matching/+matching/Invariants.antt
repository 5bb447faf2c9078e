use Rattle.std.proofs.Common.{◌≡◌, ◌≤◌, ◌+◌, min, drop, map, Some}
use Rattle.collections.specs.Values.{PlaceIn}
use Rattle.collections.specs.Matches.{field_tried, fields_told, items_told, tried}
use Rattle.collections.proofs.matching.+matching.Given as goal

abbrev pub invariant-try_fields-loop-field : goal.invariant-try_fields-loop-field
invariant-try_fields-loop-field l = record {
  fits : (fields_told (map field_tried (drop l.field-index l.fields)) l.arena l.node).fits ≡ (fields_told (map field_tried l.fields) l.arena l.node).fits;
  few : l.visits ≤ 18446744073709551615;
  visits : min (l.visits + (fields_told (map field_tried (drop l.field-index l.fields)) l.arena l.node).visits) 18446744073709551615 ≡ min (fields_told (map field_tried l.fields) l.arena l.node).visits 18446744073709551615;
}

abbrev pub invariant-try_items-loop-pattern : goal.invariant-try_items-loop-pattern
invariant-try_items-loop-pattern l = record {
  within : PlaceIn l.arena.forest l.at;
  fits : (items_told (map tried (drop l.pattern-index l.patterns)) l.arena l.at).fits ≡ (items_told (map tried l.patterns) l.arena (Some l.fn.first)).fits;
  few : l.visits ≤ 18446744073709551615;
  visits : min (l.visits + (items_told (map tried (drop l.pattern-index l.patterns)) l.arena l.at).visits) 18446744073709551615 ≡ min (items_told (map tried l.patterns) l.arena (Some l.fn.first)).visits 18446744073709551615;
}
