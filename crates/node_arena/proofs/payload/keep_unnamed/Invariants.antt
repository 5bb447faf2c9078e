use Rattle.std.proofs.Common.{◌≡◌, ◌+◌, ◌≤◌, ◌++◌, None, replicate, vec_len, vec_capacity}
use Rattle.node_arena.proofs.payload.keep_unnamed.Given as goal

abbrev pub invariant-loop-turn : goal.invariant-loop-turn
invariant-loop-turn l = record {
  items : l.names.items ≡ l.initial.names.items ++ replicate l._turn None;
  len : vec_len l.names ≡ vec_len l.initial.names + l._turn;
  capacity : vec_capacity l.initial.names ≤ vec_capacity l.names;
}
