use Rattle.std.proofs.Common.{◌≡◌, ◌+◌, ◌≤◌, ◌++◌, replicate, vec_len, vec_capacity}
use Rattle.tree_core.specs.declared.scalars.Scalar.TheVariants.{Null}
use Rattle.node_arena.proofs.payload.keep_nulls.Given as goal

abbrev pub invariant-loop-turn : goal.invariant-loop-turn
invariant-loop-turn l = record {
  items : l.scalars.items ≡ l.initial.scalars.items ++ replicate l._turn Null;
  len : vec_len l.scalars ≡ vec_len l.initial.scalars + l._turn;
  capacity : vec_capacity l.initial.scalars ≤ vec_capacity l.scalars;
}
