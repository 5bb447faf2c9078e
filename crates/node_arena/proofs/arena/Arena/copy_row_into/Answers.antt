use Rattle.std.proofs.Common.{arith}
use Rattle.node_arena.proofs.Copying.{put_row}
use Rattle.node_arena.proofs.arena.Arena.copy_row_into.Goals as goal

pub put-requires-clause-may : goal.put-requires-clause-may
put-requires-clause-may g c = c.in_ok-copy.ensures.apart c.in-Some.to (rw c.in-Some.is at c.requires.to)

pub returns-clause-ok : goal.returns-clause-ok
returns-clause-ok g c = (put_row _ _ _ _ _ _ _ c.requires.front c.in_ok-copy.ensures.number c.in_ok-copy.ensures.ok c.in-None.ensures.node (omega arith) c.put.ensures.after).ok

pub returns-clause-base : goal.returns-clause-base
returns-clause-base g c = (put_row _ _ _ _ _ _ _ c.requires.front c.in_ok-copy.ensures.number c.in_ok-copy.ensures.ok c.in-None.ensures.node (omega arith) c.put.ensures.after).base

pub returns-clause-front : goal.returns-clause-front
returns-clause-front g c = (put_row _ _ _ _ _ _ _ c.requires.front c.in_ok-copy.ensures.number c.in_ok-copy.ensures.ok c.in-None.ensures.node (omega arith) c.put.ensures.after).front
