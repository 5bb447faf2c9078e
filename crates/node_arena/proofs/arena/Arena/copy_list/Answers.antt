use Rattle.node_arena.proofs.arena.Arena.copy_list.Goals as goal

pub returns-in_default-clause-nodes : goal.returns-in_default-clause-nodes
returns-in_default-clause-nodes g c = c.loop-turn.invariant.nodes

pub returns-in_default-clause-places : goal.returns-in_default-clause-places
returns-in_default-clause-places g c = c.loop-turn.invariant.places

pub returns-in_default-clause-front : goal.returns-in_default-clause-front
returns-in_default-clause-front g c = c.loop-turn.invariant.front

pub returns-in_default-clause-spare : goal.returns-in_default-clause-spare
returns-in_default-clause-spare g c = c.loop-turn.invariant.spare
