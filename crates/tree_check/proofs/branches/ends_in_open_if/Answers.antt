use Rattle.std.proofs.Common.{◌∙◌, sym, ap, ◌+◌, ◌-◌, arith}
use Rattle.tree_core.specs.View.{syntax}
use Rattle.tree_check.proofs.Levels.{seen, open_none, open_end, open_here, open_past}
use Rattle.tree_check.proofs.branches.ends_in_open_if.Goals as goal

pub returns-in_default : goal.returns-in_default
returns-in_default c = sym (c.loop-turn.invariant ∙ open_none (1000 - c.loop-turn._turn) (seen c.loop-turn.here) (ap seen c.in_default.is))

pub returns-then-is_open_if : goal.returns-then-is_open_if
returns-then-is_open_if c = sym (c.loop-turn.invariant ∙ open_here (1000 - c.loop-turn._turn) (seen c.loop-turn.here) (syntax c.in-Some.node.now) (ap seen c.in-Some.is) (omega arith) (sym c.is_open_if.ensures ∙ c.if-is_open_if.true))

pub loop-turn-preserved : goal.loop-turn-preserved
loop-turn-preserved c =
    c.loop-turn.invariant ∙ open_past (1000 - c.loop-turn._turn) (1000 - (c.loop-turn._turn + 1)) (seen c.loop-turn.here) (seen c.last_statement-here.result) (syntax c.in-Some.node.now) (ap seen c.in-Some.is) (omega arith) (sym c.is_open_if.ensures ∙ c.if-is_open_if.false) c.last_statement-here.ensures

pub returns : goal.returns
returns c = sym (c.loop-turn.invariant ∙ open_end (1000 - c.loop-turn._turn) (seen c.loop-turn.here) (omega arith))
