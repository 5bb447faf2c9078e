use Rattle.std.proofs.Common.{◌∙◌, sym, ap, ◌+◌, ◌-◌, arith}
use Rattle.tree_core.specs.View.{syntax}
use Rattle.tree_check.proofs.Levels.{seen, link_none, link_end, link_here, link_past}
use Rattle.tree_check.proofs.chains.has_optional_link.Goals as goal

pub returns-in_default : goal.returns-in_default
returns-in_default c = sym (c.loop-turn.invariant ∙ link_none (1000 - c.loop-turn._turn) (seen c.loop-turn.here) (ap seen c.in_default.is))

pub returns-then-is_optional_link : goal.returns-then-is_optional_link
returns-then-is_optional_link c = sym (c.loop-turn.invariant ∙ link_here (1000 - c.loop-turn._turn) (seen c.loop-turn.here) (syntax c.in-Some.node.now) (ap seen c.in-Some.is) (omega arith) (sym c.is_optional_link.ensures ∙ c.if-is_optional_link.true))

pub loop-turn-preserved : goal.loop-turn-preserved
loop-turn-preserved c =
    c.loop-turn.invariant ∙ link_past (1000 - c.loop-turn._turn) (1000 - (c.loop-turn._turn + 1)) (seen c.loop-turn.here) (seen c.link_below-here.result) (syntax c.in-Some.node.now) (ap seen c.in-Some.is) (omega arith) (sym c.is_optional_link.ensures ∙ c.if-is_optional_link.false) c.link_below-here.ensures

pub returns : goal.returns
returns c = sym (c.loop-turn.invariant ∙ link_end (1000 - c.loop-turn._turn) (seen c.loop-turn.here) (omega arith))
