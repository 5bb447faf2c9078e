use Rattle.std.proofs.Common.{◌+◌, ◌*◌, ◌≤◌, length}
use Rattle.script_eval.specs.Weight.{weight_of}
use Rattle.script_eval.proofs.machine.Machine.turns.Given as goal

-- fuel never rises
abbrev pub invariant-loop-turn : goal.invariant-loop-turn
invariant-loop-turn l = l.self.fuel ≤ l.fn.self.fuel

-- each turn takes a unit, or takes a frame away
abbrev pub decreases-loop-turn : goal.decreases-loop-turn
decreases-loop-turn l = 8 * l.self.fuel + 2 * length l.self.frames.items + weight_of l.turn
