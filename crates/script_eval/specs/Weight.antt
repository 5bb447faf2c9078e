-- What is left to do: units of fuel, frames that wait, and what the next turn begins with. What was
-- given weighs more than what is to be evaluated, which takes a unit.
use Rattle.std.specs.Prelude.{ℕ, ◌+◌, ◌*◌, length}
use Rattle.script_eval.specs.declared.frames.Turn as turn
use Rattle.script_eval.specs.declared.frames.Turn.{Turn}
use Rattle.script_eval.specs.declared.machine.Machine.{Machine}

abbrev pub weight_of : Turn → ℕ
weight_of (turn.TheVariants.Expression e) = 0
weight_of (turn.TheVariants.Statement s) = 0
weight_of (turn.TheVariants.Given v) = 1
weight_of (turn.TheVariants.Ended f) = 1

-- a unit outweighs the frames of a block or a call
abbrev pub work : Machine → ℕ
work m = 8 * m.fuel + 2 * length m.frames.items
