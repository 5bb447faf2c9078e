-- Which names a script writes: no constant's (ECMA-262, clause 9.1.1.1.5), and no function's.
use Rattle.std.specs.Prelude.{Bool, true, false}
use Rattle.script_check.specs.declared.names.Class.{Class}
use Rattle.script_check.specs.declared.names.Class.TheVariants as declared

unfoldable pub may_write : Class → Bool
may_write declared.Let = true
may_write declared.Const = false
may_write declared.Function = false
