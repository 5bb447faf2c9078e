-- The source of sample mode.
use Rattle.std.specs.Prelude.{ℕ, zero, suc, List, [], ◌++◌, codes}
use Rattle.std.specs.Fmt.{decimal}

-- the function of a number
unfoldable pub function_text : ℕ → List ℕ
function_text i = codes "function f" ++ decimal i ++ codes "(a, b) {\n    return a + b * " ++ decimal i ++ codes ";\n}\n"

-- the functions of the numbers below n, in order
unfoldable pub sample : ℕ → List ℕ
sample zero = []
sample (suc n) = sample n ++ function_text n
