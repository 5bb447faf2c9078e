-- Tokens that join with what stands behind them.
use Rattle.std.specs.Prelude.{ℕ, ◌==◌, ◌++◌, Bool, true, not, ◌&&◌, List, length, Result, Ok, Err}
use Rattle.js_tokens.specs.declared.token.Goal.{Goal}
use Rattle.js_tokens.specs.declared.token.Token.{Token}
use Rattle.js_lexer.specs.declared.fault.LexFault.{LexFault}
use Rattle.js_lexer.specs.Scan.{scan}

-- what was read is not a token of this length at the start
abbrev pub is_other : ℕ → Result Token LexFault → Bool
is_other len (Ok token) = not ((token.start == 0) && (token.end == len))
is_other len (Err fault) = true

-- the bytes of a token, read in its goal with the next bytes behind them, are not that token
abbrev pub needs_space : List ℕ → List ℕ → Goal → Bool
needs_space last behind goal = is_other (length last) (scan (last ++ behind) 0 goal)
