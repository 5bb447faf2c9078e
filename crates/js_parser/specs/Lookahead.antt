-- What the next token may begin or end.
use Rattle.std.specs.Prelude.{Bool, true, false, not, ◌||◌, ◌&&◌}
use Rattle.js_tokens.specs.Words.{reserved}
use Rattle.js_tokens.specs.declared.punctuator.Punctuator.TheVariants.{Arrow, Slash, SlashAssign}
use Rattle.js_tokens.specs.declared.token.TemplatePart.TheVariants.{Whole, Head}
use Rattle.js_tokens.specs.declared.token.TokenKind.{TokenKind}
use Rattle.js_tokens.specs.declared.token.TokenKind.TheVariants as token
use Rattle.js_tokens.specs.Tokens.{is_punctuator}
use Rattle.js_lexer.specs.Cursors.{Input}
use Rattle.asi_rules.specs.Semicolons.{may_end}

-- a name that is no reserved word
abbrev pub is_name : TokenKind → Bool
is_name (token.Name word) = not (reserved word)
is_name _ = false

abbrev pub begins_template : TokenKind → Bool
begins_template (token.Template Whole) = true
begins_template (token.Template Head) = true
begins_template _ = false

-- a regular expression, if an operand comes there (ECMA-262, clause 12)
abbrev pub begins_regex : TokenKind → Bool
begins_regex kind = is_punctuator kind Slash || is_punctuator kind SlashAssign

-- a `;` may be missing before the next token (ECMA-262, clause 12.10.1)
abbrev pub ends_statement : Input → Bool
ends_statement i = may_end i.token.broken_before i.token.kind

-- `=>` on the same line
abbrev pub begins_arrow : Input → Bool
begins_arrow i = is_punctuator i.token.kind Arrow && not i.token.broken_before
