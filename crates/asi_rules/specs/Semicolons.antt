-- Missing semicolons (ECMA-262, clauses 12.10 and 15.7).
use Rattle.std.specs.Prelude.{ℕ, Bool, true, false, not, ◌||◌, nat_le}
use Rattle.js_tokens.specs.declared.punctuator.Punctuator.TheVariants as m
use Rattle.js_tokens.specs.declared.token.TemplatePart.TheVariants as part
use Rattle.js_tokens.specs.declared.token.TokenKind.{TokenKind}
use Rattle.js_tokens.specs.declared.token.TokenKind.TheVariants as t
use Rattle.js_tokens.specs.declared.word.Word.TheVariants as w
use Rattle.asi_rules.specs.declared.rules.EndLevels.{EndLevels}
use Rattle.asi_rules.specs.declared.rules.Ending.{Ending}
use Rattle.asi_rules.specs.declared.rules.Ending.TheVariants as e

-- the end of the text, or `}`
abbrev pub closes : TokenKind → Bool
closes t.End = true
closes (t.Punctuator m.CloseBrace) = true
closes _ = false

-- a `;` may be missing before the next token, if what is before does not go on with it: the rules 1
-- and 2 of clause 12.10.1
abbrev pub may_end : Bool → TokenKind → Bool
may_end broken next = broken || closes next

-- an end of a statement goes on with the next token: a call, a member or a tagged template (clause
-- 13.3) where it has level 16 or more, a sum (13.8) from level 11 on, a quotient (13.7) or an
-- assignment (13.15) from level 12 on; so does an export clause, with its source (16.2.3)
abbrev pub statement_joins : EndLevels → TokenKind → Bool
statement_joins ends (t.Punctuator m.OpenParen) = nat_le 16 ends.most
statement_joins ends (t.Punctuator m.OpenBracket) = nat_le 16 ends.most
statement_joins ends (t.Template part.Whole) = nat_le 16 ends.most
statement_joins ends (t.Template part.Head) = nat_le 16 ends.most
statement_joins ends (t.Punctuator m.Plus) = nat_le 11 ends.most
statement_joins ends (t.Punctuator m.Minus) = nat_le 11 ends.most
statement_joins ends (t.Punctuator m.Slash) = nat_le 12 ends.most
statement_joins ends (t.Punctuator m.SlashAssign) = nat_le 12 ends.most
statement_joins ends (t.Name w.From) = ends.clause
statement_joins ends _ = false

-- an end of a field's value goes on with the next token: a member, a product (clause 13.7) or a
-- relation (13.10)
abbrev pub value_joins : ℕ → TokenKind → Bool
value_joins most (t.Punctuator m.OpenBracket) = nat_le 16 most
value_joins most (t.Punctuator m.Star) = nat_le 12 most
value_joins most (t.Name w.In) = nat_le 9 most
value_joins most (t.Name w.Instanceof) = nat_le 9 most
value_joins most _ = false

-- a key goes on as that of a method or of a field with a value (clause 15.7)
abbrev pub field_joins : TokenKind → Bool
field_joins (t.Punctuator m.OpenParen) = true
field_joins (t.Punctuator m.Assign) = true
field_joins _ = false

-- a key begins with the token (clause 13.2.5)
abbrev pub begins_key : TokenKind → Bool
begins_key (t.Name _) = true
begins_key t.Quoted = true
begins_key t.Number = true
begins_key t.BigInt = true
begins_key t.Private = true
begins_key (t.Punctuator m.OpenBracket) = true
begins_key _ = false

abbrev pub is_close_brace : TokenKind → Bool
is_close_brace (t.Punctuator m.CloseBrace) = true
is_close_brace _ = false

abbrev pub joins : Ending → EndLevels → TokenKind → Bool
joins e.Statement ends next = statement_joins ends next
joins e.FieldValue ends next = value_joins ends.most next
joins e.Field ends next = field_joins next
joins e.AccessorName ends next = field_joins next || begins_key next
joins e.StaticName ends next = not (is_close_brace next)

-- a statement or a field with these ends goes on with the next token
abbrev pub would_join : EndLevels → TokenKind → Bool
would_join ends next = joins ends.word ends next
