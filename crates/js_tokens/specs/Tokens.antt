-- Tests of tokens.
use Rattle.std.specs.Prelude.{Bool, false, ◌==◌}
use Rattle.js_tokens.specs.declared.punctuator.Punctuator.{Punctuator}
use Rattle.js_tokens.specs.declared.token.TokenKind.{TokenKind}
use Rattle.js_tokens.specs.declared.token.TokenKind.TheVariants as token
use Rattle.js_tokens.specs.declared.word.Word.{Word}
use Rattle.js_tokens.specs.Punctuators.{punctuator_number}
use Rattle.js_tokens.specs.Words.{word_number}

-- the token is this punctuator
abbrev pub is_punctuator : TokenKind → Punctuator → Bool
is_punctuator (token.Punctuator found) punctuator = punctuator_number found == punctuator_number punctuator
is_punctuator _ punctuator = false

-- the token is this word
abbrev pub is_word : TokenKind → Word → Bool
is_word (token.Name found) word = word_number found == word_number word
is_word _ word = false
