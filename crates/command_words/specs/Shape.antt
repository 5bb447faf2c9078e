-- The command as a reader of words sees it: a simple command of the library `clap`.
use Rattle.std.specs.Prelude.{ℕ, true, Some, codes}
use Rattle.clap.specs.Words.{App, Rule, Text, new_app, new_rule, with_rule}
use Rattle.clap.specs.Simple.{on_top}
use Rattle.clap.specs.declared.builder.ArgAction.{ArgAction}
use Rattle.clap.specs.declared.builder.ArgAction.TheVariants.{Set, Append, SetTrue}

-- an option or a flag with a long word
abbrev pub long_rule : Text → ArgAction → Rule
long_rule word action = record (new_rule word) { long = Some word; action = Some action }

-- the same with a short letter
abbrev pub short_rule : Text → ArgAction → ℕ → Rule
short_rule word action letter = record (long_rule word action) { short = Some letter }

-- no word has been added, and there is neither a program's name nor help
unfoldable pub bare : App
bare = on_top (λ s. record s { no_binary_name = true; disable_help_flag = true }) (new_app (codes "codemod"))

abbrev pub script_rule : Text → ℕ → Rule
script_rule word letter = record (short_rule word Set letter) { required = true }

-- the script: `-t SCRIPT` or `--transform SCRIPT`, which must be there
unfoldable pub with_script : App → App
with_script a = with_rule a (script_rule (codes "transform") 116)

-- FILE words, of which there must be one
unfoldable pub with_files : App → App
with_files a = with_rule a (record (new_rule (codes "files")) { action = Some Append; required = true })

-- an option that takes one value
unfoldable pub with_option : Text → App → App
with_option word a = with_rule a (long_rule word Set)

-- a flag
unfoldable pub with_flag : Text → App → App
with_flag word a = with_rule a (long_rule word SetTrue)

unfoldable pub with_letter : Text → ℕ → App → App
with_letter word letter a = with_rule a (short_rule word SetTrue letter)

-- what is said of the run
unfoldable pub with_run_words : App → App
with_run_words a =
    with_flag (codes "fail-on-error") (with_option (codes "extensions") (with_option (codes "fuel") (with_letter (codes "print") 112 (with_letter (codes "dry") 100 (with_script a)))))

-- what is said of made text
unfoldable pub with_layout_words : App → App
with_layout_words a =
    with_flag (codes "arrow-parens") (with_flag (codes "no-curly-spacing") (with_flag (codes "trailing-comma") (with_option (codes "quote") (with_flag (codes "use-tabs") (with_option (codes "tab-width") a)))))

unfoldable pub command : App
command = with_files (with_layout_words (with_run_words bare))
