-- What `clap` takes and refuses, as an invocation.
use Rattle.std.proofs.Common.{◌≡◌, ◌≢◌, Bool, List, [], None, refl, ap, sym, ◌∙◌, true, false}
use Rattle.std.specs.Prelude.{if◌then◌else◌}
use Rattle.std.specs.List.{list_all}
use Rattle.clap.specs.Simple.{built}
use Rattle.clap.specs.Takes.{default_passes}
use Rattle.clap.specs.Walk.{Rule}
use Rattle.clap.specs.Words.{App, Row, Text, is_simple, matches_of, takes}
use Rattle.clap.specs.Faults.{fault_of, is_simple_and_free}
use Rattle.clap.specs.declared.error.kind.ErrorKind.{ErrorKind}
use Rattle.clap.specs.declared.error.kind.ErrorKind.TheVariants.{OutOfMemory}
use Rattle.clap.proofs.OnLiterals.{clap_on_literals}
use Rattle.command_words.specs.Shape.{bare, command, with_files, with_flag, with_layout_words, with_letter, with_option, with_run_words, with_script}
use Rattle.command_words.specs.Invocations.{are_taken, invocation_in, invocation_of, matches}
use Rattle.command_words.proofs.Unrefused.{takes_unrefused}

simple : is_simple command ≡ true
unfolding bare command with_files with_flag with_layout_words with_letter with_option with_run_words with_script clap_on_literals
simple = refl

simple_and_free : is_simple_and_free command ≡ true
unfolding bare command with_files with_flag with_layout_words with_letter with_option with_run_words with_script clap_on_literals
simple_and_free = refl

leaf : (built command).subs ≡ []
unfolding bare command with_files with_flag with_layout_words with_letter with_option with_run_words with_script clap_on_literals
leaf = refl

defaults_pass : list_all default_passes (built command).top.rules ≡ true
unfolding bare command with_files with_flag with_layout_words with_letter with_option with_run_words with_script clap_on_literals
defaults_pass = refl

free : list_all (λ (r : Rule). r.is_free) (built command).top.rules ≡ true
unfolding bare command with_files with_flag with_layout_words with_letter with_option with_run_words with_script clap_on_literals
free = refl

are_taken_is : (a : App) (words : List Text) → a ≡ command → takes a words ≡ are_taken words
unfolding are_taken
are_taken_is a words e = ap (λ x. takes x words) e

matches_are : (a : App) (words : List Text) → a ≡ command → matches_of a words ≡ matches words
unfolding matches
matches_are a words e = ap (λ x. matches_of x words) e

-- `clap` took the words, with these rows
pub taken : (a : App) (words : List Text) (rows : List Row) → a ≡ command → (is_simple a ≡ true → rows ≡ matches_of a words) → (is_simple_and_free a ≡ true → fault_of a words ≡ [])
    → invocation_in rows ≡ invocation_of words
taken a words rows e found unrefused =
    let none : fault_of command words ≡ [] = ap (λ x. fault_of x words) (sym e) ∙ unrefused (ap is_simple_and_free e ∙ simple_and_free) in
    let yes : are_taken words ≡ true = sym (are_taken_is command words refl) ∙ takes_unrefused command words simple leaf defaults_pass free none in
    let same : rows ≡ matches words = found (ap is_simple e ∙ simple) ∙ matches_are a words e in
    ap invocation_in same ∙ ap (λ (b : Bool). if b then invocation_in (matches words) else None) (sym yes)

-- `clap` refused the words, and memory was left
pub not_taken : (a : App) (words : List Text) (kind : ErrorKind) → a ≡ command → (takes a words ≡ true → kind ≡ OutOfMemory) → kind ≢ OutOfMemory → None ≡ invocation_of words
not_taken a words kind e full left = go (are_taken words) refl
  where
    go : (b : Bool) → are_taken words ≡ b → None ≡ (if b then invocation_in (matches words) else None)
    go true t = absurd (left (full (are_taken_is a words e ∙ t)))
    go false t = refl
