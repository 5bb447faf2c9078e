-- The invocation that the words of a command line make.
use Rattle.std.specs.Prelude.{◌≤◌, ℕ, Bool, false, List, [], ◌∷◌, Option, Some, None, if◌then◌else◌, codes, option_map, option_and_then}
use Rattle.std.specs.Option.{option_map_or}
use Rattle.std.specs.Str.{bytes_eq}
use Rattle.clap.specs.Words.{Row, Text, all_of, first_of, matches_of, takes}
use Rattle.cm_text.specs.Layouts.{HasTabWidth}
use Rattle.cm_text.specs.declared.layout.Layout.{Layout}
use Rattle.cm_text.specs.declared.layout.Quote.{Quote}
use Rattle.command_words.specs.declared.invocation.Invocation.{Invocation}
use Rattle.command_words.specs.Shape.{command}
use Rattle.command_words.specs.Values.{fuel_in, names_in, number_to, quote_in}

-- `clap` takes the words as those of the command
unfoldable pub are_taken : List Text → Bool
are_taken words = takes command words

-- what `clap` finds in words that it takes
unfoldable pub matches : List Text → List Row
matches words = matches_of command words

-- a flag was used
abbrev pub is_set : Text → List Row → Bool
is_set id rows = option_map_or (λ value. bytes_eq value (codes "true")) (first_of id rows) false

abbrev pub fuel_of : List Row → Option ℕ
fuel_of rows = option_map_or fuel_in (first_of (codes "fuel") rows) (Some 10000000)

abbrev pub extensions_of : List Row → Option (List Text)
extensions_of rows = option_map_or names_in (first_of (codes "extensions") rows) (Some (codes "js" ∷ []))

abbrev pub tab_width_of : List Row → Option ℕ
tab_width_of rows = option_map_or (number_to 16) (first_of (codes "tab-width") rows) (Some 4)

-- the marks of strings, if the words ask for some
abbrev pub quote_of : List Row → Option (Option Quote)
quote_of rows = option_map_or (λ text. option_map Some (quote_in text)) (first_of (codes "quote") rows) (Some None)

abbrev pub layout_with : List Row → ℕ → Option Quote → Layout
layout_with rows width quote = record {
  tab_width = width;
  use_tabs = is_set (codes "use-tabs") rows;
  quote = quote;
  trailing_comma = is_set (codes "trailing-comma") rows;
  tight_braces = is_set (codes "no-curly-spacing") rows;
  arrow_parens = is_set (codes "arrow-parens") rows;
}

abbrev pub layout_of : List Row → Option Layout
layout_of rows = option_and_then (λ width. option_map (layout_with rows width) (quote_of rows)) (tab_width_of rows)

abbrev pub invocation_with : List Row → Text → List Text → ℕ → List Text → Layout → Invocation
invocation_with rows script files fuel extensions layout = record {
  script = script;
  files = files;
  dry = is_set (codes "dry") rows;
  print = is_set (codes "print") rows;
  fuel = fuel;
  extensions = extensions;
  fail_on_error = is_set (codes "fail-on-error") rows;
  layout = layout;
}

-- the invocation, where each value passes
abbrev pub made : List Row → Option Text → Option (List Text) → Option ℕ → Option (List Text) → Option Layout → Option Invocation
made rows (Some script) (Some files) (Some fuel) (Some extensions) (Some layout) = Some (invocation_with rows script files fuel extensions layout)
made rows _ _ _ _ _ = None

-- the invocation that the rows of the matches make
unfoldable pub invocation_in : List Row → Option Invocation
invocation_in rows = made rows (first_of (codes "transform") rows) (all_of (codes "files") rows) (fuel_of rows) (extensions_of rows) (layout_of rows)

-- what the words of a command line ask for, where `clap` takes them and each value passes
abbrev pub invocation_of : List Text → Option Invocation
invocation_of words = if are_taken words then invocation_in (matches words) else None

-- the numbers of an invocation lie in their ranges
pub record IsInRanges (i : Invocation) : Type 0 where
  pub least_fuel : 1 ≤ i.fuel
  pub most_fuel : i.fuel ≤ 1000000000000
  pub tab_width : HasTabWidth i.layout
