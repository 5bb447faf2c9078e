-- The numbers of an invocation lie in their ranges.
use Rattle.std.proofs.Common.{◌≡◌, ◌≤◌, ◌&&◌, ℕ, Bool, List, Option, Some, None, refl, true, false, arith, leb-true}
use Rattle.std.specs.Prelude.{IfSome, if◌then◌else◌, nat_le, codes, option_map, option_and_then}
use Rattle.std.specs.Option.{option_map_or}
use Rattle.std.specs.Str.Parse.{digits_value}
use Rattle.clap.specs.Words.{Row, Text, first_of}
use Rattle.clap.proofs.WalkLemmas.{both}
use Rattle.cm_text.specs.Layouts.{HasTabWidth}
use Rattle.cm_text.specs.declared.layout.Layout.{Layout}
use Rattle.cm_text.specs.declared.layout.Quote.{Quote}
use Rattle.command_words.specs.Invocations.{IsInRanges, are_taken, extensions_of, fuel_of, invocation_in, invocation_of, layout_of, layout_with, made, matches, quote_of, tab_width_of}
use Rattle.command_words.specs.Values.{fuel_in, is_decimal, number_to, one_to}

abbrev pub Within : ℕ → ℕ → Type 0
Within most n = (1 ≤ n) × (n ≤ most)

one_to_within : (most n : ℕ) → IfSome (one_to most n) (Within most)
one_to_within most n = go (nat_le 1 n && nat_le n most) refl
  where
    go : (b : Bool) → (nat_le 1 n && nat_le n most) ≡ b → IfSome (if b then Some n else None) (Within most)
    go false t = tt
    go true t = let parts = both _ _ t in (leb-true _ _ parts.0, leb-true _ _ parts.1)

pub when : (b : Bool) (most : ℕ) (o : Option ℕ) → IfSome o (Within most) → IfSome (if b then o else None) (Within most)
when true most o h = h
when false most o h = tt

pub number_within : (most : ℕ) (text : Text) → IfSome (number_to most text) (Within most)
number_within most text = when (is_decimal text) most _ (one_to_within most (digits_value 10 text))

usual_or : (most usual : ℕ) (read : Text → Option ℕ) (o : Option Text) → Within most usual → ((t : Text) → IfSome (read t) (Within most)) → IfSome (option_map_or read o (Some usual)) (Within most)
usual_or most usual read None h each = h
usual_or most usual read (Some t) h each = each t

fuel_within : (rows : List Row) → IfSome (fuel_of rows) (Within 1000000000000)
fuel_within rows = usual_or 1000000000000 10000000 fuel_in (first_of (codes "fuel") rows) (omega arith, omega arith) (λ t. when _ 1000000000000 _ (number_within 1000000000000 t))

width_within : (rows : List Row) → IfSome (tab_width_of rows) (Within 16)
width_within rows = usual_or 16 4 (number_to 16) (first_of (codes "tab-width") rows) (omega arith, omega arith) (number_within 16)

layout_within : (rows : List Row) → IfSome (layout_of rows) HasTabWidth
layout_within rows = go (tab_width_of rows) (quote_of rows) (width_within rows)
  where
    go : (w : Option ℕ) (s : Option (Option Quote)) → IfSome w (Within 16) → IfSome (option_and_then (λ width. option_map (layout_with rows width) s) w) HasTabWidth
    go None s h = tt
    go (Some w) None h = tt
    go (Some w) (Some s) h = record { least = h.0; most = h.1 }

made_in_ranges : (rows : List Row) (script : Option Text) (files : Option (List Text)) (fuel : Option ℕ) (extensions : Option (List Text)) (layout : Option Layout)
    → IfSome fuel (Within 1000000000000) → IfSome layout HasTabWidth → IfSome (made rows script files fuel extensions layout) IsInRanges
made_in_ranges rows None files fuel extensions layout f l = tt
made_in_ranges rows (Some script) None fuel extensions layout f l = tt
made_in_ranges rows (Some script) (Some files) None extensions layout f l = tt
made_in_ranges rows (Some script) (Some files) (Some fuel) None layout f l = tt
made_in_ranges rows (Some script) (Some files) (Some fuel) (Some extensions) None f l = tt
made_in_ranges rows (Some script) (Some files) (Some fuel) (Some extensions) (Some layout) f l = record { least_fuel = f.0; most_fuel = f.1; tab_width = l }

rows_in_ranges : (rows : List Row) → IfSome (invocation_in rows) IsInRanges
unfolding invocation_in
rows_in_ranges rows = made_in_ranges rows _ _ (fuel_of rows) (extensions_of rows) (layout_of rows) (fuel_within rows) (layout_within rows)

pub in_ranges : (words : List Text) → IfSome (invocation_of words) IsInRanges
in_ranges words = go (are_taken words)
  where
    go : (b : Bool) → IfSome (if b then invocation_in (matches words) else None) IsInRanges
    go true = rows_in_ranges (matches words)
    go false = tt
