-- The words of sample mode, as slices of strings.
use Rattle.std.proofs.Common.{◌≡◌, ◌≢◌, ◌<◌, List, [], ◌∷◌, None, false, refl, sym, ap, arith, length, get_or, map, string_bytes}
use Rattle.std.specs.Prelude.{IfSome, codes, nat_le}
use Rattle.std.specs.Str.{bytes_eq}
use Rattle.std.specs.declared.string.String.{String}
use Rattle.std.specs.declared.alloc.Global.{Global}
use Rattle.clap.specs.Words.{Text}
use Rattle.command_words.specs.Requests.{is_sample, count_in, count_of}
use Rattle.command_words.proofs.Ranges.{Within, when, number_within}

pub is_sample_none : (ws : List (String Global)) → length ws ≡ 0 → is_sample (map string_bytes ws) ≡ false
is_sample_none [] h = refl
is_sample_none (w ∷ ws) h = absurd (omega arith)

pub is_sample_here : (ws : List (String Global)) (w : String Global) → 0 < length ws → w ≡ get_or ws 0 w → is_sample (map string_bytes ws) ≡ bytes_eq (string_bytes w) (codes "--sample")
is_sample_here [] w h e = absurd (omega arith)
is_sample_here (v ∷ ws) w h e = ap (λ x. bytes_eq (string_bytes x) (codes "--sample")) (sym e)

pub count_of_none : (ws : List (String Global)) → length ws ≢ 2 → count_of (map string_bytes ws) ≡ None
count_of_none [] h = refl
count_of_none (a ∷ []) h = refl
count_of_none (a ∷ b ∷ []) h = absurd (h refl)
count_of_none (a ∷ b ∷ c ∷ ws) h = refl

pub count_of_here : (ws : List (String Global)) (w : String Global) → length ws ≡ 2 → w ≡ get_or ws 1 w → count_of (map string_bytes ws) ≡ count_in (string_bytes w)
count_of_here [] w h e = absurd (omega arith)
count_of_here (a ∷ []) w h e = absurd (omega arith)
count_of_here (a ∷ b ∷ []) w h e = ap (λ x. count_in (string_bytes x)) (sym e)
count_of_here (a ∷ b ∷ c ∷ ws) w h e = absurd (omega arith)

count_in_ranges : (text : Text) → IfSome (count_in text) (Within 20000)
count_in_ranges text = when (nat_le (length text) 5) 20000 _ (number_within 20000 text)

pub count_of_ranges : (words : List Text) → IfSome (count_of words) (Within 20000)
count_of_ranges [] = tt
count_of_ranges (a ∷ []) = tt
count_of_ranges (a ∷ b ∷ []) = count_in_ranges b
count_of_ranges (a ∷ b ∷ c ∷ ws) = tt
