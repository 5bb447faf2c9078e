-- What the words of a command line are: the run of a script over files, or a sample.
use Rattle.std.specs.Prelude.{◌≤◌, ℕ, Bool, false, List, [], ◌∷◌, length, Option, None, if◌then◌else◌, codes, nat_le, option_map}
use Rattle.std.specs.Str.{bytes_eq}
use Rattle.clap.specs.Words.{Text}
use Rattle.command_words.specs.Invocations.{invocation_of, IsInRanges}
use Rattle.command_words.specs.Values.{number_to}
use Rattle.command_words.specs.declared.invocation.Request.{Request}
use Rattle.command_words.specs.declared.invocation.Request.TheVariants.{Run, Sample}

-- the words begin as those of sample mode
abbrev pub is_sample : List Text → Bool
is_sample [] = false
is_sample (word ∷ words) = bytes_eq word (codes "--sample")

-- the functions of a sample: at most 5 digits
abbrev pub count_in : Text → Option ℕ
count_in text = if nat_le (length text) 5 then number_to 20000 text else None

-- there is one word behind the first
abbrev pub count_of : List Text → Option ℕ
count_of (word ∷ count ∷ []) = count_in count
count_of _ = None

-- what the words of a command line ask for
abbrev pub request_of : List Text → Option Request
request_of words = if is_sample words then option_map Sample (count_of words) else option_map Run (invocation_of words)

-- the numbers of a request lie in their ranges
abbrev pub HasRanges : Request → Type 0
HasRanges (Run invocation) = IsInRanges invocation
HasRanges (Sample count) = (1 ≤ count) × (count ≤ 20000)
