-- Texts of UTF-16 code units, and scalars that the form does not determine.
use Rattle.std.specs.Prelude.{ℕ, Bool, true, false, ◌&&◌, ◌||◌, nat_le, nat_lt, List, Option, Some, None, slice_get}
use Rattle.tree_core.specs.declared.scalars.Scalar.{Scalar}
use Rattle.tree_core.specs.declared.scalars.Scalar.TheVariants as scalar
use Rattle.tree_core.specs.Tests.{is_null_at}
use Rattle.js_forms.specs.declared.form.Sort.{Sort}
use Rattle.js_forms.specs.declared.form.Sort.TheVariants as sort
use Rattle.js_forms.specs.declared.form.Form.{Form}
use Rattle.js_forms.specs.declared.form.Form.TheVariants as f

-- the text that the scalar is
abbrev pub text_in : Option Scalar → Option (List ℕ)
text_in (Some (scalar.Text units)) = Some units
text_in _ = None

abbrev pub is_there : Option (List ℕ) → Bool
is_there (Some units) = true
is_there None = false

abbrev pub is_text : List Scalar → ℕ → Bool
is_text found n = is_there (text_in (slice_get found n))

-- the value and the flags are those of such a literal
abbrev pub has_value : Sort → List Scalar → Bool
has_value sort.Quoted found = is_text found 1 && is_null_at (slice_get found 2)
has_value sort.Number found = is_text found 1 && is_null_at (slice_get found 2)
has_value sort.BigInt found = is_text found 1 && is_null_at (slice_get found 2)
has_value sort.Regex found = is_text found 1 && is_text found 2
has_value _ found = true

-- the scalars that the form does not determine are such as it has
abbrev pub has_texts : Form → List Scalar → Bool
has_texts f.Name found = is_text found 0
has_texts f.AnyName found = is_text found 0
has_texts f.PrivateName found = is_text found 0
has_texts f.TemplateElement found = is_text found 0
has_texts f.Directive found = is_text found 0
has_texts (f.Literal one) found = has_value one found
has_texts f.Program found = is_text found 0 || is_null_at (slice_get found 0)
has_texts _ found = true

abbrev pub is_high : ℕ → Bool
is_high unit = nat_le 0xD800 unit && nat_lt unit 0xDC00

abbrev pub is_low : ℕ → Bool
is_low unit = nat_le 0xDC00 unit && nat_lt unit 0xE000
