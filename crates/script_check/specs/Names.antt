-- The names of the rules of scripts, as the program prints them.
use Rattle.std.specs.Prelude.{ℕ, List, codes}
use Rattle.script_check.specs.declared.form.FormKind.{FormKind}
use Rattle.script_check.specs.declared.form.FormKind.TheVariants as form

unfoldable pub form_name : FormKind → List ℕ
form_name form.Subset = codes "Subset"
form_name form.NoName = codes "NoName"
form_name form.Twice = codes "Twice"
form_name form.NoExport = codes "NoExport"
form_name form.ConstWrite = codes "ConstWrite"
