-- The numbers and the names of the rules.
use Rattle.std.specs.Prelude.{ℕ, List, codes}
use Rattle.tree_check.specs.declared.rule.Rule.{Rule}
use Rattle.tree_check.specs.declared.rule.Rule.TheVariants as r

abbrev pub rule_number : Rule → ℕ
rule_number r.Depth = 1
rule_number r.Missing = 2
rule_number r.Category = 3
rule_number r.Scalar = 4
rule_number r.Name = 5
rule_number r.LiteralText = 6
rule_number r.TemplateText = 7
rule_number r.Directive = 8
rule_number r.Shorthand = 9
rule_number r.Initializer = 10
rule_number r.RestLast = 11
rule_number r.Method = 12
rule_number r.Chain = 13
rule_number r.Context = 14
rule_number r.DanglingElse = 15
rule_number r.DefaultTwice = 16
rule_number r.Specifiers = 17
rule_number r.CommentPlace = 18
rule_number r.CommentText = 19
rule_number r.LineGap = 20
rule_number r.Private = 21

unfoldable pub rule_name : Rule → List ℕ
rule_name r.Depth = codes "Depth"
rule_name r.Missing = codes "Missing"
rule_name r.Category = codes "Category"
rule_name r.Scalar = codes "Scalar"
rule_name r.Name = codes "Name"
rule_name r.LiteralText = codes "LiteralText"
rule_name r.TemplateText = codes "TemplateText"
rule_name r.Directive = codes "Directive"
rule_name r.Shorthand = codes "Shorthand"
rule_name r.Initializer = codes "Initializer"
rule_name r.RestLast = codes "RestLast"
rule_name r.Method = codes "Method"
rule_name r.Chain = codes "Chain"
rule_name r.Context = codes "Context"
rule_name r.DanglingElse = codes "DanglingElse"
rule_name r.DefaultTwice = codes "DefaultTwice"
rule_name r.Specifiers = codes "Specifiers"
rule_name r.CommentPlace = codes "CommentPlace"
rule_name r.CommentText = codes "CommentText"
rule_name r.LineGap = codes "LineGap"
rule_name r.Private = codes "Private"
