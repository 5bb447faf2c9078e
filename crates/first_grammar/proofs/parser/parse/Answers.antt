use Rattle.std.proofs.Common.{rules, arith}
use Rattle.std.proofs.lemmas.Grind.{common_steps}
use Rattle.tree_core.specs.declared.span.Parsed.{Parsed}
use Rattle.tree_core.specs.View.{syntax}
use Rattle.first_grammar.proofs.Answered.{parsing, refused_alone}
use Rattle.first_grammar.proofs.Weaker.{reads}
use Rattle.first_grammar.proofs.parser.parse.Goals as goal

pub returns-in_err-tree-clause-refused : goal.returns-in_err-tree-clause-refused
returns-in_err-tree-clause-refused c = first_of (search rules, grind (arith, common_steps))

pub returns-in_err-tree-clause-alone : goal.returns-in_err-tree-clause-alone
returns-in_err-tree-clause-alone c = refused_alone (λ (p : Parsed). syntax p.tree) c.args.source.now c.from_residual.result c.from_residual.ensures.0 (returns-in_err-tree-clause-refused c)

pub returns-clause-spelled : goal.returns-clause-spelled
returns-clause-spelled c = (parsing _ _ _ _ _ _ _ c.in_ok-tree.ensures c.as_slice.ensures c.new-spans.ensures c.in_ok-tree-2.ensures.tree c.in_ok-tree-2.ensures.spans).spelled

pub returns-clause-numbered : goal.returns-clause-numbered
returns-clause-numbered c = (parsing _ _ _ _ _ _ _ c.in_ok-tree.ensures c.as_slice.ensures c.new-spans.ensures c.in_ok-tree-2.ensures.tree c.in_ok-tree-2.ensures.spans).numbered_so

pub returns-clause-spans : goal.returns-clause-spans
returns-clause-spans c = (parsing _ _ _ _ _ _ _ c.in_ok-tree.ensures c.as_slice.ensures c.new-spans.ensures c.in_ok-tree-2.ensures.tree c.in_ok-tree-2.ensures.spans).spans_number

pub returns-clause-nesting : goal.returns-clause-nesting
returns-clause-nesting c = (parsing _ _ _ _ _ _ _ c.in_ok-tree.ensures c.as_slice.ensures c.new-spans.ensures c.in_ok-tree-2.ensures.tree c.in_ok-tree-2.ensures.spans).low

pub returns-clause-alone : goal.returns-clause-alone
returns-clause-alone c = (parsing _ _ _ _ _ _ _ c.in_ok-tree.ensures c.as_slice.ensures c.new-spans.ensures c.in_ok-tree-2.ensures.tree c.in_ok-tree-2.ensures.spans).alone

pub returns-clause-reads : goal.returns-clause-reads
returns-clause-reads c = reads c.number.new.numbered c.args.source.now (syntax c.in_ok-tree-2.tree) (returns-clause-spelled c)
