use Rattle.std.proofs.Common.{◌≡◌, ◌<◌, ◌++◌, ◌∷◌, [], ◌∙◌, sym, length, filter, rules, arith}
use Rattle.std.proofs.lemmas.Grind.{common_steps}
use Rattle.std.proofs.lemmas.List.Elements.{All-push, All-same}
use Rattle.collections.specs.Below.{below, is_of}
use Rattle.collections.proofs.WorkStack.{told_kept, told_passed, told_end}
use Rattle.collections.proofs.preorder.below_of.Goals as goal

pub loop-pending-preserved-in-Continue-branch-3 : goal.loop-pending-preserved-in-Continue-branch-3
loop-pending-preserved-in-Continue-branch-3 c =
    let e : c.loop-pending.stack.items ≡ c.pop.new.self.items ++ c.in-Some.pending ∷ [] = first_of (search rules, grind (arith, common_steps)) in
    let b : c.in-Some.pending.at < length c.args.arena.now.forest.places = search rules in
    record {
      known = c.step.ensures.known;
      within = All-same (λ p. p < length c.args.arena.now.forest.places) c.push.new.self.items (c.loop-pending.found.items ++ c.in-Some.pending.at ∷ []) c.in_ok-push.ensures.items
          (All-push (λ p. p < length c.args.arena.now.forest.places) c.loop-pending.found.items c.in-Some.pending.at c.loop-pending.invariant.within b);
      told = told_kept c.args.arena.now.forest c.loop-pending.stack.items c.pop.new.self.items c.step.new.stack.items c.in-Some.pending c.args.of c.loop-pending.found.items c.push.new.self.items
          (filter (is_of c.args.arena.now.forest c.args.of) (below (length c.args.arena.now.forest.nodes) c.args.arena.now.forest c.args.node)) e c.in_ok-step.ensures.waits
          (sym c.is_of.ensures ∙ c.if-is_of.true) c.in_ok-push.ensures.items c.loop-pending.invariant.told;
    }

pub loop-pending-preserved : goal.loop-pending-preserved
loop-pending-preserved c =
    let e : c.loop-pending.stack.items ≡ c.pop.new.self.items ++ c.in-Some.pending ∷ [] = first_of (search rules, grind (arith, common_steps)) in
    record {
      known = c.step.ensures.known;
      within = c.loop-pending.invariant.within;
      told = told_passed c.args.arena.now.forest c.loop-pending.stack.items c.pop.new.self.items c.step.new.stack.items c.in-Some.pending c.args.of c.loop-pending.found.items
          (filter (is_of c.args.arena.now.forest c.args.of) (below (length c.args.arena.now.forest.nodes) c.args.arena.now.forest c.args.node)) e c.in_ok-step.ensures.waits
          (sym c.is_of.ensures ∙ c.if-is_of.false) c.loop-pending.invariant.told;
    }

pub returns-clause-found : goal.returns-clause-found
returns-clause-found c =
    let e : c.loop-pending.stack.items ≡ [] = first_of (search rules, grind (arith, common_steps)) in
    told_end c.args.arena.now.forest c.loop-pending.stack.items (is_of c.args.arena.now.forest c.args.of) c.loop-pending.found.items
    (filter (is_of c.args.arena.now.forest c.args.of) (below (length c.args.arena.now.forest.nodes) c.args.arena.now.forest c.args.node)) e c.loop-pending.invariant.told
