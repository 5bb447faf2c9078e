use Rattle.std.proofs.Common.{◌≡◌, ◌<◌, ◌++◌, ◌∷◌, [], ◌∙◌, sym, length, rules, arith}
use Rattle.std.proofs.lemmas.Grind.{common_steps}
use Rattle.std.proofs.lemmas.List.Elements.{All-push, All-same}
use Rattle.scope_lookup.specs.Walk.{declaring}
use Rattle.scope_lookup.proofs.WorkStack.{told_kept, told_passed, told_end}
use Rattle.scope_lookup.proofs.walk.declared.Goals as goal

pub loop-pending-preserved-in-Continue-branch-3 : goal.loop-pending-preserved-in-Continue-branch-3
loop-pending-preserved-in-Continue-branch-3 c =
    let e : c.loop-pending.stack.items ≡ c.pop.new.self.items ++ c.in-Some.pending ∷ [] = first_of (search rules, grind (arith, common_steps)) in
    let b : c.in-Some.pending.at < length c.args.arena.now.forest.places = search rules in
    record {
      known = c.step.ensures.known;
      within = All-same (λ p. p < length c.args.arena.now.forest.places) c.push.new.self.items (c.loop-pending.found.items ++ c.in-Some.pending.at ∷ []) c.in_ok-push.ensures.items
          (All-push (λ p. p < length c.args.arena.now.forest.places) c.loop-pending.found.items c.in-Some.pending.at c.loop-pending.invariant.within b);
      told = told_kept c.args.arena.now c.loop-pending.stack.items c.pop.new.self.items c.step.new.stack.items c.in-Some.pending c.loop-pending.found.items c.push.new.self.items
          (declaring c.args.arena.now c.args.scope.now) e c.in_ok-step.ensures.waits
          (sym c.does_bind.ensures ∙ c.if-does_bind.true) c.in_ok-push.ensures.items c.loop-pending.invariant.told;
    }

pub loop-pending-preserved : goal.loop-pending-preserved
loop-pending-preserved c =
    let e : c.loop-pending.stack.items ≡ c.pop.new.self.items ++ c.in-Some.pending ∷ [] = first_of (search rules, grind (arith, common_steps)) in
    record {
      known = c.step.ensures.known;
      within = c.loop-pending.invariant.within;
      told = told_passed c.args.arena.now c.loop-pending.stack.items c.pop.new.self.items c.step.new.stack.items c.in-Some.pending c.loop-pending.found.items
          (declaring c.args.arena.now c.args.scope.now) e c.in_ok-step.ensures.waits
          (sym c.does_bind.ensures ∙ c.if-does_bind.false) c.loop-pending.invariant.told;
    }

pub returns-clause-found : goal.returns-clause-found
returns-clause-found c =
    let e : c.loop-pending.stack.items ≡ [] = first_of (search rules, grind (arith, common_steps)) in
    told_end c.args.arena.now c.loop-pending.stack.items c.loop-pending.found.items (declaring c.args.arena.now c.args.scope.now) e c.loop-pending.invariant.told
