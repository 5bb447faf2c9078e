use Rattle.std.proofs.Common.{◌≡◌, suc, [], ◌∷◌, drop, ◌∙◌, sym, ap, drop-cons, add-one, rules, arith}
use Rattle.std.proofs.lemmas.Grind.{common_steps}
use Rattle.scope_lookup.specs.Resolve.{first_named}
use Rattle.scope_lookup.proofs.Names.{first_here, first_later, first_none}
use Rattle.scope_lookup.proofs.resolving.first_named.Goals as goal

pub returns-then-has_name-clause-first : goal.returns-then-has_name-clause-first
returns-then-has_name-clause-first c =
    first_here c.args.arena.now c.args.name.now c.index-places-at.result (drop (suc c.loop-at.at) c.args.places.now) (drop c.loop-at.at c.args.places.now)
    (drop-cons c.args.places.now c.loop-at.at c.index-places-at.result c.loop-at-test.true ∙ ap (λ z. z ∷ drop (suc c.loop-at.at) c.args.places.now) (sym c.index-places-at.is))
    (sym c.has_name.ensures ∙ c.if-has_name.true)
    ∙ c.loop-at.invariant

pub loop-at-preserved : goal.loop-at-preserved
loop-at-preserved c =
    ap (λ n. first_named c.args.arena.now c.args.name.now (drop n c.args.places.now)) (add-one c.loop-at.at)
    ∙ (first_later c.args.arena.now c.args.name.now c.index-places-at.result (drop (suc c.loop-at.at) c.args.places.now) (drop c.loop-at.at c.args.places.now)
    (drop-cons c.args.places.now c.loop-at.at c.index-places-at.result c.loop-at-test.true ∙ ap (λ z. z ∷ drop (suc c.loop-at.at) c.args.places.now) (sym c.index-places-at.is))
    (sym c.has_name.ensures ∙ c.if-has_name.false)
    ∙ c.loop-at.invariant)

pub returns-clause-first : goal.returns-clause-first
returns-clause-first c =
    let e : drop c.loop-at.at c.args.places.now ≡ [] = first_of (search rules, grind (arith, common_steps)) in
    first_none c.args.arena.now c.args.name.now (drop c.loop-at.at c.args.places.now) e ∙ c.loop-at.invariant
