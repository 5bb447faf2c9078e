use Rattle.std.proofs.Common.{◌≡◌, take, rules}
use Rattle.tree_core.proofs.Taken.{take_got}
use Rattle.text_guard.proofs.scalars.same_scalars.Goals as goal

pub loop-at-preserved : goal.loop-at-preserved
loop-at-preserved c =
    let a = take_got c.args.a.now c.loop-at.at c.in-Some-Some.a.now c.in-Some-Some.ensures in
    let b = take_got c.args.b.now c.loop-at.at c.in-Some-Some.b.now c.in-Some-Some.ensures' in
    let s : c.in-Some-Some.a.now ≡ c.in-Some-Some.b.now = search rules in
    let i : take c.loop-at.at c.args.a.now ≡ take c.loop-at.at c.args.b.now = c.loop-at.invariant in
    cc
