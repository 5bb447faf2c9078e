use Rattle.std.proofs.Common.{◌≡◌, ◌++◌, ◌∷◌, [], take}
use Rattle.tree_core.proofs.Taken.{take_got}
use Rattle.tree_core.proofs.copying.copy_scalars.Goals as goal

pub loop-at-preserved : goal.loop-at-preserved
loop-at-preserved c =
    let t = take_got c.args.scalars.now c.loop-at.at c.in-Some.scalar.now c.in-Some.ensures in
    let e = c.in_ok-copy_scalar-in-Some.ensures in
    let g = c.in_ok-copied-in-Some.ensures in
    let i : c.loop-at.copied ≡ take c.loop-at.at c.args.scalars.now = c.loop-at.invariant in
    let n : c.in_ok-copied-in-Some.copied ≡ c.loop-at.copied ++ c.in_ok-copy_scalar-in-Some.field-0 ∷ [] = cc in
    cc
