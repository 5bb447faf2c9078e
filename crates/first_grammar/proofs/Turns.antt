-- A recursion on the turns that are left, beside a loop that counts up to an end.
use Rattle.std.proofs.Common.{◌≡◌, ℕ, suc, ◌+◌, ◌-◌, ◌<◌, ◌≤◌, ap, ◌∙◌, arith}

-- at one more turn
pub turn_left : {X : Type 0} {x : X} (f : ℕ → X) (end at : ℕ) → at < end → x ≡ f (end - at) → x ≡ f (suc (end - (at + 1)))
turn_left f end at below e = e ∙ ap f (let left : end - at ≡ suc (end - (at + 1)) = omega arith in left)

-- after the last
pub turns_done : {X : Type 0} {x : X} (f : ℕ → X) (end at : ℕ) → end ≤ at → x ≡ f (end - at) → x ≡ f 0
turns_done f end at done e = e ∙ ap f (let none : end - at ≡ 0 = omega arith in none)
