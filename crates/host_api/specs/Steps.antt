-- What a walk's next step takes.
use Rattle.std.specs.Prelude.{ℕ, ◌<◌}
use Rattle.host_api.specs.declared.calls.Step.{Step}
use Rattle.host_api.specs.declared.calls.Step.TheVariants.{Call, Done}

-- a call of the walk's function comes with a unit for its item
abbrev pub CallTakes : ℕ → ℕ → Step → Type 0
CallTakes old new (Call function arguments count) = new < old
CallTakes old new (Done answer) = Unit {0}
