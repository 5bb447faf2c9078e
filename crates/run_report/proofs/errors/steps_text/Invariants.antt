use Rattle.std.proofs.Common.{◌≡◌, take}
use Rattle.std.specs.List.{flat_map}
use Rattle.run_report.specs.Errors.{step_text}
use Rattle.run_report.proofs.errors.steps_text.Given as goal

abbrev pub invariant-loop-step : goal.invariant-loop-step
invariant-loop-step l = l.text.items ≡ flat_map step_text (take l.step-index l.steps)
