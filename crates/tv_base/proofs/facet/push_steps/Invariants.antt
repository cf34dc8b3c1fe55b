use Rattle.std.proofs.Common.{◌≡◌, string_bytes}
use Rattle.tv_base.proofs.Steps.{joined}
use Rattle.tv_base.proofs.facet.push_steps.Given as goal

abbrev pub invariant-loop-step : goal.invariant-loop-step
invariant-loop-step l = string_bytes l.encoded ≡ joined (string_bytes l.initial.encoded) l.steps l.step-index
