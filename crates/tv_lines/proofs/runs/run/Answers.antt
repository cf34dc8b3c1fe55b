use Rattle.std.proofs.Common.{ap}
use Rattle.std.specs.Prelude.{Err}
use Rattle.tv_lines.specs.declared.errors.Halt.{Halt}
use Rattle.tv_lines.proofs.Halting.{has_reason}
use Rattle.tv_lines.proofs.runs.run.Goals as goal

pub returns-in-Ok-clause-reason : goal.returns-in-Ok-clause-reason
returns-in-Ok-clause-reason g c = has_reason _ _ _ c.in-Ok.end c.in-Ok.ensures.whole c.in-Ok.ensures.source.failures c.in-Ok.ensures.sink.failures

pub returns-in-Err-clause-reason : goal.returns-in-Err-clause-reason
returns-in-Err-clause-reason g c = record {
  halt = c.in-Err.field-0;
  source = c.in-Err.ensures.source.failures;
  sink = c.in-Err.ensures.sink.failures;
  too_long = λ known is. c.in-Err.ensures.too_long known (ap (λ (h : Halt). Err h) is);
}
