use Rattle.std.proofs.Common.{ap, ◌∙◌, sym}
use Rattle.serde_json.specs.Read.{read}
use Rattle.serde_json.specs.View.{view}
use Rattle.tv_lines.proofs.Refused.{no_text, not_read, not_kept, not_described}
use Rattle.tv_lines.proofs.runs.schema_of_line.Goals as goal

pub returns-in_default-clause-err : goal.returns-in_default-clause-err
returns-in_default-clause-err c = no_text c.args.line.now c.in_default.ensures.cases.0

pub returns-in-Ok-from_str-clause-err : goal.returns-in-Ok-from_str-clause-err
returns-in-Ok-from_str-clause-err c =
    let text = c.in-Ok.ensures.cases in
    not_described c.args.line.now (view c.in-Ok-from_str.value) c.in-Err-from_json_value.error _
    (text.1, ap read (sym text.0) ∙ c.in-Ok-from_str.ensures.ok) c.in-Err-from_json_value.ensures.err c.error_line.ensures

pub returns-then-is_memory-clause-err : goal.returns-then-is_memory-clause-err
returns-then-is_memory-clause-err c = not_kept c.args.line.now

pub returns-clause-err : goal.returns-clause-err
returns-clause-err c =
    let text = c.in-Ok.ensures.cases in
    not_read c.args.line.now (ap read (sym text.0) ∙ c.in-Err.ensures.err (λ memory. let told = rw c.if-is_memory.false at c.is_memory.ensures.1 memory in absurd cc))
