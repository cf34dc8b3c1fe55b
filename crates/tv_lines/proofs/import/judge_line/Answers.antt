use Rattle.std.proofs.Common.{sym}
use Rattle.tv_lines.proofs.Lines.{refuses_fault}
use Rattle.tv_lines.proofs.import.judge_line.Goals as goal

pub returns-in_ok-unsearchable-in-Some-2 : goal.returns-in_ok-unsearchable-in-Some-2
returns-in_ok-unsearchable-in-Some-2 c =
    let parsed = rw c.in_default.is at c.in_ok-error.ensures.parsed in
    let fault = rw c.in-Some-2.is at c.in_ok-fault-in-Refuse.ensures in
    refuses_fault c.args.schema.now c.args.rules c.args.line.now c.parse_line.new.document c.in-Some-2.fault c.in_ok-unsearchable-in-Some-2.field-0 parsed.0 (rw c.in-Refuse.is (sym fault))
    c.in_ok-unsearchable-in-Some-2.ensures
