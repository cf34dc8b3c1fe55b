use Rattle.std.proofs.Common.{◌≡◌, ◌<◌, length, take, get_or, sym, ap, ◌∙◌, arith}
use Rattle.tv_json.specs.Faults.{start, Leads, no_bytes}
use Rattle.tv_json.proofs.Faults.{Leads-more, fault_at, fault_at_end}
use Rattle.tv_json.proofs.json_scan.syntax_fault.Goals as goal

pub loop-offset-init : goal.loop-offset-init
loop-offset-init c = rw c.new-scan.ensures no_bytes

pub loop-offset-preserved : goal.loop-offset-preserved
loop-offset-preserved c =
    Leads-more c.as_bytes-byte-items.result.now c.loop-offset.offset c.loop-offset.scan c.pass.new.self c.loop-offset-test.true c.loop-offset.invariant
    c.in_default.ensures
