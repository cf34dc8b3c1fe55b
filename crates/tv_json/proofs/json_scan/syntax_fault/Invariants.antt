use Rattle.std.proofs.Common.{take}
use Rattle.tv_json.specs.Faults.{start, Leads}
use Rattle.tv_json.proofs.json_scan.syntax_fault.Given as goal

abbrev pub invariant-loop-offset : goal.invariant-loop-offset
invariant-loop-offset l = Leads start (take l.offset l.byte-items) l.scan
