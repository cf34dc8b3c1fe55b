use Rattle.std.proofs.Common.{◌≡◌, ℕ, ◌<◌, length, sym, subst, arith, below_more}
use Rattle.tv_json.specs.Faults.{IsSyntax, no_bytes}
use Rattle.tv_json.specs.LargeNumber.{IsFirstLargeNumber, NoLargeNumber}
use Rattle.tv_json.proofs.FaultLaws.{no_syntax}
use Rattle.tv_json.proofs.Faults.{Leads-more}
use Rattle.tv_json.proofs.LargeNumbers.{no_value, not_large, is_first}
use Rattle.tv_json.proofs.large_number.large_number.Goals as goal
use Rattle.tv_json.proofs.large_number.large_number.Goals.{else-value_comes-via-then-value_comes+else-begins_large, else-value_comes-via-else-value_comes}

pub loop-offset-init : goal.loop-offset-init
loop-offset-init c = record { passed = rw c.new-scan.ensures no_bytes; none = λ k h. absurd (omega arith) }

pub returns-then-begins_large : goal.returns-then-begins_large
returns-then-begins_large c =
    let l = c.loop-offset in
    let first = is_first c.as_bytes-bytes.result.now l.offset l.scan l.invariant.passed c.if-value_comes.ensures c.if-begins_large.ensures l.invariant.none in
    subst (λ text. IsFirstLargeNumber text l.offset) c.as_bytes-bytes.ensures.value first

pub loop-offset-preserved : goal.loop-offset-preserved
loop-offset-preserved c =
    let bytes = c.as_bytes-bytes.result.now in
    let l = c.loop-offset in
    record {
      passed = Leads-more bytes l.offset l.scan c.pass.new.self c.loop-offset-test.true l.invariant.passed c.in-Ok.ensures;
      none = below_more _ _ l.invariant.none
          (elim c.else-value_comes.branch [
            | else-value_comes-via-then-value_comes+else-begins_large w ↦ not_large bytes l.offset w.if-begins_large.ensures
            | else-value_comes-via-else-value_comes w ↦ no_value bytes l.offset l.scan l.invariant.passed w.if-value_comes.ensures
          ]);
    }

pub returns-in_default : goal.returns-in_default
returns-in_default c =
    let l = c.loop-offset in
    let bytes = c.as_bytes-bytes.result.now in
    λ syntax. absurd (no_syntax bytes l.offset l.scan c.in_default.field-0 c.loop-offset-test.true l.invariant.passed c.in_default.ensures
    (subst (λ t. IsSyntax t) (sym c.as_bytes-bytes.ensures.value) syntax))

pub returns : goal.returns
returns c =
    let l = c.loop-offset in
    let none : NoLargeNumber c.as_bytes-bytes.result.now = λ k h. l.invariant.none k (omega arith) in
    λ syntax. subst (λ t. NoLargeNumber t) c.as_bytes-bytes.ensures.value none
