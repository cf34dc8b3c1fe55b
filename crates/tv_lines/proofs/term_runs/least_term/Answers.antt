use Rattle.std.proofs.Common.{◌<◌, Some, length, take, arith}
use Rattle.std.specs.Option.{option_copied}
use Rattle.tv_lines.proofs.Merging.{least_skips, least_step, least_takes}
use Rattle.tv_lines.proofs.term_runs.least_term.Goals as goal
use Rattle.tv_lines.proofs.term_runs.least_term.Goals.{then-reader, else-reader}

pub loop-reader-preserved : goal.loop-reader-preserved
loop-reader-preserved g c =
    let l = c.loop-reader in
    let r = c.reader-item.result in
    let readers = c.args.readers.now in
    let within : l.reader-index < length readers = omega arith in
    let before = take l.reader-index readers in
    let least = option_copied l.least in
    elim c.if-reader.branch [
      | then-reader w ↦
          let lesser = rw w.as_slice.ensures.value at w.lesser.ensures.lesser in
          let at_most = rw w.as_slice.ensures.value at w.lesser.ensures.at_most in
          rw w.least-is (least_step readers l.reader-index r (Some w.lesser.result.now) within c.reader-item.is (least_takes before r least w.lesser.result.now w.if-reader.true lesser at_most l.invariant))
      | else-reader w ↦ rw w.least-is (least_step readers l.reader-index r least within c.reader-item.is (least_skips before r least w.if-reader.false l.invariant))
    ]
