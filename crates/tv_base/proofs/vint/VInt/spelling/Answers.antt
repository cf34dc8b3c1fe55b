use Rattle.std.proofs.Common.{rules, arith}
use Rattle.tv_base.proofs.ShortGroups.{start, ends, ends_tenth, goes_on, stays_small, last_fits}
use Rattle.tv_base.proofs.vint.VInt.spelling.Goals as goal

pub loop-i-init : goal.loop-i-init
loop-i-init c = record { so_far = start c.args.self.0; room = search rules; small = omega arith }

pub returns-then-rest-lt128-clause-bytes : goal.returns-then-rest-lt128-clause-bytes
returns-then-rest-lt128-clause-bytes c =
    let l = c.loop-i in
    ends l.bytes _ l.i l.rest (omega arith) (omega arith) c.if-rest-lt128.true l.invariant.so_far

pub loop-i-preserved : goal.loop-i-preserved
loop-i-preserved c =
    let l = c.loop-i in
    record {
      so_far = goes_on l.bytes _ l.i l.rest (omega arith) c.loop-i-test.true c.if-rest-lt128.false l.invariant.so_far;
      room = search rules;
      small = stays_small _ l.rest l.i l.invariant.small;
    }

pub returns-clause-bytes : goal.returns-clause-bytes
returns-clause-bytes c =
    let l = c.loop-i in
    ends_tenth l.bytes _ l.i l.rest (omega arith) l.invariant.room (last_fits c.args.self.0 l.rest l.i (omega arith) l.invariant.small (omega arith)) l.invariant.so_far
