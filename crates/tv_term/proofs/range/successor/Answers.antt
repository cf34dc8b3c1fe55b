use Rattle.std.proofs.Common.{rules, arith}
use Rattle.tv_term.proofs.ByteRanges.{ends-none, ends-kept, dropped, all-dropped, last_left}
use Rattle.tv_term.proofs.range.successor.Goals as goal

pub returns-in_default : goal.returns-in_default
returns-in_default c =
    ends-none c.args.prefix.now (all-dropped c.len_without_largest.result c.args.prefix.now (grind arith) c.len_without_largest.ensures.largest)

pub overflow_add-last : goal.overflow_add-last
overflow_add-last c =
    let small = last_left c.args.prefix.now c.split_at.result.0.now c.split_at.result.1.now c.in-Some.front.now c.in-Some.last.now c.len_without_largest.result
    c.split_at.ensures.by_index.0 c.split_at.ensures.front_len (search rules) c.len_without_largest.ensures.last in
    omega arith

pub returns : goal.returns
returns c =
    let rest = dropped c.len_without_largest.result c.args.prefix.now c.len_without_largest.ensures.largest in
    ends-kept c.args.prefix.now c.split_at.result.0.now c.split_at.result.1.now c.in-Some.front.now c.in-Some.last.now c.push.new.self
    c.split_at.ensures.by_index.0 (search rules) (rw c.split_at.ensures.back rest) (grind arith)
