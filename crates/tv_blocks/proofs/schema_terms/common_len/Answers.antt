use Rattle.std.proofs.Common.{◌+◌, ap, arith, ◌∙◌}
use Rattle.tv_blocks.proofs.Prefixes.{common_len-end, common_len-word}
use Rattle.tv_blocks.proofs.schema_terms.common_len.Goals as goal

pub loop-len-preserved : goal.loop-len-preserved
loop-len-preserved c =
    let before = c.args.before.now in
    let term = c.args.term.now in
    let at = c.loop-len.len in
    let same = common_len-word before term at c.word_at.result c.word_at-in-loop-len.result c.type_inv.before c.type_inv.term
    (omega (arith, c.loop-len-test.true, c.min-both.ensures)) (omega (arith, c.loop-len-test.true, c.min-both.ensures)) c.word_at.ensures c.word_at-in-loop-len.ensures c.if-word_at.true in
    record {
      within = omega (arith, c.loop-len-test.true);
      so_far = c.loop-len.invariant.so_far ∙ ap (λ n. at + n) same ∙ omega arith;
    }

pub returns-after-loop-len-2-clause-len : goal.returns-after-loop-len-2-clause-len
returns-after-loop-len-2-clause-len c =
    let none = common_len-end c.args.before.now c.args.term.now c.loop-len-2.len (omega (arith, c.loop-len-2-test.false, c.min-both.ensures)) in
    omega (arith, c.loop-len-2.invariant.so_far, none)
