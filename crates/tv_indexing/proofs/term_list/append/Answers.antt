use Rattle.std.proofs.Common.{length, take, ap, ◌∙◌}
use Rattle.std.proofs.Math.Seq.{take-append_seam}
use Rattle.tv_indexing.proofs.term_list.append.Goals as goal

pub returns-in_err-push-clause-before : goal.returns-in_err-push-clause-before
returns-in_err-push-clause-before c =
    let old = c.args.bytes.now.items in
    ap (take (length old)) c.in_ok-extend_from_slice.ensures.items ∙ take-append_seam old c.args.term.now
