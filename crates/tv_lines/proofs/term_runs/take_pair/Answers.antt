use Rattle.std.proofs.lemmas.Result.{err_from_is_err_and}
use Rattle.tv_lines.proofs.RunPairs.{count_taken, length_fails, length_taken, term_fails, term_taken}
use Rattle.tv_lines.proofs.term_runs.take_pair.Goals as goal

pub returns-in_err-len : goal.returns-in_err-len
returns-in_err-len g c =
    let p = err_from_is_err_and c.from_residual.result c.from_residual.ensures.1 in
    record { takes = rw (p.1, p.2) (length_fails c.args.term.now.items _ c.in_err-len.ensures.takes) }

pub returns-in_err-take_pieces : goal.returns-in_err-take_pieces
returns-in_err-take_pieces g c =
    let p = err_from_is_err_and c.from_residual-in_err-take_pieces.result c.from_residual-in_err-take_pieces.ensures.1 in
    record { takes = rw (p.1, p.2) (term_fails c.in_ok-len.len _ c.take_pieces.new.bytes.items _ c.clear.ensures.items (length_taken c.in_ok-len.ensures.takes) c.in_err-take_pieces.ensures.takes) }

pub returns : goal.returns
returns g c =
    record { takes = count_taken c.take_pieces.new.bytes.items c.take_u64-2.result (term_taken c.in_ok-len.len c.clear.ensures.items (length_taken c.in_ok-len.ensures.takes) c.in_ok-take_pieces.ensures.takes) c.take_u64-2.ensures.takes }
