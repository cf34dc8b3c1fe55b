use Rattle.std.proofs.Common.{◌-◌, drop, arith}
use Rattle.std.proofs.lemmas.List.{length-take}
use Rattle.tv_lines.proofs.Cutting.{moves_to_feed, moves_all, nothing_left}
use Rattle.tv_lines.proofs.line_reader.LineReader.take_unread.Goals as goal

pub returns-in-Some-clause-moves : goal.returns-in-Some-clause-moves
returns-in-Some-clause-moves c =
    let r = c.args.self.now in
    moves_to_feed r.piece.items c.args.line.now.items _ r.from r.to c.in-Some.len (omega (arith, length-take (r.to - r.from) (drop r.from r.piece.items)))
    (rw (c.in-Some.is, c.unread.ensures) at c.in_ok-len.ensures)

pub returns-in-None-clause-moves : goal.returns-in-None-clause-moves
returns-in-None-clause-moves c =
    let r = c.args.self.now in
    moves_all r.piece.items c.args.line.now.items _ r.from r.to (rw (c.in-None.is, c.unread.ensures) at c.in_ok-len.ensures)

pub returns-in-None-clause-none : goal.returns-in-None-clause-none
returns-in-None-clause-none c = λ e. nothing_left c.args.self.now.piece.items c.args.self.now.to
