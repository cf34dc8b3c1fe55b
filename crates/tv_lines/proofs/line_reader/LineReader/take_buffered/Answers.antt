use Rattle.std.proofs.Common.{◌++◌, arith, drop, sym, ap, ◌∙◌, append_assoc, length-take}
use Rattle.std.proofs.lemmas.List.{take-append-drop}
use Rattle.tv_lines.proofs.Cutting.{passes_to_feed, passes_all}
use Rattle.tv_lines.proofs.line_reader.LineReader.take_buffered.Goals.{in-Some, in-None}
use Rattle.tv_lines.proofs.line_reader.LineReader.take_buffered.Goals as goal

pub returns-clause-moves : goal.returns-clause-moves
returns-clause-moves g c = λ known.
    let most = c.min-most.result in
    let buffered = c.buffered-buffered.result.now in
    let starts = c.buffered-buffered.ensures known in
    let piece_first = starts.1 ∙ ap (λ l. l ++ starts.0) (sym (take-append-drop most buffered)) ∙ append_assoc _ (drop most buffered) starts.0 in
    let passes = rw c.if-not-pass.false at c.pass.ensures.bytes in
    elim c.match-feed.branch [
      | in-Some w ↦ rw (c.is_some.ensures, w.feed-is) (passes_to_feed _ _ _ _ (passes known).0 _ _ w.in-Some.len piece_first (passes known).1 ((passes known).2 ∙ w.taken-is) (rw w.in-Some.is at c.in_ok-feed.ensures))
      | in-None w ↦ rw (c.is_some.ensures, w.feed-is, w.in-None.is) (passes_all _ _ _ _ (passes known).0 _ _ piece_first (passes known).1 (omega (arith, (passes known).2, w.taken-is, length-take most buffered, c.min-most.ensures)) (rw w.in-None.is at c.in_ok-feed.ensures))
    ]
