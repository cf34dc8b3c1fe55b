use Rattle.std.proofs.Common.{◌<◌, ap, ◌∙◌, sym, arith, true, length, get_or, set}
use Rattle.std.proofs.lemmas.Grind.{get_or_default_zero}
use Rattle.std.proofs.lemmas.List.Edits.{map_over_more}
use Rattle.tv_base.specs.JsonPath.{expanded}
use Rattle.tv_indexing.proofs.term_buffer.part_dots.Goals as goal

pub loop-byte-preserved : goal.loop-byte-preserved
loop-byte-preserved c =
    let l = c.loop-byte in
    let inside : l.byte-index < length l.bytes = omega arith in
    ap (set l.bytes l.byte-index) c.part_dot.ensures
    ∙ map_over_more (expanded true) c.args.bytes.now l.bytes l.byte-index (get_or l.bytes l.byte-index 0) c.loop-byte-test.true l.invariant (sym (get_or_default_zero l.bytes l.byte-index (get_or l.bytes l.byte-index 0) inside))
