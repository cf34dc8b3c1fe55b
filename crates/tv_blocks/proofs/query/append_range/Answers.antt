use Rattle.std.proofs.Common.{ap, ◌∙◌}
use Rattle.std.specs.Int.{to_le_bytes, w64}
use Rattle.tv_blocks.proofs.Queries.{range_added}
use Rattle.tv_blocks.proofs.query.append_range.Goals as goal

pub returns : goal.returns
returns c =
    range_added c.extend_from_slice-4.result c.args.content.now.items c.extend_from_slice.new.self.items c.extend_from_slice-2.new.self.items c.extend_from_slice-3.new.self.items c.extend_from_slice-4.new.self.items
    c.to_le_bytes.result c.to_le_bytes-2.result c.start-start.result.now c.parts_of_end-end_len.result.1.now c.args.range.now
    c.in_ok-extend_from_slice.ensures.items c.in_ok-extend_from_slice-2.ensures.items c.in_ok-extend_from_slice-3.ensures.items c.extend_from_slice-4.ensures.items
    c.to_le_bytes.ensures (c.to_le_bytes-2.ensures ∙ ap (λ n. to_le_bytes w64 n) c.parts_of_end-end_len.ensures.length) c.start-start.ensures c.parts_of_end-end_len.ensures.bytes
