use Rattle.std.proofs.Common.{refl}
use Rattle.tv_blocks.proofs.Records.{record_added}
use Rattle.tv_blocks.proofs.buffer.append_record.Goals as goal

pub returns-clause-appended : goal.returns-clause-appended
returns-clause-appended c =
    record_added c.extend_from_slice-3.result c.args.number c.args.content.now.items c.extend_from_slice.new.self.items c.extend_from_slice-2.new.self.items c.extend_from_slice-3.new.self.items
    c.to_le_bytes.result c.to_le_bytes-2.result c.args.bytes.now c.args.bytes.now
    c.in_ok-extend_from_slice.ensures.items c.in_ok-extend_from_slice-2.ensures.items c.extend_from_slice-3.ensures.items c.to_le_bytes.ensures c.to_le_bytes-2.ensures refl
