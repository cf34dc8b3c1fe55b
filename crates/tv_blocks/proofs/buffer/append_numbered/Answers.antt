use Rattle.std.proofs.Common.{◌++◌, append_assoc, ap, ◌∙◌}
use Rattle.std.proofs.lemmas.Result.{on_ok_weaker}
use Rattle.std.specs.Int.{to_le_bytes, w64}
use Rattle.tv_blocks.specs.Records.{record_of}
use Rattle.tv_blocks.proofs.buffer.append_numbered.Goals as goal

pub returns-clause-appended : goal.returns-clause-appended
returns-clause-appended c =
    let old = c.args.content.now.items in
    let stored = record_of c.args.number c.args.bytes.now in
    on_ok_weaker c.append_record.result
    (λ added. added ∙ ap (λ b. b ++ stored) c.in_ok-extend_from_slice.ensures.items
    ∙ ap (λ b. (old ++ b) ++ stored) c.to_le_bytes.ensures ∙ append_assoc old (to_le_bytes w64 c.args.document) stored)
    c.append_record.ensures.appended
