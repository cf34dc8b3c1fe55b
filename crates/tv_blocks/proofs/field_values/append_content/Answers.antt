use Rattle.std.proofs.Common.{◌++◌, ap, ◌∙◌}
use Rattle.std.proofs.lemmas.Result.{on_ok_weaker}
use Rattle.tv_blocks.specs.Records.{numbered_record}
use Rattle.tv_blocks.proofs.field_values.append_content.Goals as goal

pub returns : goal.returns
returns c =
    on_ok_weaker c.append_numbered.result
    (λ added. added ∙ ap (λ n. c.args.values.now.items ++ numbered_record c.args.document n c.args.bytes.now) c.number.ensures)
    c.append_numbered.ensures.appended
