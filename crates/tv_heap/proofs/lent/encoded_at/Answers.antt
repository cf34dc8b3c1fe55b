use Rattle.std.proofs.Common.{ap, sym, ◌∙◌}
use Rattle.tv_format.specs.Leaves.{content, form}
use Rattle.tv_format.specs.LeavesLaws.{form_of_content}
use Rattle.tv_heap.proofs.InPlace.{leaf_short, signed_bytes, text_bytes}
use Rattle.tv_heap.proofs.lent.encoded_at.Goals as goal

pub returns-in-Signed-clause-bytes : goal.returns-in-Signed-clause-bytes
returns-in-Signed-clause-bytes c = λ v l same stands.
    let formed = form_of_content l ∙ ap form same ∙ sym c.form.ensures ∙ c.in-Signed.is in
    leaf_short c.args.leaf_type l c.store_code-code.result _ same c.store_code-code.ensures (signed_bytes c.args.heap.now c.args.address c.eight_at-in-Signed.result c.eight_at-in-Signed.ensures (content l) formed stands)

pub returns-in-Text-clause-bytes : goal.returns-in-Text-clause-bytes
returns-in-Text-clause-bytes c = λ v l same stands.
    let formed = form_of_content l ∙ ap form same ∙ sym c.form.ensures ∙ c.in-Text.is in
    leaf_short c.args.leaf_type l c.store_code-code.result _ same c.store_code-code.ensures (text_bytes c.args.heap.now c.args.address c.sized_encoding_at.result.now c.sized_encoding_at.ensures (content l) formed stands)
