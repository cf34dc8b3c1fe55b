use Rattle.std.proofs.Common.{length, ap, sym, ◌∙◌, arith}
use Rattle.std.proofs.lemmas.Bool.{eqb-true, eq-eqb}
use Rattle.tv_builder.proofs.Documents.{document_length, no_pairs}
use Rattle.tv_doc.proofs.document.CompactDoc.is_empty.Goals as goal

pub returns : goal.returns
returns c =
    let d = c.args.self.now.values in
    let len = d.pairs.ok.0 in (
      λ h. no_pairs d (sym len ∙ eqb-true d.pairs.len 0 (sym c.is_empty.ensures ∙ h)),
      λ e. c.is_empty.ensures ∙ eq-eqb d.pairs.len 0 (omega (arith, len, document_length d, ap length e)),
    )
