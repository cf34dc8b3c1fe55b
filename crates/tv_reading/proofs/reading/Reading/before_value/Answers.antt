use Rattle.std.proofs.Common.{◌≡◌, ◌+◌, length, ap, sym, subst, ◌∙◌, arith}
use Rattle.tv_builder.specs.Behind.{open_parts}
use Rattle.tv_builder.specs.HeldPairs.{document_of}
use Rattle.tv_builder.proofs.Documents.{document_length}
use Rattle.tv_reading.specs.Prefix.{IsBetweenParts}
use Rattle.tv_reading.proofs.reading.Reading.before_value.Goals as goal

pub returns-clause-parts : goal.returns-clause-parts
returns-clause-parts c =
    let d = c.args.document in
    let counted : c.len-finished.result ≡ length (document_of d) = omega (arith, c.len-finished.ensures, d.pairs.ok.0, document_length d) in
    λ i. open_parts (counted i + 1) (c.new.ensures.document i) c.args.field (c.new.ensures.state i)

pub returns-clause-sound : goal.returns-clause-sound
returns-clause-sound c =
    let d = c.args.document in
    let counted : c.len-finished.result ≡ length (document_of d) = omega (arith, c.len-finished.ensures, d.pairs.ok.0, document_length d) in
    let same = ap length c.new.ensures.document in
    record { not_failed = c.new.ensures.not_failed; counted = counted ∙ sym same; place = (omega (arith, counted, same), subst IsBetweenParts (sym c.new.ensures.state) tt) }

pub returns-clause-at_most : goal.returns-clause-at_most
returns-clause-at_most c =
    let d = c.args.document in
    omega (arith, c.len-finished.ensures, d.pairs.ok.0, document_length d)
