use Rattle.tv_base.proofs.ByGrammar.{by_grammar}
use Rattle.tv_base.proofs.AgreeParts.{text_agrees}
use Rattle.tv_base.proofs.serializable.FacetBinarySerializable.deserialize.Goals as goal

pub returns : goal.returns
returns g c =
    let source = g.S.ByteSource in
    by_grammar source g.met.S.ByteSource.are_bytes _ _ _ _ _ text_agrees c.take_facet.ensures.takes
