use Rattle.tv_base.proofs.ByGrammar.{by_grammar_lean}
use Rattle.tv_base.proofs.AgreeWidths.{u32_agrees}
use Rattle.tv_base.proofs.serializable.U32BinarySerializable.deserialize.Goals as goal

pub returns : goal.returns
returns g c =
    let source = g.S.ByteSource in
    record { reads = by_grammar_lean source g.met.S.ByteSource.are_bytes _ _ _ _ _ u32_agrees c.take_u32.ensures.takes }
