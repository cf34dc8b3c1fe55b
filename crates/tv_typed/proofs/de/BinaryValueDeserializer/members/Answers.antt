use Rattle.tv_typed.proofs.DeserializeSteps.{goes_told}
use Rattle.tv_typed.proofs.de.BinaryValueDeserializer.members.Goals as goal

pub returns : goal.returns
returns g c =
    let r = c.read_object-answer.ensures in
    record { deserializes = goes_told c.is_err-reader.result c.is_err-reader.ensures.value r.deserializes; marks_failure = c.is_err-reader.ensures.value; deep = r.deep; within = r.within }
