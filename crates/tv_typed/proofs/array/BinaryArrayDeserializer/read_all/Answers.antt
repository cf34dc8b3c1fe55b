use Rattle.tv_typed.proofs.DeserializeSteps.{goes_told}
use Rattle.tv_typed.proofs.array.BinaryArrayDeserializer.read_all.Goals as goal

pub returns : goal.returns
returns g c =
    let r = c.read_elements-answer.ensures in
    record {
      deserializes = goes_told c.is_err-reader.result c.is_err-reader.ensures.value (rw c.saturating_sub-rest.ensures at r.deserializes);
      marks_failure = c.is_err-reader.ensures.value;
      deep = λ o t is. rw c.saturating_sub-rest.ensures at r.deep o t is;
      within = λ o t is. rw c.saturating_sub-rest.ensures at r.within o t is;
    }
