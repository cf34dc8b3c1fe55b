use Rattle.tv_typed.proofs.VisitSteps.{any_marked}
use Rattle.tv_typed.proofs.de.BinaryValueDeserializer.deserialize_any.Goals as goal

pub returns-clause-visits : goal.returns-clause-visits
returns-clause-visits g c = any_marked _ c.is_err-reader.ensures.value c.visit_kind-answer.ensures.visits
