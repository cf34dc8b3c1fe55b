use Rattle.tv_reader.proofs.BehindKinds.{is_leaf}
use Rattle.tv_typed.proofs.VisitSteps.{any_leaf, any_array, any_object, any_legacy}
use Rattle.tv_typed.proofs.store_reader.StoreReader.visit_kind.Goals as goal

pub returns-in-Array-clause-visits : goal.returns-in-Array-clause-visits
returns-in-Array-clause-visits g c = any_array c.in-Array.is c.visit_elements.ensures.visits

pub returns-in-Object-clause-visits : goal.returns-in-Object-clause-visits
returns-in-Object-clause-visits g c = any_object c.in-Object.is c.visit_entries.ensures.visits

pub returns-in-JSONObject-clause-visits : goal.returns-in-JSONObject-clause-visits
returns-in-JSONObject-clause-visits g c = any_legacy c.in-JSONObject.is c.visit_legacy.ensures.visits

pub returns-in_default-clause-visits : goal.returns-in_default-clause-visits
returns-in_default-clause-visits g c =
    any_leaf (g.V.ValueVisitor.tells_no_failure c.args.visitor.now) c.in_default.not-Array c.in_default.not-Object c.in_default.not-JSONObject c.visit_leaf.ensures.visits

pub visit_leaf-requires : goal.visit_leaf-requires
visit_leaf-requires g c = is_leaf c.args.kind c.in_default.not-Array c.in_default.not-Object c.in_default.not-JSONObject
