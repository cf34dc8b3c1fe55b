use Rattle.std.proofs.Common.{arith}
use Rattle.std.proofs.lemmas.Result.{err_from_is_err_and}
use Rattle.tv_typed.specs.Depths.{AtValue}
use Rattle.tv_typed.specs.Values.{EncodesAs, NextRefused}
use Rattle.tv_typed.proofs.NextSteps.{item_given, item_refused}
use Rattle.tv_typed.proofs.array.BinaryArrayDeserializer.next_element.Goals as goal

pub returns-in_err-value-clause-reads : goal.returns-in_err-value-clause-reads
returns-in_err-value-clause-reads g c =
    let p = err_from_is_err_and c.from_residual-in_err-value.result c.from_residual-in_err-value.ensures.1 in
    let V = g.V.ValueDeserialize in
    let d = c.args.self.now in
    let r = c.in_err-value.ensures in
    rw (p.1, p.2) (item_refused (EncodesAs V.is) (NextRefused V.refused) (AtValue V.deep) (AtValue V.within) d.announced d.position (omega (arith, c)) r.deserializes r.deep r.marks_failure)

pub returns-clause-reads : goal.returns-clause-reads
returns-clause-reads g c =
    let V = g.V.ValueDeserialize in
    let d = c.args.self.now in
    let r = c.in_ok-value.ensures in
    item_given (EncodesAs V.is) (NextRefused V.refused) (AtValue V.deep) (AtValue V.within) d.announced d.position (omega (arith, c)) r.deserializes r.within r.marks_failure
