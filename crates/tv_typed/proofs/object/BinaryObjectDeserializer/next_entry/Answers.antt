use Rattle.std.proofs.Common.{arith}
use Rattle.std.proofs.lemmas.Result.{err_from_is_err_and}
use Rattle.tv_typed.specs.Depths.{AtEntry}
use Rattle.tv_typed.specs.Lists.{EncodesEntry, EntryRefused}
use Rattle.tv_typed.proofs.NextSteps.{item_given, item_refused}
use Rattle.tv_typed.proofs.object.BinaryObjectDeserializer.next_entry.Goals as goal

pub returns-in_err-entry-clause-reads : goal.returns-in_err-entry-clause-reads
returns-in_err-entry-clause-reads g c =
    let p = err_from_is_err_and c.from_residual-in_err-entry.result c.from_residual-in_err-entry.ensures.1 in
    let V = g.V.ValueDeserialize in
    let d = c.args.self.now in
    let r = c.in_err-entry.ensures in
    rw (p.1, p.2) (item_refused (EncodesEntry V.is) (EntryRefused V.refused) (AtEntry V.deep) (AtEntry V.within) d.announced d.position (omega (arith, c)) r.deserializes r.deep r.marks_failure)

pub returns-clause-reads : goal.returns-clause-reads
returns-clause-reads g c =
    let V = g.V.ValueDeserialize in
    let d = c.args.self.now in
    let r = c.in_ok-entry.ensures in
    item_given (EncodesEntry V.is) (EntryRefused V.refused) (AtEntry V.deep) (AtEntry V.within) d.announced d.position (omega (arith, c)) r.deserializes r.within r.marks_failure
