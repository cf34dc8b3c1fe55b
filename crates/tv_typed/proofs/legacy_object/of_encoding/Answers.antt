use Rattle.std.proofs.Common.{ap, ◌∙◌, arith, length}
use Rattle.tv_typed.specs.Lists.{ObjectRefused}
use Rattle.tv_typed.specs.Values.{EncodesAs, NextRefused}
use Rattle.tv_typed.proofs.LegacySteps.{encoding_refused, few_taken}
use Rattle.tv_typed.proofs.legacy_object.of_encoding.Goals as goal

pub returns-in-Err : goal.returns-in-Err
returns-in-Err g c =
    let T = g.T.ValueDeserialize in
    let C = g.C.Entries in
    let fresh = c.new-reader.ensures.fresh in
    let same = ap (λ s. s.rest.now) c.new-reader.ensures.source ∙ c.new.ensures ∙ c.deref.ensures.value in
    let content = c.args.bytes.now in
    let sizes = ap length same in
    let few = few_taken _ _ _ _ (c.in-Err.ensures.taken fresh tt) c.new-reader.ensures.count (omega (arith, sizes, content.ok.0, content.ok.1, content.small)) in
    encoding_refused (EncodesAs C.is) (NextRefused (ObjectRefused T.is T.refused)) c.new-reader.result.version c.in-Err.error c.retold.result content.items _ _ _ c.new-reader.ensures.version same c.retold.ensures few (c.in-Err.ensures.counts fresh) (c.in-Err.ensures.found fresh tt)
