use Rattle.tv_typed.specs.Lists.{ArrayOf, element_total}
use Rattle.tv_typed.specs.Values.{EncodesAs, EncodedAs, NextRefused}
use Rattle.tv_typed.proofs.DepthSteps.{deep_behind}
use Rattle.tv_typed.specs.Depths.{AmongRead, AtEach, AtValue}
use Rattle.std.proofs.Common.{refl}
use Rattle.tv_typed.proofs.ItemSteps.{array_then, collection_fails}
use Rattle.std.proofs.lemmas.Result.{err_from_is_err_and}
use Rattle.tv_reader.specs.Version.{version_of}
use Rattle.tv_reader.specs.declared.value_type.ValueType.TheVariants as types
use Rattle.tv_reader.proofs.DepthSteps.{err_of}
use Rattle.tv_typed.proofs.DeserializeSteps.{goes_told, reads_calm}
use Rattle.tv_typed.proofs.collections.VecValueDeserialize.deserialize.Goals as goal

pub returns-in_err-announced : goal.returns-in_err-announced
returns-in_err-announced g c =
    let p = err_from_is_err_and c.from_residual.result c.from_residual.ensures.1 in
    let T = g.T.ValueDeserialize in
    let d = c.args.deserializer in
    let v = version_of d.reader.now.version in
    let r = c.in_err-announced.ensures.reads in
    rw (p.1, p.2) (record {
      deserializes = collection_fails types.Array element_total d.kind (EncodesAs T.is v) (NextRefused T.refused v) (EncodedAs (λ t list. ArrayOf T.is t list.items) v d.kind) r;
      marks_failure = r.marks_failure;
      deep = λ o t is. absurd (reads_calm _ refl r (err_of _ _ is));
      within = λ o t is. absurd cc;
    })

pub returns : goal.returns
returns g c =
    let T = g.T.ValueDeserialize in
    let n = c.in_ok-announced.announced in
    let p = c.in_ok-announced.ensures.reads in
    let r = c.read_elements-answer.ensures in
    let deep = deep_behind _ (λ v l old new. AmongRead (EncodesAs T.is v) (AtValue T.deep v l) n old new) p (λ o t is. r.deep o t is) in
    let within = deep_behind _ (λ v l old new. AtEach (AtValue T.within v l) n old new) p (λ o t is. r.within o t is) in
    record {
      deserializes = goes_told c.is_err-reader.result c.is_err-reader.ensures.value (array_then T.is T.refused c.args.deserializer.kind p r.deserializes);
      marks_failure = c.is_err-reader.ensures.value;
      deep = λ o t is. let x = deep o t is in (n, _, x.0, x.1);
      within = λ o t is. let x = within o t is in (n, _, x.0, x.1);
    }
