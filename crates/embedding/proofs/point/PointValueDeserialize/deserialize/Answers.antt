use Rattle.std.proofs.Common.{◌∙◌}
use Rattle.std.specs.BTreeMap.{get_by_text}
use Rattle.tantivy_schema.specs.StoreVersion.{version_of}
use Rattle.tantivy_schema.specs.Values.{EncodedAs}
use Rattle.tantivy_schema.proofs.DeserializeSteps.{goes_as}
use Rattle.embedding.specs.Point.{IsPoint, PointRefused}
use Rattle.embedding.proofs.point.PointValueDeserialize.deserialize.Goals as goal

pub returns : goal.returns
returns g c =
    let v = version_of c.args.deserializer.reader.now.version in
    let kind = c.args.deserializer.kind in
    let numbers = c.in_ok-numbers.numbers in
    record {
      deserializes = goes_as _ (EncodedAs IsPoint v kind) (PointRefused v kind)
          (λ a s. (s.0, s.1, record { last = λ key. get_by_text numbers key; numbers = s.2; x = c.copied-x.ensures ∙ c.get.ensures.value; y = c.copied-y.ensures ∙ c.get-2.ensures.value }))
          c.in_ok-numbers.ensures.deserializes;
      deep = λ o t is. tt;
      within = λ o t is. tt;
    }
