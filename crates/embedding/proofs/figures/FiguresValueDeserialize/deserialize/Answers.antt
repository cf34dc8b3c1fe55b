use Rattle.std.proofs.Common.{refl}
use Rattle.std.proofs.lemmas.Result.{err_from_is_err_and}
use Rattle.tantivy_schema.specs.StoreVersion.{version_of}
use Rattle.tantivy_schema.specs.CodeTypes.DeserializeError.TheVariants as errors
use Rattle.embedding.specs.Figures.{IsFigures, IsNoFigures}
use Rattle.tantivy_schema.proofs.TreeTypeSteps.{tree_type_refuses, tree_type_fails}
use Rattle.embedding.proofs.figures.FiguresValueDeserialize.deserialize.Goals as goal

pub returns-in_err-value : goal.returns-in_err-value
returns-in_err-value g c =
    let p = err_from_is_err_and c.from_residual.result c.from_residual.ensures.1 in
    let d = c.args.deserializer in
    rw (p.1, p.2) (record { deserializes = tree_type_fails IsFigures IsNoFigures (version_of d.reader.now.version) d.kind c.in_err-value.ensures.reads; deep = λ o t is. tt; within = λ o t is. tt })

pub returns : goal.returns
returns g c =
    let d = c.args.deserializer in
    let message = c.in_ok-message-in-None.message in
    let none = rw c.in-None.is at c.in_ok-figures.ensures in
    rw c.custom.ensures
    (record {
      deserializes = tree_type_refuses IsFigures IsNoFigures (version_of d.reader.now.version) d.kind (errors.Custom message) refl (λ e. absurd cc) (record { none = none; message = message; told = refl }) c.in_ok-value.ensures.reads;
      deep = λ o t is. tt;
      within = λ o t is. tt;
    })
