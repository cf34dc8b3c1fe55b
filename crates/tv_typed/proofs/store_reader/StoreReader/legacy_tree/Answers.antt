use Rattle.std.proofs.Common.{refl}
use Rattle.std.proofs.lemmas.Result.{err_from_is_err_and}
use Rattle.tv_reader.specs.Trees.{EncodesBehind, NoneBehind}
use Rattle.tv_reader.specs.Version.{version_of}
use Rattle.tv_reader.specs.declared.value_type.ValueType.TheVariants as types
use Rattle.tv_typed.proofs.TypedSteps.{reads_closed, told_reads}
use Rattle.tv_typed.proofs.store_reader.StoreReader.legacy_tree.Goals as goal

pub returns-in_err-go_on : goal.returns-in_err-go_on
returns-in_err-go_on g c =
    let p = err_from_is_err_and c.from_residual.result c.from_residual.ensures.1 in
    let e = c.in_err-go_on.ensures.err in
    record { reads = rw (p.1, p.2) (reads_closed _ _ _ _ _ _ _ _ e.0 e.1 refl refl refl refl e.1) }

pub returns : goal.returns
returns g c =
    let v = version_of c.args.self.now.version in
    record {
      reads = told_reads c.args.self.now _ c.take_legacy_object-answer.result (EncodesBehind v types.JSONObject) (NoneBehind v types.JSONObject) c.in_ok-go_on.ensures.ok (c.take_legacy_object-answer.ensures.finds v) refl refl refl refl c.is_err-self.ensures.value;
    }
