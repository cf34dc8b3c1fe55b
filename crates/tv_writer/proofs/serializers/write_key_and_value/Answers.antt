use Rattle.std.proofs.Common.{option_map}
use Rattle.std.proofs.lemmas.Result.{err_from_is_err_and}
use Rattle.tv_base.proofs.Written.{Writes_then, Writes_prefix}
use Rattle.tv_format.specs.Short.{short}
use Rattle.tv_format.specs.WriteVersion.{written_version}
use Rattle.tv_writer.specs.Children.{short_key_of}
use Rattle.tv_writer.proofs.serializers.write_key_and_value.Goals as goal

pub returns-in_err-write_child_key : goal.returns-in_err-write_child_key
returns-in_err-write_child_key g c =
    let p = err_from_is_err_and c.from_residual.result c.from_residual.ensures.1 in
    let v = written_version c.args.version in
    rw (p.1, p.2) (Writes_prefix (short_key_of v (option_map (λ k. k.now) c.args.key)) (short v (g.V.Value.tree c.args.value.now)) c.in_err-write_child_key.ensures)

pub returns : goal.returns
returns g c =
    let v = written_version c.args.version in
    Writes_then (short_key_of v (option_map (λ k. k.now) c.args.key)) (short v (g.V.Value.tree c.args.value.now)) c.in_ok-write_child_key.ensures c.write_value.ensures
