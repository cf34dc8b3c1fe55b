use Rattle.std.proofs.lemmas.Result.{err_from_is_err_and}
use Rattle.tv_reader.specs.Version.{version_of}
use Rattle.tv_typed.specs.Lists.{ObjectRefused}
use Rattle.tv_typed.proofs.DeserializeSteps.{next_then, next_code_fails}
use Rattle.tv_typed.proofs.legacy_object.next_object.Goals as goal

pub returns-in_err-kind : goal.returns-in_err-kind
returns-in_err-kind g c =
    let p = err_from_is_err_and c.from_residual.result c.from_residual.ensures.1 in
    let T = g.T.ValueDeserialize in
    let C = g.C.Entries in
    rw (p.1, p.2) (next_code_fails C.is (ObjectRefused T.is T.refused) (version_of c.args.reader.now.version) c.in_err-kind.ensures.reads)

pub returns : goal.returns
returns g c =
    let T = g.T.ValueDeserialize in
    let C = g.C.Entries in
    next_then C.is (ObjectRefused T.is T.refused) c.in_ok-kind.ensures.reads c.read_coded.ensures.deserializes
