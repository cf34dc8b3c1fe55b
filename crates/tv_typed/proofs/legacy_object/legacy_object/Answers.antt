use Rattle.std.proofs.lemmas.Result.{err_from_is_err_and}
use Rattle.tv_reader.specs.Version.{version_of}
use Rattle.tv_typed.specs.Lists.{ObjectRefused}
use Rattle.tv_typed.proofs.LegacySteps.{legacy_then, legacy_fails, legacy_short}
use Rattle.tv_typed.proofs.legacy_object.legacy_object.Goals as goal

pub returns-in_err-tree : goal.returns-in_err-tree
returns-in_err-tree g c =
    let p = err_from_is_err_and c.from_residual.result c.from_residual.ensures.1 in
    let T = g.T.ValueDeserialize in
    let C = g.C.Entries in
    rw (p.1, p.2) (legacy_fails C.is (ObjectRefused T.is T.refused) (version_of c.args.reader.now.version) c.in_err-tree.ensures.reads)

pub returns-in_err-bytes : goal.returns-in_err-bytes
returns-in_err-bytes g c =
    let p = err_from_is_err_and c.from_residual-in_err-bytes.result c.from_residual-in_err-bytes.ensures.1 in
    let T = g.T.ValueDeserialize in
    let C = g.C.Entries in
    rw (p.1, p.2) (legacy_short C.is (ObjectRefused T.is T.refused) (version_of c.args.reader.now.version) c.in_ok-tree.ensures.reads)

pub returns : goal.returns
returns g c =
    let T = g.T.ValueDeserialize in
    let C = g.C.Entries in
    legacy_then C.is (ObjectRefused T.is T.refused) (version_of c.args.reader.now.version) c.in_ok-tree.ensures.reads c.in_ok-bytes.ensures.ok c.in_ok-bytes.ensures.valid c.of_encoding.ensures
