use Rattle.std.proofs.Common.{refl, sym, ◌∙◌}
use Rattle.std.proofs.lemmas.Result.{err_from_is_err_and}
use Rattle.tv_reader.specs.Trees.{EncodesBehind, NoneBehind}
use Rattle.tv_reader.specs.Version.{version_of}
use Rattle.tv_typed.proofs.TypedSteps.{reads_closed, tree_reads}
use Rattle.tv_typed.proofs.DepthSteps.{reads_tree}
use Rattle.tv_typed.proofs.de.BinaryValueDeserializer.deserialize_tree.Goals as goal

pub returns-in_err-go_on : goal.returns-in_err-go_on
returns-in_err-go_on g c =
    let p = err_from_is_err_and c.from_residual.result c.from_residual.ensures.1 in
    let e = c.in_err-go_on.ensures.err in
    rw (p.1, p.2) (reads_tree c.args.self.kind (reads_closed _ _ _ _ _ _ _ _ e.0 e.1 refl refl refl refl e.1) (λ o t. tt) (λ o t is. let both = sym o ∙ e.1 in absurd cc))

pub returns : goal.returns
returns g c =
    let t = c.take_behind-answer.ensures in
    let v = version_of c.args.self.reader.now.version in
    reads_tree c.args.self.kind
    (tree_reads c.args.self.reader.now _ c.take_behind-answer.result (EncodesBehind v c.args.self.kind) (NoneBehind v c.args.self.kind) c.in_ok-go_on.ensures.ok t.finds refl refl c.is_err-reader.ensures.value)
    (λ o told. t.within told) (λ o told is. t.deep told is)
