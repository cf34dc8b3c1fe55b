use Rattle.std.proofs.Common.{subst, ◌∙◌}
use Rattle.std.proofs.lemmas.Result.{err_from_is_err_and}
use Rattle.tv_base.specs.Take.{TakesBy}
use Rattle.tv_reader.specs.Leaves.{leaf_at}
use Rattle.tv_reader.specs.Version.{version_of}
use Rattle.tv_reader.proofs.AgreeLeaves.{leaf_agrees}
use Rattle.tv_format.specs.Tree.{leaf}
use Rattle.tv_typed.proofs.TypedSteps.{leaf_reads, leaf_mismatch, raised_spares, mismatch_spares}
use Rattle.tv_typed.proofs.DeserializeSteps.{reads_leaf}
use Rattle.tv_typed.proofs.de.BinaryValueDeserializer.leaf.Goals as goal

pub returns-in_err-expect : goal.returns-in_err-expect
returns-in_err-expect g c =
    let p = err_from_is_err_and c.from_residual.result c.from_residual.ensures.1 in
    let T = g.T.LeafValue in
    let e = c.in_err-expect.ensures in
    let err = rw c.requires at e.err in
    rw (p.1, p.2) (reads_leaf T.expected T.make g.met.T.LeafValue.typed.1 c.args.self.kind
    (leaf_mismatch _ _ _ _ _ c.args.self.kind T.expected (version_of c.args.self.reader.now.version) _ _ err e.source e.count e.version e.levels e.marks_failure)
    (λ spared. mismatch_spares (λ same. cc) e.err))

pub returns : goal.returns
returns g c =
    let T = g.T.LeafValue in
    let e = c.in_ok-expect.ensures in
    let v = version_of c.args.self.reader.now.version in
    let m = c.marked.ensures in
    let t = c.take-answer.ensures in
    let S = g.S.ByteSource in
    let part = subst (λ z. TakesBy S c.expect.new.self.source c.expect.new.self.count c.take-answer.new.reader.source c.take-answer.new.reader.count (λ x. leaf (T.make x)) c.take-answer.result (leaf_at (version_of z) T.expected)) e.version t.takes in
    reads_leaf T.expected T.make g.met.T.LeafValue.typed.1 c.args.self.kind
    (leaf_reads c.args.self.reader.now c.expect.new.self c.marked.new.self c.marked.result v c.args.self.kind T.expected T.make g.met.S.ByteSource.are_bytes (leaf_agrees v T.expected)
    (λ a x h. h) (λ w c f. f) g.met.T.LeafValue.typed.0 (e.ok.2 ∙ c.requires) e.ok.0 e.source e.count e.version e.levels part m.source m.count (m.version ∙ t.version) (m.levels ∙ t.levels) m.marks_failure m.told)
    (λ spared. raised_spares c.take-answer.result c.marked.result _ m.told (t.no_memory spared))
