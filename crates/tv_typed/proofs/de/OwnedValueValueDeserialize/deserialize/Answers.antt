use Rattle.tv_reader.specs.Version.{version_of}
use Rattle.tv_typed.proofs.DeserializeSteps.{tree_deserializes}
use Rattle.tv_typed.proofs.DepthSteps.{nests_read}
use Rattle.tv_typed.proofs.de.OwnedValueValueDeserialize.deserialize.Goals as goal

pub returns-clause-value : goal.returns-clause-value
returns-clause-value g c =
    let d = c.args.deserializer in
    let r = c.deserialize_tree.ensures in
    record { deserializes = tree_deserializes (version_of d.reader.now.version) d.kind r.reads; deep = r.deep; within = λ o t is. nests_read c.deserialize_tree.result _ _ d.kind _ _ (r.within o t) is }
