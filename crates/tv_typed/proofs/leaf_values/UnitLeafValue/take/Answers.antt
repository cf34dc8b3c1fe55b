use Rattle.std.proofs.Common.{refl}
use Rattle.tv_base.specs.Take.{read_stop}
use Rattle.tv_base.proofs.TakeSteps.{SoFar-start, SoFar-returns}
use Rattle.tv_reader.specs.Leaves.{leaf_at}
use Rattle.tv_reader.specs.Version.{version_of}
use Rattle.tv_reader.specs.declared.value_type.ValueType.TheVariants as types
use Rattle.tv_typed.proofs.leaf_values.UnitLeafValue.take.Goals as goal

pub returns-clause-takes : goal.returns-clause-takes
unfolding leaf_at
returns-clause-takes g c =
    let read = leaf_at (version_of c.args._reader.now.version) types.Null in
    SoFar-returns read_stop _ _ (λ _. refl) (SoFar-start _ _ _ _ _ read read (λ _. refl))
