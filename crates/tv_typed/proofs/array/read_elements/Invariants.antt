use Rattle.std.proofs.Common.{Ok}
use Rattle.tv_typed.specs.Depths.{AtEach, AtValue}
use Rattle.tv_typed.specs.Lists.{EncodesInto, IsListOf}
use Rattle.tv_typed.specs.Values.{EncodesAs}
use Rattle.tv_reader.specs.Version.{version_of}
use Rattle.tv_typed.specs.Typed.{Deserializes}
use Rattle.tv_typed.proofs.array.read_elements.Given as goal

-- the items so far are encoded by what was taken, and of each it is so what its type says of one that was read
abbrev pub invariant-loop : goal.invariant-loop
invariant-loop g l =
    let source = g.S.ByteSource in
    Deserializes source l.initial.reader l.reader (Ok l.items) (EncodesInto IsListOf (EncodesAs g.T.ValueDeserialize.is (version_of l.initial.reader.version)) l.counter) (λ w e. ⊥)
    × (source.is_known l.initial.reader.source → AtEach (AtValue g.T.ValueDeserialize.within (version_of l.initial.reader.version) l.initial.reader.levels) l.counter (source.left l.initial.reader.source) (source.left l.reader.source))
