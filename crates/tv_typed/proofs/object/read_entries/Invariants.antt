use Rattle.std.proofs.Common.{Ok}
use Rattle.tv_typed.specs.Depths.{AtEach, AtEntry}
use Rattle.tv_typed.specs.Lists.{EncodesInto, EncodesEntry}
use Rattle.tv_reader.specs.Version.{version_of}
use Rattle.tv_typed.specs.Typed.{Deserializes}
use Rattle.tv_typed.proofs.object.read_entries.Given as goal

-- the entries so far are encoded by what was taken, and of each value it is so what its type says of one that was read
abbrev pub invariant-loop : goal.invariant-loop
invariant-loop g l =
    let source = g.S.ByteSource in
    Deserializes source l.initial.reader l.reader (Ok l.entries) (EncodesInto g.C.Entries.made (EncodesEntry g.T.ValueDeserialize.is (version_of l.initial.reader.version)) l.counter) (λ w e. ⊥)
    × (source.is_known l.initial.reader.source → AtEach (AtEntry g.T.ValueDeserialize.within (version_of l.initial.reader.version) l.initial.reader.levels) l.counter (source.left l.initial.reader.source) (source.left l.reader.source))
