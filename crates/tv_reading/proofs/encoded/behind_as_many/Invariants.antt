use Rattle.tv_format.specs.WriteVersion.{written_version}
use Rattle.tv_reading.specs.Skip.{BeginsItems}
use Rattle.tv_reading.proofs.encoded.behind_as_many.Given as goal

abbrev pub invariant-loop-count : goal.invariant-loop-count
invariant-loop-count l = BeginsItems (written_version l.version) l.kind l.count l.bytes l.rest
