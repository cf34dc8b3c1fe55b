use Rattle.tv_format.specs.WriteVersion.{written_version}
use Rattle.tv_reading.specs.ChosenBuffered.{AddsChosenPairs}
use Rattle.tv_reading.proofs.buffered.add_chosen.Given as goal

abbrev pub invariant-loop-count : goal.invariant-loop-count
invariant-loop-count l = AddsChosenPairs (written_version l.version) l.wanted.fields.now l.fn.document l.document l.fn.bytes l.rest l.count
