use Rattle.tv_format.specs.WriteVersion.{written_version}
use Rattle.tv_builder.specs.EncodedPairs.{AddsEncoded}
use Rattle.tv_builder.proofs.heap_pairs.HeapPairs.add_encoded.Given as goal

abbrev pub invariant-loop-count : goal.invariant-loop-count
invariant-loop-count l = AddsEncoded (written_version l.version) l.fn.self l.self l.fn.bytes l.rest l.count
