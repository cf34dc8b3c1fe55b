use Rattle.std.proofs.Common.{◌∙◌}
use Rattle.tv_builder.proofs.Documents.{unchanged}
use Rattle.tv_builder.proofs.Kept.{same_fields}
use Rattle.tv_builder.proofs.heap_pairs.HeapPairs.try_clone.Goals as goal

pub invariant_of-result : goal.invariant_of-result
invariant_of-result c =
    let old = c.args.self.now in
    let heap = c.in_ok-heap.ensures in
    let pairs = c.in_ok-pairs.ensures.items ∙ c.as_slice.ensures.value in
    let f = same_fields old _ _ heap pairs in
    record { document = f.document; bytes = f.bytes; fits = f.fits }

pub returns : goal.returns
returns c =
    let old = c.args.self.now in
    unchanged old _ (c.in_ok-heap.ensures) (c.in_ok-pairs.ensures.items ∙ c.as_slice.ensures.value)
