use Rattle.std.proofs.Common.{ap, length, arith}
use Rattle.tv_builder.proofs.Documents.{document_length, unchanged}
use Rattle.tv_builder.proofs.Kept.{same_fields}
use Rattle.tv_builder.proofs.heap_pairs.HeapPairs.shrink_to_fit.Goals as goal

pub invariant_of-self : goal.invariant_of-self
invariant_of-self c =
    let old = c.args.self.now in
    let heap = c.shrink_to_fit.ensures.items in
    let pairs = c.shrink_to_fit-2.ensures.items in
    let f = same_fields old _ _ heap pairs in
    record { document = f.document; bytes = f.bytes; fits = f.fits }

pub returns-clause-unchanged : goal.returns-clause-unchanged
returns-clause-unchanged c = unchanged c.args.self.now _ c.shrink_to_fit.ensures.items c.shrink_to_fit-2.ensures.items

pub returns-clause-frees_bytes : goal.returns-clause-frees_bytes
returns-clause-frees_bytes c = λ e. c.shrink_to_fit.ensures.frees e

pub returns-clause-frees_places : goal.returns-clause-frees_places
returns-clause-frees_places c = λ e.
    let d = c.args.self.now in
    c.shrink_to_fit-2.ensures.frees (omega (arith, d.pairs.ok.0, document_length d, ap length e))
