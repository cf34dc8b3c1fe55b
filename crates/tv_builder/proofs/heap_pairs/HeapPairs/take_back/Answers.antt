use Rattle.tv_builder.proofs.EncodedPairs.{back_fields, back_unchanged}
use Rattle.tv_builder.proofs.heap_pairs.HeapPairs.take_back.Goals as goal

pub invariant_of-self : goal.invariant_of-self
invariant_of-self c =
    let f = back_fields c.requires.0 c.args.self.now c.args.pairs c.args.heap _ _ c.requires.1 c.truncate-2.ensures.items c.truncate.ensures.items in
    record { document = f.document; bytes = f.bytes; fits = f.fits }

pub returns : goal.returns
returns c = λ old s. back_unchanged old c.args.self.now _ c.args.pairs c.args.heap s c.truncate-2.ensures.items c.truncate.ensures.items
