use Rattle.std.proofs.Common.{◌≡◌}
use Rattle.tv_builder.specs.HeldPairs.{document_of}
use Rattle.tv_typed.specs.Documents.{GivesAll}
use Rattle.tv_store.proofs.pairs_given.CompactDocDocumentDeserialize.deserialize.Given as goal

-- the pairs so far were given, and nothing was refused that wasn't before
abbrev pub invariant-loop-bytes : goal.invariant-loop-bytes
invariant-loop-bytes g l =
    let D = g.D.DocumentDeserializer in
    let first = l.initial.deserializer in
    let last = l.deserializer in
    (D.is_known first → D.is_known last × GivesAll D.gives first (document_of l.pairs) last) × (D.has_failed last ≡ D.has_failed first) × (D.failures last ≡ D.failures first) × (D.borrow_name last ≡ D.borrow_name first)

abbrev pub decreases-loop-bytes : goal.decreases-loop-bytes
decreases-loop-bytes g l = g.D.DocumentDeserializer.remaining l.deserializer
