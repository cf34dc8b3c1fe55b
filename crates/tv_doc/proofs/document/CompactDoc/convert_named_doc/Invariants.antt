use Rattle.std.proofs.Common.{map}
use Rattle.tv_doc.specs.Additions.{IsEmpty}
use Rattle.tv_doc.specs.Named.{named_of}
use Rattle.tv_doc.specs.NamedPairs.{named_pairs}
use Rattle.tv_doc.specs.declared.document.CompactDoc.{CompactDoc}
use Rattle.tv_doc.proofs.ByName.{named_pair}
use Rattle.tv_doc.proofs.PairsSoFar.{PairsSoFar}
use Rattle.tv_doc.proofs.document.CompactDoc.convert_named_doc.Given as goal

abbrev pub invariant-loop-name : goal.invariant-loop-name
invariant-loop-name l =
    (start : CompactDoc) × IsEmpty start
    × PairsSoFar (named_pairs l.fn.schema (named_of l.fn.named)) (named_pairs l.fn.schema (map named_pair l.name-iterator)) start l.document
