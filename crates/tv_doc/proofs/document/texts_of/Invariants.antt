use Rattle.std.proofs.Common.{◌++◌}
use Rattle.tv_doc.specs.Document.{document_of}
use Rattle.tv_doc.specs.SameTexts.{IsSameSet, field_texts, texts_seen}
use Rattle.tv_doc.specs.FieldValues.{pairs_left}
use Rattle.tv_doc.proofs.document.texts_of.Given as goal

-- the texts so far, and those of the values that are left, are all
abbrev pub invariant-loop-field : goal.invariant-loop-field
invariant-loop-field l = IsSameSet (texts_seen l.texts ++ field_texts (pairs_left l.field-iterator)) (field_texts (document_of l.fn.document))
