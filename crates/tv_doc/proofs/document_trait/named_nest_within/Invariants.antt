use Rattle.std.proofs.Common.{◌↔◌}
use Rattle.tv_doc.specs.Named.{NamedNestWithin}
use Rattle.tv_doc.proofs.document_trait.named_nest_within.Given as goal

-- the pairs that were passed nest so, so that those that are left decide
abbrev pub invariant-loop-field : goal.invariant-loop-field
invariant-loop-field g l =
    let names = g.S.FieldNames.names l.fn.schema in
    NamedNestWithin names l.depth (g.D.Document.pairs_rest l.field-iterator) ↔ NamedNestWithin names l.depth (g.D.Document.pairs l.fn.document)
