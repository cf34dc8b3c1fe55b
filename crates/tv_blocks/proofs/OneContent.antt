-- What is written of a block is one content.
use Rattle.std.proofs.Common.{◌≡◌, ◌∙◌, ℕ, Bool, List, sym, ap, subst, map}
use Rattle.std.specs.List.{flat_map}
use Rattle.tv_blocks.specs.Blocks.{IsExported, IsPrintedBlock}
use Rattle.tv_blocks.specs.FieldValues.{IsValueList, values_from}
use Rattle.tv_blocks.specs.SchemaTerms.{AreSchemaTerms}
use Rattle.tv_blocks.specs.SchemaTerms as schema_terms
use Rattle.tv_blocks.specs.Terms.{IsTermList}
use Rattle.tv_blocks.specs.Terms as field_terms
use Rattle.tv_field.specs.Entry.{Entry}
use Rattle.tv_format.specs.Short.{short_document}
use Rattle.tv_format.specs.Tree.{Document}
use Rattle.tv_format.specs.Version.{Version}
use Rattle.tv_indexing.specs.DocumentTerms.{document_terms}
use Rattle.tv_lines.specs.Answers.{ReadsSchema}
use Rattle.tv_lines.proofs.OnePrint.{OneText, printed_one}
use Rattle.tv_lines.specs.Printing.{ArePrinted}
use Rattle.tv_lines.specs.declared.export.JsonLayout.TheVariants.{Compact}
use Rattle.tv_store.specs.BlockMigration.{EncodesBlock, IsMigrated}

abbrev pub OneBlock : Type 0
OneBlock = (version : Version) (block : List ℕ) (documents others : List Document) → EncodesBlock version block documents → EncodesBlock version block others → documents ≡ others

pub schema_one : (text : List ℕ) (schema other : List Entry) → ReadsSchema text schema → ReadsSchema text other → schema ≡ other
schema_one text schema other h k = cc (h.1.1, k.1.1, h.2, k.2)

module _ (block_one : OneBlock) (text_one : OneText) where
  pub printed_block_one : (entries : List Entry) (version : Version) (block content other : List ℕ) → IsPrintedBlock entries version block content → IsPrintedBlock entries version block other → content ≡ other
  printed_block_one entries version block content other h k =
      let same = block_one version block h.0 k.0 h.1 k.1 in
      printed_one text_one entries Compact k.0 content other (subst (λ (ds : List Document). ArePrinted entries Compact ds content) same h.2) k.2

  pub exported_one : (schema : List ℕ) (version : Version) (block content other : List ℕ) → IsExported schema version block content → IsExported schema version block other → content ≡ other
  exported_one schema version block content other h k =
      let same = block_one version block h.documents k.documents h.encoded k.encoded in
      let entries = schema_one schema h.entries k.entries h.reads k.reads in
      printed_one text_one k.entries Compact k.documents content other (subst (λ (es : List Entry). ArePrinted es Compact k.documents content) entries (subst (λ (ds : List Document). ArePrinted h.entries Compact ds content) same h.printed)) k.printed

  pub terms_one : (version : Version) (field : ℕ) (block content other : List ℕ) → IsTermList version field block content → IsTermList version field block other → content ≡ other
  terms_one version field block content other h k = h.2 ∙ ap (field_terms.records_from 0 field) (block_one version block h.0 k.0 h.1 k.1) ∙ sym k.2

  pub values_one : (version : Version) (field : ℕ) (block content other : List ℕ) → IsValueList version field block content → IsValueList version field block other → content ≡ other
  values_one version field block content other h k = h.2 ∙ ap (values_from 0 field) (block_one version block h.0 k.0 h.1 k.1) ∙ sym k.2

  pub schema_terms_one : (with_faults : Bool) (schema : List Entry) (version : Version) (block content other : List ℕ) → AreSchemaTerms with_faults schema version block content → AreSchemaTerms with_faults schema version block other → content ≡ other
  schema_terms_one with_faults schema version block content other h k =
      h.listed ∙ ap (λ (ds : List Document). schema_terms.records_from 0 (map (document_terms schema) ds)) (block_one version block h.documents k.documents h.encoded k.encoded) ∙ sym k.listed

  pub migrated_one : (from to : Version) (block content other : List ℕ) → IsMigrated from to block content → IsMigrated from to block other → content ≡ other
  migrated_one from to block content other h k = h.written ∙ ap (flat_map (short_document to)) (block_one from block h.documents k.documents h.encoded k.encoded) ∙ sym k.written
