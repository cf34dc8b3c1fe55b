-- Of a block one content is written, or it is refused at one document.
use Rattle.std.proofs.Common.{◌≡◌, ◌≢◌, ◌∙◌, ℕ, List, None, Some, refl, sym, subst}
use Rattle.std.specs.Prelude.{IsUtf8}
use Rattle.tv_blocks.proofs.DocumentAnswers.{has_room}
use Rattle.tv_blocks.proofs.OneBreak.{breaks_none, breaks_one}
use Rattle.tv_blocks.proofs.SchemaAnswers.{SchemaFault, schema_apart, schema_fault, schema_fault_one}
use Rattle.tv_blocks.specs.Alike.{HasOneAnswer, IsDecided}
use Rattle.tv_blocks.specs.Blocks.{IsExported}
use Rattle.tv_blocks.specs.FieldValues.{AreNamedValues, EncodeDocuments, IsNamedValuesRefusal, IsValueList, IsValueListRefusal, RefusesBlockValues}
use Rattle.tv_blocks.specs.Refusals.{IsBlockRefusal, IsExportRefusal, RefusesDocument}
use Rattle.tv_blocks.specs.declared.block_error.BlockError.{BlockError}
use Rattle.tv_blocks.specs.declared.block_error.BlockError.TheVariants as errors
use Rattle.tv_blocks.specs.declared.block_error.DocumentRefusal.{DocumentRefusal}
use Rattle.tv_blocks.specs.declared.block_error.DocumentRefusal.TheVariants as refusals
use Rattle.tv_field.specs.Entry.{Entry}
use Rattle.tv_format.specs.Version.{Version}
use Rattle.tv_lines.specs.Answers.{ReadsSchema}
use Rattle.tv_schema.specs.Schema.{field_named}

abbrev pub OneContent : (List ℕ → Type 0) → Type 0
OneContent P = (content other : List ℕ) → P content → P other → content ≡ other

-- what is written is of documents that the block encodes
abbrev pub OfDocuments : Version → List ℕ → (List ℕ → Type 0) → Type 0
OfDocuments version block P = (content : List ℕ) → P content → EncodeDocuments version block

-- ---- a document that can't be read

block_error_one : (v : Version) (block : List ℕ) (one other : BlockError) → IsDecided one → IsDecided other → IsBlockRefusal v block one → IsBlockRefusal v block other → one ≡ other
block_error_one v block (errors.BadDocument start r) (errors.BadDocument also s) decided too h k =
    let same = breaks_one v block start also r s (has_room start r decided) (has_room also s too) h k in
    λ i. errors.BadDocument (same.0 i) (same.1 i)
block_error_one v block (errors.BadDocument start r) other decided too h k = absurd k
block_error_one v block one other decided too h k = absurd h

block_apart : (v : Version) (block : List ℕ) (error : BlockError) → IsDecided error → EncodeDocuments v block → IsBlockRefusal v block error → ⊥
block_apart v block (errors.BadDocument start r) decided h k = breaks_none v block h.0 start r (has_room start r decided) h.1 k
block_apart v block error decided h k = k

pub block_answer : (v : Version) (block : List ℕ) (P : List ℕ → Type 0) → OneContent P → OfDocuments v block P → HasOneAnswer P (IsBlockRefusal v block)
block_answer v block P one of = record {
  answer = one;
  error = block_error_one v block;
  apart = λ content error decided h k. block_apart v block error decided (of content h) k;
}

-- ---- the schema, or a document

data ExportFault (schema : List ℕ) (v : Version) (block : List ℕ) (error : BlockError) : Type 0 where
  no_schema : SchemaFault schema error → ExportFault schema v block error
  no_document : (entries : List Entry) → ReadsSchema schema entries → IsBlockRefusal v block error → ExportFault schema v block error

export_fault : (schema : List ℕ) (v : Version) (block : List ℕ) (error : BlockError) → IsExportRefusal schema v block error → ExportFault schema v block error
export_fault schema v block (errors.BadDocument start r) h = no_document h.0.0 h.0.1 h.1
export_fault schema v block error h = no_schema (schema_fault schema error h)

module _ (schema : List ℕ) (v : Version) (block : List ℕ) where
  export_fault_one : (one other : BlockError) → IsDecided one → IsDecided other → ExportFault schema v block one → ExportFault schema v block other → one ≡ other
  export_fault_one one other decided too (no_schema h) (no_schema k) = schema_fault_one schema one other h k
  export_fault_one one other decided too (no_schema h) (no_document entries reads k) = absurd (schema_apart schema entries one reads h)
  export_fault_one one other decided too (no_document entries reads h) (no_schema k) = absurd (schema_apart schema entries other reads k)
  export_fault_one one other decided too (no_document entries reads h) (no_document twins read k) = block_error_one v block one other decided too h k

  export_apart : (content : List ℕ) (error : BlockError) → IsDecided error → IsExported schema v block content → ExportFault schema v block error → ⊥
  export_apart content error decided h (no_schema k) = schema_apart schema h.entries error h.reads k
  export_apart content error decided h (no_document entries reads k) = block_apart v block error decided (h.documents, h.encoded) k

  pub export_answer : OneContent (IsExported schema v block) → HasOneAnswer (IsExported schema v block) (IsExportRefusal schema v block)
  export_answer content_one = record {
    answer = content_one;
    error = λ one other decided too h k. export_fault_one one other decided too (export_fault schema v block one h) (export_fault schema v block other k);
    apart = λ content error decided h k. export_apart content error decided h (export_fault schema v block error k);
  }

-- ---- values of a field

values_refused : (v : Version) (field : ℕ) (bytes : List ℕ) (r : DocumentRefusal) → r ≢ refusals.HeapFull → RefusesBlockValues v field r bytes → RefusesDocument v bytes r
values_refused v field bytes refusals.HeapFull room h = absurd (room refl)
values_refused v field bytes r room h = h

-- a block whose values are refused breaks
values_break : (v : Version) (field : ℕ) (block : List ℕ) (error : BlockError) → IsDecided error → IsValueListRefusal v field block error → IsBlockRefusal v block error
values_break v field block (errors.BadDocument start r) decided h =
    record {
      before = h.before;
      behind = h.behind;
      joined = h.joined;
      measured = h.measured;
      some = h.some;
      documents = h.good.0;
      encoded = h.good.1;
      refused = values_refused v field h.behind r (has_room start r decided) h.refused;
    }
values_break v field block error decided h = absurd h

data NamedFault (schema : List Entry) (name : List ℕ) (v : Version) (block : List ℕ) (error : BlockError) : Type 0 where
  no_text : ¬ IsUtf8 name → error ≡ errors.NotUtf8 → NamedFault schema name v block error
  no_field : field_named schema name ≡ None → IsUtf8 name → error ≡ errors.NoField → NamedFault schema name v block error
  no_values : (field : ℕ) → IsUtf8 name → field_named schema name ≡ Some field → IsBlockRefusal v block error → NamedFault schema name v block error

named_fault : (schema : List Entry) (name : List ℕ) (v : Version) (block : List ℕ) (error : BlockError) → IsDecided error → IsNamedValuesRefusal schema name v block error → NamedFault schema name v block error
named_fault schema name v block errors.NotUtf8 decided h = no_text h refl
named_fault schema name v block errors.NoField decided h = no_field h.1 h.0 refl
named_fault schema name v block error decided h = no_values h.1 h.0 h.2 (values_break v h.1 block error decided h.3)

module _ (schema : List Entry) (name : List ℕ) (v : Version) (block : List ℕ) where
  named_fault_one : (one other : BlockError) → IsDecided one → IsDecided other → NamedFault schema name v block one → NamedFault schema name v block other → one ≡ other
  named_fault_one one other decided too (no_text never is) (no_text neither so) = is ∙ sym so
  named_fault_one one other decided too (no_text never is) (no_field missing is_text so) = absurd (never is_text)
  named_fault_one one other decided too (no_text never is) (no_values field is_text named k) = absurd (never is_text)
  named_fault_one one other decided too (no_field missing is_text is) (no_text never so) = absurd (never is_text)
  named_fault_one one other decided too (no_field missing is_text is) (no_field lacking text_too so) = is ∙ sym so
  named_fault_one one other decided too (no_field missing is_text is) (no_values field text_too named k) = absurd (cc (missing, named))
  named_fault_one one other decided too (no_values field is_text named h) (no_text never so) = absurd (never is_text)
  named_fault_one one other decided too (no_values field is_text named h) (no_field missing text_too so) = absurd (cc (missing, named))
  named_fault_one one other decided too (no_values field is_text named h) (no_values twin text_too also k) = block_error_one v block one other decided too h k

  named_apart : (content : List ℕ) (error : BlockError) → IsDecided error → AreNamedValues schema name v block content → NamedFault schema name v block error → ⊥
  named_apart content error decided h (no_text never is) = never h.0
  named_apart content error decided h (no_field missing is_text is) = let named = h.2 in absurd (cc (missing, named))
  named_apart content error decided h (no_values field is_text named k) = block_apart v block error decided (h.3.0, h.3.1) k

  named_one : ((field : ℕ) → OneContent (IsValueList v field block)) → OneContent (AreNamedValues schema name v block)
  named_one values content other h k =
      let mine : field_named schema name ≡ Some h.1 = h.2 in
      let yours : field_named schema name ≡ Some k.1 = k.2 in
      let same : h.1 ≡ k.1 = cc (mine, yours) in
      values k.1 content other (subst (λ (f : ℕ). IsValueList v f block content) same h.3) k.3

  pub named_answer : ((field : ℕ) → OneContent (IsValueList v field block)) → HasOneAnswer (AreNamedValues schema name v block) (IsNamedValuesRefusal schema name v block)
  named_answer values = record {
    answer = named_one values;
    error = λ one other decided too h k. named_fault_one one other decided too (named_fault schema name v block one decided h) (named_fault schema name v block other too k);
    apart = λ content error decided h k. named_apart content error decided h (named_fault schema name v block error decided k);
  }
