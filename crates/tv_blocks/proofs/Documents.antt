-- One document that bytes begin with, and the fields that a schema doesn't have.
use Rattle.std.proofs.Common.{◌≡◌, ℕ, ◌<◌, List, [], ◌∷◌, ◌++◌, length, refl, sym, ap, subst, ◌∙◌, append_assoc}
use Rattle.tv_blocks.specs.Documents.{BelongsSoFar, IsUnread}
use Rattle.tv_blocks.specs.Refusals.{document_refusal}
use Rattle.tv_doc.specs.Belongs.{Belongs}
use Rattle.tv_field.specs.Entry.{Entry}
use Rattle.tv_format.specs.InputError.{Refusal, corrupted, no_text_key}
use Rattle.tv_format.specs.Tree.{Document, Tree}
use Rattle.tv_format.specs.Version.{Version}
use Rattle.tv_reader.specs.Error.{IsRefusal}
use Rattle.tv_reader.specs.Error.IsRefusal.{is_corrupted, is_no_text}
use Rattle.tv_reader.specs.ValueType.{value_type_code}
use Rattle.tv_reader.specs.declared.error.DeserializeError.{DeserializeError}
use Rattle.tv_reader.specs.declared.error.DeserializeError.TheVariants as errors
use Rattle.tv_reader.specs.declared.value_type.ValueType.{ValueType}
use Rattle.tv_store.specs.Documents.{HasNoRoom, IsReadingError, NoDocument}

-- ---- reading

pub unread_first : (v : Version) (bytes : List ℕ) (e : DeserializeError) → ((r : Refusal) → IsRefusal e r → NoDocument v bytes r) → (e ≡ errors.HeapFull → HasNoRoom v bytes) → IsReadingError e
    → IsUnread v bytes (document_refusal 0 e)
unread_first v bytes (errors.CorruptedValue c) refused full may = (refused (corrupted c) is_corrupted, refl)
unread_first v bytes errors.HeapFull refused full may = (full refl, refl)
unread_first v bytes (errors.TypeMismatch other actual) refused full may =
    let is : IsRefusal (errors.TypeMismatch other actual) (no_text_key (value_type_code actual)) = subst (λ (t : ValueType). IsRefusal (errors.TypeMismatch t actual) (no_text_key (value_type_code actual))) (sym may) is_no_text in
    ((value_type_code actual, refused (no_text_key (value_type_code actual)) is), refl)
unread_first v bytes e refused full may = tt

-- ---- fields of a schema

belongs-snoc : (schema : List Entry) (d : Document) (field : ℕ) (value : Tree) → Belongs schema d → field < length schema → Belongs schema (d ++ (field, value) ∷ [])
belongs-snoc schema [] field value h within = (within, tt)
belongs-snoc schema (p ∷ ps) field value h within = (h.0, belongs-snoc schema ps field value h.1 within)

pub one_more : {schema : List Entry} {document left rest : Document} (field : ℕ) (value : Tree) → BelongsSoFar schema document left → left ≡ (field, value) ∷ rest → field < length schema
    → BelongsSoFar schema document rest
one_more {schema} {document} {left} {rest} field value m cut within = record {
  before = m.before ++ (field, value) ∷ [];
  joined = m.joined ∙ ap (λ (d : Document). m.before ++ d) cut ∙ sym (append_assoc m.before ((field, value) ∷ []) rest);
  belongs = belongs-snoc schema m.before field value m.belongs within;
}
