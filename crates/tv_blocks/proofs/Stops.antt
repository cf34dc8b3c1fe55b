-- Where reading stops before the end of a block.
use Rattle.std.proofs.Common.{◌≡◌, ◌≢◌, ℕ, List, [], refl, sym, subst}
use Rattle.tv_blocks.specs.Refusals.{RefusesDocument, document_refusal}
use Rattle.tv_blocks.specs.declared.block_error.BlockError.{BlockError}
use Rattle.tv_blocks.specs.declared.block_error.BlockError.TheVariants as blocks
use Rattle.tv_blocks.specs.declared.block_error.DocumentRefusal.{DocumentRefusal}
use Rattle.tv_blocks.specs.declared.block_error.DocumentRefusal.TheVariants as documents
use Rattle.tv_format.specs.InputError.{Refusal, corrupted, no_text_key}
use Rattle.tv_format.specs.Version.{Version}
use Rattle.tv_reader.specs.Error.{IsRefusal}
use Rattle.tv_reader.specs.Error.IsRefusal.{is_corrupted, is_no_text}
use Rattle.tv_reader.specs.ValueType.{value_type_code}
use Rattle.tv_reader.specs.declared.error.DeserializeError.{DeserializeError}
use Rattle.tv_reader.specs.declared.error.DeserializeError.TheVariants as errors
use Rattle.tv_reader.specs.declared.value_type.ValueType.{ValueType}
use Rattle.tv_store.specs.Documents.{IsReadingError, NoDocument, SaysNothing}

-- ---- a document that can't be read

-- the document with which the bytes begin is refused; of some bytes there is no room
abbrev pub RefusesBy : (List ℕ → Type 0) → Version → DocumentRefusal → List ℕ → Type 0
RefusesBy NoRoom v documents.HeapFull bytes = NoRoom bytes
RefusesBy NoRoom v refusal bytes = RefusesDocument v bytes refusal

-- the document that begins there is refused, or memory was
abbrev pub IsUnreadAt : (List ℕ → Type 0) → Version → List ℕ → ℕ → BlockError → Type 0
IsUnreadAt NoRoom v bytes start (blocks.BadDocument at refusal) = (at ≡ start) × (bytes ≢ []) × RefusesBy NoRoom v refusal bytes
IsUnreadAt NoRoom v bytes start blocks.Memory = Unit {0}
IsUnreadAt NoRoom v bytes start e = ⊥

pub unread_at : (NoRoom : List ℕ → Type 0) (v : Version) (bytes : List ℕ) (start : ℕ) (e : DeserializeError) → (bytes ≡ [] → SaysNothing e) → ((r : Refusal) → IsRefusal e r → NoDocument v bytes r)
    → (e ≡ errors.HeapFull → NoRoom bytes) → IsReadingError e → IsUnreadAt NoRoom v bytes start (document_refusal start e)
unread_at NoRoom v bytes start (errors.CorruptedValue c) some refused full may = (refl, some, refused (corrupted c) is_corrupted)
unread_at NoRoom v bytes start errors.HeapFull some refused full may = (refl, some, full refl)
unread_at NoRoom v bytes start (errors.TypeMismatch other actual) some refused full may =
    let is : IsRefusal (errors.TypeMismatch other actual) (no_text_key (value_type_code actual)) = subst (λ (t : ValueType). IsRefusal (errors.TypeMismatch t actual) (no_text_key (value_type_code actual))) (sym may) is_no_text in
    (refl, some, (value_type_code actual, refused (no_text_key (value_type_code actual)) is))
unread_at NoRoom v bytes start e some refused full may = tt
