-- What is read of the next document of a block, and what no bytes are: they begin with no document, and no other bytes are called an end.
use Rattle.std.proofs.Common.{◌≡◌, ℕ, Bool, true, false, List, [], ◌∷◌, ◌++◌, length, Result, Ok, Err, refl, sym, ap, subst, ◌∙◌, arith, inl, length-append}
use Rattle.std.specs.Prelude.{IsErrOf}
use Rattle.tv_base.specs.declared.cause.Cause.TheVariants.{UnexpectedEnd}
use Rattle.tv_base.specs.declared.source.ByteSource.{Ghosts}
use Rattle.tv_base.specs.ErrorInPart.{number_ends}
use Rattle.tv_base.specs.Number.{Groups, last, more}
use Rattle.tv_base.specs.ReadsAs.{Grammar, Reads}
use Rattle.tv_base.specs.Stop.{Taken}
use Rattle.tv_builder.specs.Parts.{Part, number}
use Rattle.tv_builder.specs.Prefix.{Encoded}
use Rattle.tv_reading.specs.ChosenFields.{HasNoRoomChosen}
use Rattle.tv_reading.specs.Prefix.{HasNoRoom}
use Rattle.tv_doc.specs.Document.{document_of}
use Rattle.tv_doc.specs.declared.document.CompactDoc.{CompactDoc}
use Rattle.tv_format.specs.Encoding.{EncodesDocument}
use Rattle.tv_format.specs.InputError.{Refusal, corrupt}
use Rattle.tv_format.specs.Tree.{Document}
use Rattle.tv_format.specs.Version.{Version}
use Rattle.tv_format.proofs.SingleTrees.{single_document}
use Rattle.tv_reader.specs.Legacy.{Legacy, ErrorInLegacy}
use Rattle.tv_reader.proofs.UniqueLegacy.{one_legacy, legacy_excludes, single_legacy}
use Rattle.tv_reader.specs.Error.{StoreMayStop, StoreMayStopRoomy}
use Rattle.tv_reader.specs.Finds.{FindsIf}
use Rattle.tv_reader.specs.declared.error.DeserializeError.{DeserializeError}
use Rattle.tv_reader.specs.declared.error.DeserializeError.TheVariants as errors
use Rattle.tv_reading.specs.Skip.{IsDocumentEncoding}
use Rattle.tv_store.specs.BlockSteps.{FinishesBlock}
use Rattle.tv_store.specs.Blocks.{NextOf, as_passed, as_read, next_if, read_or}
use Rattle.tv_store.specs.Documents.{NoDocument, in_place}
use Rattle.tv_store.specs.Reading.{passed, reading, resumed}
use Rattle.tv_store.specs.declared.block.BlockReader.{BlockReader}
use Rattle.tv_store.proofs.InPlace.{error_placed}
use Rattle.tv_store.proofs.Promises.{IsSingle, end, no_heap_full, reads_of, single_passed}
use Rattle.tv_store.proofs.Resuming.{reads_on}
use Rattle.tv_value.specs.declared.field.Field.{Field}

-- ---- what the call returned, and what reading a document would have

-- the error of a document that is cut off
abbrev pub cut_off : DeserializeError
cut_off = errors.CorruptedValue UnexpectedEnd

placed_at : {D E : Type 0} (cut : E) (count : ℕ) (read : Result (Unit {0}) E) (result : Result Bool E) (document : D) → NextOf cut read count (next_if result) → read_or cut result document ≡ in_place read document
placed_at cut count (Ok x) (Ok true) document is = refl
placed_at cut count (Ok x) (Ok false) document is = absurd (cc (is))
placed_at cut count (Ok x) (Err e) document is = absurd (cc (is))
placed_at cut count (Err e) (Ok true) document is = absurd is
placed_at {E = E} cut count (Err e) (Ok false) document is = ap (λ (z : E). Err z) (sym is.0)
placed_at {E = E} cut count (Err e) (Err f) document is = ap (λ (z : E). Err z) is.0

as_it_is : {E : Type 0} (read : Result (Unit {0}) E) → in_place read (tt {0}) ≡ read
as_it_is (Ok x) = refl
as_it_is (Err e) = refl

error_at : {E : Type 0} (cut : E) (count : ℕ) (read : Result (Unit {0}) E) (result : Result Bool E) (e : E) → NextOf cut read count (next_if result) → IsErrOf result e → IsErrOf read e
error_at cut count (Ok x) (Ok b) e is said = absurd (cc (said))
error_at cut count (Ok x) (Err f) e is said = absurd (cc (is))
error_at cut count (Err f) (Ok true) e is said = absurd is
error_at cut count (Err f) (Ok false) e is said = absurd (cc (said))
error_at cut count (Err f) (Err h) e is said = let same = is.0 in cc (same, said)

module _ {E : Type 0} {cut : E} {old new : BlockReader} {read : Result (Unit {0}) E} {count : ℕ} {result : Result Bool E} (f : FinishesBlock cut old new read count result) where
  -- what was read in a place is what the call says of it
  pub placed : {D : Type 0} (document : D) → read_or cut result document ≡ in_place read document
  placed document = placed_at cut count read result document f.next

  -- an error of the call is that of reading
  pub error_said : {e : E} → IsErrOf result e → IsErrOf read e
  error_said {e} said = error_at cut count read result e f.next said

module _ {S : Type 0} {source : Ghosts S} {old new : S} {count : ℕ} {before after : BlockReader} {read : Result (Unit {0}) DeserializeError} {result : Result Bool DeserializeError} (f : FinishesBlock cut_off before after read count result) (failed : Bool) where
  -- a document, or chosen pairs of it, was read in a place
  pub reads_placed : (pairs : Grammar Refusal Document) → IsSingle pairs (source.left old)
      → FindsIf StoreMayStop source.is_known source.left source.failures old 0 new count read (λ b _. pairs.Encodes b (document_of before.document)) pairs.HasError
      → (source.is_known old → IsErrOf read errors.HeapFull → pairs.NoRoom (source.left old))
      → Reads (resumed failed errors.AlreadyFailed reading) pairs source old new document_of (as_read result after.document)
  reads_placed pairs single h room =
      let same : as_read result after.document ≡ in_place read before.document = ap (as_read result) f.document ∙ placed f before.document in
      reads_on reading errors.AlreadyFailed failed
      (reads_of pairs document_of source (as_read result after.document) single
      (subst (λ (r : Result CompactDoc DeserializeError). FindsIf StoreMayStop source.is_known source.left source.failures old 0 new count r (λ b d. pairs.Encodes b (document_of d)) pairs.HasError) (sym same) (in_its_place read h))
      (λ known is. room known (error_placed read before.document errors.HeapFull (sym same ∙ is))))
    where
      in_its_place : (read : Result (Unit {0}) DeserializeError) → FindsIf StoreMayStop source.is_known source.left source.failures old 0 new count read (λ b _. pairs.Encodes b (document_of before.document)) pairs.HasError
          → FindsIf StoreMayStop source.is_known source.left source.failures old 0 new count (in_place read before.document) (λ b d. pairs.Encodes b (document_of d)) pairs.HasError
      in_its_place (Ok x) h = record { found = h.found; taken = h.taken; stays_known = h.stays_known; counts = h.counts; count_grows = h.count_grows; may_stop = h.may_stop }
      in_its_place (Err e) h = record { found = h.found; taken = h.taken; stays_known = h.stays_known; counts = h.counts; count_grows = h.count_grows; may_stop = h.may_stop }

  -- a document was passed over
  pub reads_passed : (v : Version) → FindsIf StoreMayStopRoomy source.is_known source.left source.failures old 0 new count read (λ b _. IsDocumentEncoding v b) (NoDocument v)
      → Reads (resumed failed errors.AlreadyFailed reading) (passed (IsDocumentEncoding v) (NoDocument v)) source old new (λ x. x) (as_passed result)
  reads_passed v h =
      reads_on reading errors.AlreadyFailed failed
      (subst (λ (r : Result (Unit {0}) DeserializeError). Reads reading (passed (IsDocumentEncoding v) (NoDocument v)) source old new (λ x. x) r) (sym (placed f (tt {0}) ∙ as_it_is read))
      (reads_of (passed (IsDocumentEncoding v) (NoDocument v)) (λ x. x) source read (single_passed v _) h (λ known. no_heap_full read count h.may_stop)))

-- ---- no bytes

pub nothing_ends : (v : Version) → NoDocument v [] end
nothing_ends v = inl (corrupt (number_ends (omega arith) tt))

-- they are refused for no other reason
pub ends_only : (v : Version) (old : List ℕ) (r : Refusal) → old ≡ [] → NoDocument v old r → r ≡ end
ends_only v old r none h = (single_document Legacy ErrorInLegacy v one_legacy legacy_excludes single_legacy).single [] r end (subst (λ (l : List ℕ). NoDocument v l r) none h) (nothing_ends v)

pub none_before : (a b : List ℕ) → a ++ b ≡ [] → a ≡ []
none_before [] b e = refl
none_before (x ∷ a) b e = absurd (cc)

-- nothing was taken, and nothing is left
pub none_taken : (old prefix new : List ℕ) → old ≡ prefix ++ new → new ≡ [] → length prefix ≡ 0 → old ≡ []
none_taken old [] new joined none few = joined ∙ none
none_taken old (b ∷ prefix) new joined none few = absurd (omega (arith, few))

pub no_more : (old new : List ℕ) (count : ℕ) → Taken old new 0 count → old ≡ [] → count ≡ 0
no_more old new count t none = omega (arith, t.counted, ap length t.joined, ap length none, length-append t.prefix new)

no_groups : (bytes : List ℕ) (n : ℕ) → bytes ≡ [] → Groups bytes n → ⊥
no_groups _ _ e (last lt) = cc
no_groups _ _ e (more lt groups) = cc

-- they encode no number, and nothing after one
pub no_number : (v : Version) (taken : List ℕ) (n : ℕ) (ps : List Part) → taken ≡ [] → Encoded Legacy v taken (number n ∷ ps) → ⊥
no_number v taken n ps none parts = no_groups parts.prefix n (none_before parts.prefix parts.rest (sym parts.joined ∙ none)) parts.first.groups

pub no_document : (v : Version) (taken : List ℕ) (d : Document) → taken ≡ [] → EncodesDocument Legacy v taken d → ⊥
no_document v taken d none encoded = no_groups encoded.prefix _ (none_before encoded.prefix encoded.rest (sym encoded.joined ∙ none)) encoded.first.groups

-- they announce nothing that has no room
pub never_full : (v : Version) (old : List ℕ) → old ≡ [] → HasNoRoom v old → ⊥
never_full v old none full = no_number v full.prefix full.announced _ (none_before full.prefix full.rest (sym full.joined ∙ none)) full.encoded

pub never_full_chosen : (v : Version) (fields : List Field) (old : List ℕ) → old ≡ [] → HasNoRoomChosen v fields old → ⊥
never_full_chosen v fields old none full = no_number v full.prefix full.announced _ (none_before full.prefix full.rest (sym full.joined ∙ none)) full.encoded
