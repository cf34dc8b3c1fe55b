-- Two calls that read the next document by what is kept of it return and leave the same.
use Rattle.std.proofs.Common.{◌≡◌, ◌≢◌, ◌⊎◌, ℕ, ◌+◌, ◌-◌, ◌^◌, min, Bool, true, false, List, [], length, Some, Result, Ok, Err, refl, sym, ◌∙◌, ap, subst, arith, inl, inr}
use Rattle.std.specs.Prelude.{cond}
use Rattle.tv_base.specs.declared.source.ByteSource.{Ghosts}
use Rattle.tv_base.specs.Parts.{Begins}
use Rattle.tv_base.specs.ReadsAs.{Known}
use Rattle.tv_format.specs.InputError.{Refusal, corrupted, no_text_key}
use Rattle.tv_format.specs.Tree.{Document}
use Rattle.tv_format.specs.Version.{Version}
use Rattle.tv_reader.specs.Error.{IsRefusal}
use Rattle.tv_reader.specs.Error.IsRefusal.{is_corrupted, is_no_text}
use Rattle.tv_reader.specs.ValueType.{value_type_code}
use Rattle.tv_reader.specs.Version.{version_of}
use Rattle.tv_reader.specs.declared.error.DeserializeError.{DeserializeError}
use Rattle.tv_reader.specs.declared.error.DeserializeError.TheVariants as errors
use Rattle.tv_reader.specs.declared.value_type.ValueType.TheVariants as types
use Rattle.tv_store.proofs.Alike.{counted_alike}
use Rattle.tv_store.proofs.BlocksWithin.{same_most}
use Rattle.tv_store.proofs.WithinAlike.{Answered, Outcome, answers_alike, errors_counted, nothing_decided}
use Rattle.tv_store.specs.Alike.{AreCountedAlike, ArePlacedAlike, BothNeedMore, IsDecidedError, IsDecidedWithin, NeedsMore, ReadsDecidedBy}
use Rattle.tv_store.specs.BlockSteps.{refusal_of}
use Rattle.tv_store.specs.Documents.{NoDocument}
use Rattle.tv_store.specs.Limits.{IsAll, IsPast}
use Rattle.tv_store.specs.Projections.{IsReason, IsRefusedBy, NoRoomFor, limits_of}
use Rattle.tv_store.specs.declared.block.BlockReader.{BlockReader}
use Rattle.tv_store.specs.declared.block.RefusedDocument.{RefusedDocument}
use Rattle.tv_store.specs.declared.limits.LimitedReadError.{LimitedReadError}
use Rattle.tv_store.specs.declared.limits.LimitedReadError.TheVariants as limited
use Rattle.tv_store.specs.declared.limits.ReadLimit.TheVariants as limit
use Rattle.tv_store.specs.declared.projection.Projection.{Projection}

-- an error that the bytes decide and that is true of them is a refusal of them
true_refusal : (NoRoom : List ℕ → Type 0) (v : Version) (bytes : List ℕ) (e : DeserializeError) → IsDecidedError e → IsRefusedBy NoRoom v bytes e → (r : Refusal) × IsRefusal e r × NoDocument v bytes r
true_refusal NoRoom v bytes (errors.CorruptedValue c) decided h = (corrupted c, is_corrupted, h)
true_refusal NoRoom v bytes (errors.TypeMismatch types.String actual) decided h = (no_text_key (value_type_code actual), is_no_text, h)
true_refusal NoRoom v bytes errors.HeapFull decided h = absurd (decided.1 refl)
true_refusal NoRoom v bytes (errors.Io kind) decided h = absurd (decided.0 tt)
true_refusal NoRoom v bytes errors.Memory decided h = absurd (decided.0 tt)
true_refusal NoRoom v bytes _ decided h = absurd h

-- two readers that have counted the same refuse a document in the same place
abbrev refused_with : ℕ → ℕ → ℕ → Bool → LimitedReadError → RefusedDocument
refused_with number start taken failed reason = record { document = number; start = start; place = cond failed (min (start + taken) (2 ^ 64 - 1)) start; error = reason }

refusal_alike : (reader twin : BlockReader) (reason other : LimitedReadError) → AreCountedAlike reader twin → reason ≡ other → refusal_of reader reason ≡ refusal_of twin other
refusal_alike reader twin reason other counts same =
    ap (λ (n : ℕ). refused_with n reader.start reader.taken reader.failed reason) counts.documents
    ∙ ap (λ (n : ℕ). refused_with twin.documents n reader.taken reader.failed reason) counts.start
    ∙ ap (λ (n : ℕ). refused_with twin.documents twin.start n reader.failed reason) counts.taken
    ∙ ap (λ (b : Bool). refused_with twin.documents twin.start twin.taken b reason) counts.failed
    ∙ ap (λ (r : LimitedReadError). refused_with twin.documents twin.start twin.taken twin.failed r) same

module _ {S : Type 0} (projection : Projection) (source : Ghosts S) (begun : S) (old : BlockReader) (some : (limits_of projection).bytes ≢ Some 0) where
  few_taken : {IsKept : Document → Type 0} (ended : S) (reader : BlockReader) (result : Result Bool RefusedDocument) → ReadsDecidedBy projection IsKept source begun ended old reader result → Begins (λ b. ¬ IsPast (limits_of projection).bytes (length b)) (source.left begun) (source.left ended)
  few_taken ended reader result h = subst (λ m. Begins (λ b. ¬ IsPast m (length b)) (source.left begun) (source.left ended)) (same_most (limits_of projection).bytes some) (h.reads.most h.known.0)

  reason_outcome : (ended : S) (e : LimitedReadError) → Known source begun → IsDecidedWithin {X = Bool} (Err e) → IsReason (version_of old.version) projection (source.left begun) (source.left ended) e
      → Outcome {X = Document} (version_of old.version) (limits_of projection).bytes (λ d. d) (source.left begun) (source.left ended) (Err e)
  reason_outcome ended (limited.Read e) known decided reason =
      let r = true_refusal (NoRoomFor (version_of old.version) projection) (version_of old.version) (source.left begun) e decided (reason.true_of known.1) in
      (r.0, r.1, r.2, reason.shown known.1 r.0 r.1)
  reason_outcome ended (limited.Limit limit.Bytes) known decided reason =
      let h = reason.true_of in
      (subst (λ m. Begins (IsAll m) (source.left begun) (source.left ended)) (same_most (limits_of projection).bytes some) h.0, h.1 some)
  reason_outcome ended (limited.Limit limit.HeapBytes) known decided reason = absurd decided
  reason_outcome ended (limited.Limit limit.Depth) known decided reason = absurd decided

  reason_answered : {IsKept : Document → Type 0} (ended : S) (reader : BlockReader) (e : RefusedDocument) → ReadsDecidedBy projection IsKept source begun ended old reader (Err e)
      → Answered {X = Document} (version_of old.version) (limits_of projection).bytes (λ d. d) (source.left begun) (source.left ended) (Err e.error)
  reason_answered ended reader e h = record { few = few_taken ended reader (Err e) h; outcome = reason_outcome ended e.error h.known h.decided (h.reads.one h.known.0) }

  document_answered : {IsKept : Document → Type 0} (ended : S) (reader : BlockReader) (h : ReadsDecidedBy projection IsKept source begun ended old reader (Ok true))
      → Answered {X = Document} (version_of old.version) (limits_of projection).bytes (λ d. d) (source.left begun) (source.left ended) (Ok (h.reads.one h.known.0).0)
  document_answered ended reader h =
      let read = (h.reads.one h.known.0).1 in
      record { few = few_taken ended reader (Ok true) h; outcome = record { prefix = read.prefix; joined = read.joined; encoded = read.encoded.encoded } }

  -- where nothing is left there is no document, and no reason why not
  none_read : {IsKept : Document → Type 0} (ended : S) (reader : BlockReader) → source.left begun ≡ [] → ReadsDecidedBy projection IsKept source begun ended old reader (Ok true) → ⊥
  none_read ended reader none h = omega (arith, h.steps.fewer h.known.0 refl, ap length none)

  none_refused : {IsKept : Document → Type 0} (ended : S) (reader : BlockReader) (e : RefusedDocument) → source.left begun ≡ [] → ReadsDecidedBy projection IsKept source begun ended old reader (Err e) → ⊥
  none_refused ended reader e none h = nothing_decided e.error h.decided ((h.reads.one h.known.0).at_end none)

module _ {S : Type 0} (projection : Projection) {Keeps AlsoKeeps : Document → Type 0} (source : Ghosts S) (begun ended other : S) (old reader twin : BlockReader) (some : (limits_of projection).bytes ≢ Some 0) where
  -- beside that, both keep of one document what they have then
  pub placed_alike : (result answer : Result Bool RefusedDocument) → ReadsDecidedBy projection Keeps source begun ended old reader result → ReadsDecidedBy projection AlsoKeeps source begun other old twin answer
      → ArePlacedAlike (source.left ended) (source.left other) reader twin result answer × (result ≡ Ok true → (d : Document) × Keeps d × AlsoKeeps d)
  placed_alike (Ok true) (Ok true) first second =
      let one = first.reads.one first.known.0 in
      let also = second.reads.one second.known.0 in
      let same =
      answers_alike (version_of old.version) (limits_of projection).bytes (source.left begun) (λ d. d) (source.left ended) (source.left other) (Ok one.0) (Ok also.0) (document_answered projection source begun old some ended reader first)
      (document_answered projection source begun old some other twin second) in (
        record { same = inl refl; rest = same.1; counts = counted_alike source begun ended other old reader twin (Ok true) first.not_failed first.known.0 same.1 first.steps second.steps },
        λ _. (one.0, one.2, subst AlsoKeeps (sym same.0) also.2),
      )
  placed_alike (Ok false) (Ok false) first second =
      let one = first.reads.one first.known.0 in
      let also = second.reads.one second.known.0 in
      let same = one.1 ∙ sym also.1 in
      (record { same = inl refl; rest = same; counts = counted_alike source begun ended other old reader twin (Ok false) first.not_failed first.known.0 same first.steps second.steps }, λ is. absurd (cc))
  placed_alike (Ok true) (Ok false) first second = absurd (none_read projection source begun old some ended reader (second.reads.one second.known.0).0 first)
  placed_alike (Ok false) (Ok true) first second = absurd (none_read projection source begun old some other twin (first.reads.one first.known.0).0 second)
  placed_alike (Ok false) (Err e) first second = absurd (none_refused projection source begun old some other twin e (first.reads.one first.known.0).0 second)
  placed_alike (Err e) (Ok false) first second = absurd (none_refused projection source begun old some ended reader e (second.reads.one second.known.0).0 first)
  placed_alike (Ok true) (Err e) first second =
      absurd
      (answers_alike (version_of old.version) (limits_of projection).bytes (source.left begun) (λ d. d) (source.left ended) (source.left other) (Ok (first.reads.one first.known.0).0) (Err e.error) (document_answered projection source begun old some ended reader first)
      (reason_answered projection source begun old some other twin e second))
  placed_alike (Err e) (Ok true) first second =
      absurd
      (answers_alike (version_of old.version) (limits_of projection).bytes (source.left begun) (λ d. d) (source.left ended) (source.left other) (Err e.error) (Ok (second.reads.one second.known.0).0) (reason_answered projection source begun old some ended reader e first)
      (document_answered projection source begun old some other twin second))
  placed_alike (Err e) (Err f) first second =
      let same =
      answers_alike (version_of old.version) (limits_of projection).bytes (source.left begun) (λ d. d) (source.left ended) (source.left other) (Err e.error) (Err f.error) (reason_answered projection source begun old some ended reader e first)
      (reason_answered projection source begun old some other twin f second) in
      let counts = errors_counted source begun ended other old reader twin e f first.not_failed first.known.0 same.1 first.steps second.steps in
      (record { same = by_errors counts same.0; rest = same.1; counts = counts }, λ is. absurd (cc))
    where
      by_errors : AreCountedAlike reader twin → (e.error ≡ f.error) ⊎ (NeedsMore e.error × NeedsMore f.error) → (◌≡◌ {A = Result Bool RefusedDocument} (Err e) (Err f)) ⊎ BothNeedMore (Err e.error) (Err f.error)
      by_errors counts (inl is) = inl (ap (λ (z : RefusedDocument). Err z) (first.reads.placed ∙ refusal_alike reader twin e.error f.error counts is ∙ sym second.reads.placed))
      by_errors counts (inr both) = inr both
