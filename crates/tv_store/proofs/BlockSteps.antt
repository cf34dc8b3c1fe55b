-- The promise of a call that reads or passes over the next document, from what reading one promises.
use Rattle.std.proofs.Common.{◌≡◌, ℕ, ◌<◌, Bool, true, false, List, [], length, Result, Ok, Err, ◌⊎◌, inl, inr, refl, sym, ap, subst, ◌∙◌, arith, length-append}
use Rattle.std.specs.Prelude.{◌≢◌, IsErrOf, OnErr, OnOk}
use Rattle.tv_base.specs.declared.cause.Cause.TheVariants.{UnexpectedEnd}
use Rattle.tv_base.specs.declared.source.ByteSource.{Ghosts}
use Rattle.tv_base.specs.Number.{Groups, last, more}
use Rattle.tv_base.specs.Parts.{Begins}
use Rattle.tv_base.specs.Stop.{Taken}
use Rattle.tv_doc.specs.Document.{document_of}
use Rattle.tv_doc.specs.declared.document.CompactDoc.{CompactDoc}
use Rattle.tv_format.specs.InputError.{corrupted, no_text_key}
use Rattle.tv_format.specs.Version.{Version}
use Rattle.tv_reader.specs.Error.{store_stop}
use Rattle.tv_reader.specs.Finds.{FindsIf, Found, GivesStop}
use Rattle.tv_reader.specs.declared.error.DeserializeError.{DeserializeError}
use Rattle.tv_reader.specs.declared.error.DeserializeError.TheVariants as errors
use Rattle.tv_reader.specs.declared.value_type.ValueType.TheVariants as types
use Rattle.tv_reading.specs.Skip.{IsDocumentEncoding}
use Rattle.tv_store.specs.BlockSteps.{CountsNext, FinishesBlock, LeavesNone, StepsBlock}
use Rattle.tv_store.specs.Blocks.{NextOf, SaysEndBut, next_if}
use Rattle.tv_store.specs.Documents.{NoDocument, SaysNothing}
use Rattle.tv_store.specs.declared.block.BlockReader.{BlockReader}
use Rattle.tv_store.proofs.Blocks.{cut_off, ends_only, no_more, none_taken}
use Rattle.tv_store.proofs.Promises.{end, told_cause}

-- ---- whether there was more

-- which errors reading no bytes has: that they end early, or one that says nothing of them
abbrev pub EndsOnly : {E : Type 0} → E → (E → Type 0) → Result (Unit {0}) E → Type 0
EndsOnly cut MayCome (Ok x) = ⊥
EndsOnly cut MayCome (Err e) = (e ≡ cut) ⊎ MayCome e

end_at : {E : Type 0} (cut : E) (count : ℕ) (read : Result (Unit {0}) E) (result : Result Bool E) → NextOf cut read count (next_if result) → result ≡ Ok false → IsErrOf read cut × (count ≡ 0)
end_at cut count (Ok x) (Ok true) is said = absurd (cc (said))
end_at cut count (Ok x) (Ok false) is said = absurd (cc (is))
end_at cut count (Ok x) (Err f) is said = absurd (cc (said))
end_at cut count (Err e) (Ok true) is said = absurd is
end_at {E} cut count (Err e) (Ok false) is said = (ap (λ (z : E). Err z) is.0, is.1)
end_at cut count (Err e) (Err f) is said = absurd (cc (said))

more_at : {E : Type 0} (cut : E) (count : ℕ) (P : Type 0) (read : Result (Unit {0}) E) (result : Result Bool E) → NextOf cut read count (next_if result) → result ≡ Ok true → OnOk read P → P
more_at cut count P (Ok x) result is said h = h
more_at cut count P (Err e) (Ok true) is said h = absurd is
more_at cut count P (Err e) (Ok false) is said h = absurd (cc (said))
more_at cut count P (Err e) (Err f) is said h = absurd (cc (said))

none_at : {E : Type 0} (cut : E) (count : ℕ) (P : Type 0) (read : Result (Unit {0}) E) (result : Result Bool E) → NextOf cut read count (next_if result) → OnErr read P → result ≢ Ok true → P
none_at cut count P (Ok x) (Ok true) is h other = absurd (other refl)
none_at cut count P (Ok x) (Ok false) is h other = absurd (cc (is))
none_at cut count P (Ok x) (Err e) is h other = absurd (cc (is))
none_at cut count P (Err e) result is h other = h

only_at : {E : Type 0} (cut : E) (count : ℕ) (MayCome : E → Type 0) (read : Result (Unit {0}) E) (result : Result Bool E) → NextOf cut read count (next_if result) → count ≡ 0 → EndsOnly cut MayCome read → SaysEndBut MayCome result
only_at cut count MayCome (Ok x) result is none h = absurd h
only_at cut count MayCome (Err e) (Ok true) is none h = is
only_at cut count MayCome (Err e) (Ok false) is none h = tt
only_at cut count MayCome (Err e) (Err f) is none (inl end) = absurd (omega (arith, none, is.1 end))
only_at cut count MayCome (Err e) (Err f) is none (inr h) = subst MayCome (sym is.0) h

module _ {E : Type 0} {cut : E} {old new : BlockReader} {read : Result (Unit {0}) E} {count : ℕ} {result : Result Bool E} (f : FinishesBlock cut old new read count result) where
  -- something was read
  pub says_more : {P : Type 0} → result ≡ Ok true → OnOk read P → P
  says_more {P} said h = more_at cut count P read result f.next said h

  -- there is no document where none was read
  pub leaves_none : (before : BlockReader) → OnErr read (document_of old.document ≡ []) → LeavesNone before new result
  leaves_none before h = λ live other. ap document_of f.document ∙ none_at cut count (document_of old.document ≡ []) read result f.next h other

-- ---- whatever is read

-- It had not. What it has then is what it had, and another document.
pub steps_block : {E S : Type 0} (MayCome : E → Type 0) (again : E) (source : Ghosts S) {source_old source_new : S} {old new : BlockReader} {document : CompactDoc} {cut : E} {count : ℕ} {read : Result (Unit {0}) E} {result : Result Bool E} → old.failed ≡ false
    → FinishesBlock cut (record old { document = document }) new read count result → (source.is_known source_old → Taken (source.left source_old) (source.left source_new) 0 count)
    → (source.is_known source_old → OnOk read (length (source.left source_new) < length (source.left source_old))) → (source.is_known source_old → IsErrOf read cut → source.left source_new ≡ [])
    → (source.is_known source_old → source.left source_old ≡ [] → EndsOnly cut MayCome read) → StepsBlock MayCome again source source_old source_new old new result
steps_block {E} MayCome again source {source_old = source_old} {source_new = source_new} {old = old} {new = new} {document = document} {cut = cut} {count = count} {read = read} {result = result} live f taken fewer all only = record {
  refused = λ failed. absurd (cc);
  not_failed = on_ok result f.not_failed;
  marked = f.marked;
  taken = λ _ known. subst (λ (n : ℕ). Taken (source.left source_old) (source.left source_new) 0 n) (sym f.taken) (taken known);
  fewer = λ known is. says_more f is (fewer known);
  end = λ _ known is.
      let t = taken known in
      let none = end_at cut count read result f.next is in
      none_taken (source.left source_old) t.prefix (source.left source_new) t.joined (all known none.0) (omega (arith, t.counted, none.1));
  ended = λ _ known none. only_at cut count MayCome read result f.next (no_more (source.left source_old) (source.left source_new) count (taken known) none) (only known none);
  counted = counts result f.counted;
  version = f.version;
}
  where
    on_ok : (result : Result Bool E) → OnOk result (new.failed ≡ old.failed) → OnOk result (new.failed ≡ false)
    on_ok (Ok b) same = same ∙ live
    on_ok (Err e) same = tt

    counts : (result : Result Bool E) → CountsNext (record old { document = document }) new result → CountsNext old new result
    counts (Ok true) h = record { documents = h.documents; start = h.start }
    counts (Ok false) h = record { documents = h.documents; start = h.start }
    counts (Err e) h = record { documents = h.documents; start = h.start }

-- ---- without limits

-- a document has a byte at least
pub next_fewer : (v : Version) (old new : List ℕ) → Begins (IsDocumentEncoding v) old new → length new < length old
next_fewer v old new h =
    let p = h.encoded.1 in
    omega (arith, ap length h.joined, length-append h.prefix new, ap length p.joined, length-append p.prefix p.rest, some_groups p.first.groups)
  where
    some_groups : {bytes : List ℕ} {n : ℕ} → Groups bytes n → 0 < length bytes
    some_groups (last lt) = omega arith
    some_groups (more lt groups) = omega arith

-- the errors of no bytes
pub only_error : (v : Version) (old new : List ℕ) (count : ℕ) (e : DeserializeError) → GivesStop end (NoDocument v) old new count (store_stop e) → (e ≡ errors.HeapFull → ⊥) → count ≡ 0 → old ≡ [] → (e ≡ cut_off) ⊎ SaysNothing e
only_error v old new count (errors.CorruptedValue c) h lean few none =
    let same = ends_only v old (corrupted c) none (told_cause (NoDocument v) c old new count (omega (arith, few)) h).stands in
    let is : c ≡ UnexpectedEnd = cc in
    inl (ap errors.CorruptedValue is)
only_error v old new count (errors.TypeMismatch types.String actual) h lean few none =
    let same = ends_only v old (no_text_key _) none h.stands in
    absurd (cc)
only_error v old new count errors.HeapFull h lean few none = absurd (lean refl)
only_error v old new count (errors.Io k) h lean few none = inr tt
only_error v old new count errors.Memory h lean few none = inr tt
only_error v old new count _ h lean few none = absurd h

module _ (v : Version) (Is : List ℕ → Type 0) (encodes : (b : List ℕ) → Is b → IsDocumentEncoding v b) (old new : List ℕ) (count : ℕ) where
  abbrev FoundNext : Result (Unit {0}) DeserializeError → Type 0
  FoundNext read = Found store_stop end (λ b _. Is b) (NoDocument v) old new count read

  fewer_found : (read : Result (Unit {0}) DeserializeError) → FoundNext read → OnOk read (length new < length old)
  fewer_found (Ok x) h = next_fewer v old new (record { prefix = h.prefix; joined = h.joined; encoded = encodes h.prefix h.encoded })
  fewer_found (Err e) h = tt

  all_taken : (read : Result (Unit {0}) DeserializeError) → FoundNext read → IsErrOf read cut_off → new ≡ []
  all_taken read h is = let e = subst FoundNext is h in e.shows.all refl

  only_end : (read : Result (Unit {0}) DeserializeError) → FoundNext read → ¬ IsErrOf read errors.HeapFull → count ≡ 0 → old ≡ [] → EndsOnly cut_off SaysNothing read
  only_end (Ok x) h lean few none = absurd (omega (arith, fewer_found (Ok x) h, ap length none))
  only_end (Err e) h lean few none = only_error v old new count e h (λ is. lean (ap (λ (z : DeserializeError). Err z) is)) few none

pub steps_found : {S : Type 0} (source : Ghosts S) {source_old source_new : S} {old new : BlockReader} {document : CompactDoc} {count : ℕ} {May : DeserializeError → ℕ → Type 0} {read : Result (Unit {0}) DeserializeError} {result : Result Bool DeserializeError} (v : Version) (Is : List ℕ → Type 0)
    → old.failed ≡ false → FinishesBlock cut_off (record old { document = document }) new read count result → ((b : List ℕ) → Is b → IsDocumentEncoding v b)
    → FindsIf May source.is_known source.left source.failures source_old 0 source_new count read (λ b _. Is b) (NoDocument v) → (source.is_known source_old → source.left source_old ≡ [] → ¬ IsErrOf read errors.HeapFull)
    → StepsBlock SaysNothing errors.AlreadyFailed source source_old source_new old new result
steps_found source {source_old = source_old} {source_new = source_new} {count = count} {read = read} v Is live f encodes h lean =
    steps_block SaysNothing errors.AlreadyFailed source live f h.taken (λ known. fewer_found v Is encodes (source.left source_old) (source.left source_new) count read (h.found known)) (λ known. all_taken v Is encodes (source.left source_old) (source.left source_new) count read (h.found known))
    (λ known none. only_end v Is encodes (source.left source_old) (source.left source_new) count read (h.found known) (lean known none) (no_more (source.left source_old) (source.left source_new) count (h.taken known) none) none)
