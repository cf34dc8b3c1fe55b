-- Two calls that read the same bytes return and leave the same.
use Rattle.std.proofs.Common.{◌≡◌, ℕ, ◌+◌, ◌-◌, ◌^◌, min, Bool, true, false, List, ◌++◌, length, Some, Result, Ok, Err, refl, sym, ◌∙◌, ap, subst, arith, length-append}
use Rattle.std.specs.Prelude.{OnErr, OnOk}
use Rattle.std.proofs.lemmas.List.{append_cancel_left}
use Rattle.tv_base.specs.declared.cause.Cause.TheVariants.{UnexpectedEnd}
use Rattle.tv_base.specs.declared.source.ByteSource.{Ghosts}
use Rattle.tv_base.specs.ReadsAs.{Grammar, Known, Reads, Shows}
use Rattle.tv_format.specs.InputError.{Refusal, corrupted, no_text_key}
use Rattle.tv_format.specs.Version.{Version}
use Rattle.tv_format.proofs.SingleTrees.{single_document, value_single}
use Rattle.tv_reader.specs.Error.{IsRefusal}
use Rattle.tv_reader.specs.Error.IsRefusal.{is_corrupted, is_no_text}
use Rattle.tv_reader.specs.Legacy.{Legacy, ErrorInLegacy}
use Rattle.tv_reader.specs.Trees.{NoValue}
use Rattle.tv_reader.specs.ValueType.{value_type_code, value_type_with}
use Rattle.tv_reader.specs.Version.{version_of}
use Rattle.tv_reader.specs.declared.error.DeserializeError.{DeserializeError}
use Rattle.tv_reader.specs.declared.error.DeserializeError.TheVariants as errors
use Rattle.tv_reader.specs.declared.value_type.ValueType.{ValueType}
use Rattle.tv_reader.specs.declared.value_type.ValueType.TheVariants as types
use Rattle.tv_reader.proofs.UniqueLegacy.{one_legacy, legacy_excludes, single_legacy}
use Rattle.tv_reading.specs.Skip.{IsDocumentEncoding, IsValueEncoding}
use Rattle.tv_store.proofs.Promises.{IsSingle, refusal_is_shown, refusal_is_true, single_chosen, single_documents, single_passed, single_values}
use Rattle.tv_store.proofs.Resuming.{reads_live}
use Rattle.tv_store.proofs.Standing.{Stands, left_alike, stands_document, stands_value}
use Rattle.tv_store.specs.Alike.{AreAlike, AreCountedAlike, AreNextAlike, IsDecided, IsDecidedError, ReadsDecided}
use Rattle.tv_store.specs.Blocks.{as_read}
use Rattle.tv_store.specs.BlockSteps.{CountsNext, StepsBlock}
use Rattle.tv_store.specs.Documents.{IsReadingError, NoDocument, SaysNothing}
use Rattle.tv_store.specs.Reading.{chosen_pairs, documents, passed, reading}
use Rattle.tv_store.specs.declared.block.BlockReader.{BlockReader}
use Rattle.tv_value.specs.declared.field.Field.{Field}

-- ---- one error for one refusal

code_back : (kind : ValueType) → value_type_with (value_type_code kind) ≡ Some kind
code_back types.String = refl
code_back types.U64 = refl
code_back types.I64 = refl
code_back types.Facet = refl
code_back types.Bytes = refl
code_back types.DateTime = refl
code_back types.PreTokStr = refl
code_back types.JSONObject = refl
code_back types.Bool = refl
code_back types.IpAddr = refl
code_back types.Null = refl
code_back types.Array = refl
code_back types.Object = refl

same_kind : (a b : ValueType) → value_type_code a ≡ value_type_code b → a ≡ b
same_kind a b same = let both : Some a ≡ Some b = sym (code_back a) ∙ ap value_type_with same ∙ code_back b in cc

pub same_error : (e f : DeserializeError) (r s : Refusal) → IsRefusal e r → IsRefusal f s → r ≡ s → e ≡ f
same_error _ _ _ _ (is_corrupted {c = c}) (is_corrupted {c = d}) same = let causes : c ≡ d = cc in ap errors.CorruptedValue causes
same_error _ _ _ _ (is_no_text {actual = a}) (is_no_text {actual = b}) same = let codes : value_type_code a ≡ value_type_code b = cc in ap (errors.TypeMismatch types.String) (same_kind a b codes)
same_error _ _ _ _ is_corrupted is_no_text same = absurd (cc)
same_error _ _ _ _ is_no_text is_corrupted same = absurd (cc)

-- what the bytes decide is a refusal
pub refused : (e : DeserializeError) → IsReadingError e → IsDecidedError e → (r : Refusal) × IsRefusal e r
refused (errors.CorruptedValue c) may decided = (corrupted c, is_corrupted)
refused (errors.TypeMismatch expected actual) may decided = subst (λ z. (r : Refusal) × IsRefusal (errors.TypeMismatch z actual) r) (sym may) (no_text_key (value_type_code actual), is_no_text)
refused errors.HeapFull may decided = absurd (decided.1 refl)
refused (errors.Io k) may decided = absurd (decided.0 tt)
refused errors.Memory may decided = absurd (decided.0 tt)
refused _ may decided = absurd may

-- what is read by a grammar is one thing of any bytes, or one refusal, which stands whatever follows them
pub record IsDetermined {Y : Type 0} (grammar : Grammar Refusal Y) : Type 0 where
  pub single : (bytes : List ℕ) → IsSingle grammar bytes
  pub one : (bytes : List ℕ) (r s : Refusal) → grammar.HasError bytes r → grammar.HasError bytes s → r ≡ s
  pub stands : Stands (corrupted UnexpectedEnd) grammar.HasError

pub one_refusal : (v : Version) (bytes : List ℕ) (r s : Refusal) → NoDocument v bytes r → NoDocument v bytes s → r ≡ s
one_refusal v bytes r s f h = (single_document Legacy ErrorInLegacy v one_legacy legacy_excludes single_legacy).single bytes r s f h

pub determined_documents : (v : Version) → IsDetermined (documents v)
determined_documents v = record { single = single_documents v; one = one_refusal v; stands = stands_document v }

pub determined_chosen : (fields : List Field) (v : Version) → IsDetermined (chosen_pairs v fields)
determined_chosen fields v = record { single = single_chosen v fields; one = one_refusal v; stands = stands_document v }

pub determined_passed : (v : Version) → IsDetermined (passed (IsDocumentEncoding v) (NoDocument v))
determined_passed v = record { single = single_passed v; one = one_refusal v; stands = stands_document v }

pub determined_values : (v : Version) → IsDetermined (passed (IsValueEncoding v) (NoValue v))
determined_values v = record { single = single_values v; one = λ bytes r s f h. value_single Legacy ErrorInLegacy v one_legacy legacy_excludes single_legacy f refl h; stands = stands_value v }

module _ {S X Y : Type 0} (grammar : Grammar Refusal Y) (source : Ghosts S) (view : X → Y) (old : S) (determined : IsDetermined grammar) (known : Known source old) where
  -- an error that the bytes decide comes only where nothing is encoded
  no_other : (x : X) (e : DeserializeError) (new other : S) → IsDecidedError e → Reads reading grammar source old new view (Ok x) → Reads reading grammar source old other view (Err e) → ⊥
  no_other x e new other decided found failed =
      let f = found.found known.0 in
      let r = refused e failed.errors decided in
      (determined.single (source.left old)).excludes f.prefix (source.left new) (view x) r.0 f.joined f.encoded (refusal_is_true known failed e r.0 refl r.1)

  -- two errors that the bytes decide are one, which the same bytes show
  same_refusal : (e f : DeserializeError) (new other : S) → IsDecidedError e → IsDecidedError f → Reads reading grammar source old new view (Err e) → Reads reading grammar source old other view (Err f) → (e ≡ f) × (source.left new ≡ source.left other)
  same_refusal e f new other decided too first second =
      let r = refused e first.errors decided in
      let s = refused f second.errors too in
      let same = determined.one (source.left old) r.0 s.0 (refusal_is_true known first e r.0 refl r.1) (refusal_is_true known second f s.0 refl s.1) in
      let shown = subst (λ (z : Refusal). Shows (corrupted UnexpectedEnd) grammar.HasError (source.left old) (source.left other) z) (sym same) (refusal_is_shown known second f s.0 refl s.1) in
      (same_error e f r.0 s.0 r.1 s.1 same, left_alike determined.stands determined.one r.0 (source.left old) (source.left new) (source.left other) (refusal_is_shown known first e r.0 refl r.1) shown)

  pub alike : (new other : S) (result twin : Result X DeserializeError) → IsDecided result → IsDecided twin → Reads reading grammar source old new view result → Reads reading grammar source old other view twin → AreAlike view (source.left new) (source.left other) result twin
  alike new other (Ok x) (Ok y) decided too first second =
      let f = first.found known.0 in
      let g = second.found known.0 in
      let both : f.prefix ++ source.left new ≡ g.prefix ++ source.left other = sym f.joined ∙ g.joined in
      let same = (determined.single (source.left old)).same f.prefix g.prefix (source.left new) (source.left other) (view x) (view y) f.encoded g.encoded both in
      (same.1, append_cancel_left g.prefix (source.left new) (source.left other) (ap (λ (l : List ℕ). l ++ source.left new) (sym same.0) ∙ both))
  alike new other (Ok x) (Err e) decided too first second = absurd (no_other x e new other too first second)
  alike new other (Err e) (Ok x) decided too first second = absurd (no_other x e other new decided second first)
  alike new other (Err e) (Err f) decided too first second = same_refusal e f new other decided too first second

-- ---- the next document of a block

read_decided : {D : Type 0} (result : Result Bool DeserializeError) (document : D) → IsDecided result → IsDecided (as_read result document)
read_decided (Ok true) document decided = tt
read_decided (Ok false) document decided = (λ says. says, λ same. cc)
read_decided (Err e) document decided = decided

-- what was counted, by what was returned and what is left
pub counted_alike : {S E : Type 0} {MayCome : E → Type 0} {again : E} (source : Ghosts S) (begun ended other : S) (old reader twin : BlockReader) (result : Result Bool E) → old.failed ≡ false → source.is_known begun → source.left ended ≡ source.left other
    → StepsBlock MayCome again source begun ended old reader result → StepsBlock MayCome again source begun other old twin result → AreCountedAlike reader twin
counted_alike {E = E} source begun ended other old reader twin result live known same first second =
    let t = first.taken live known in
    let u = second.taken live known in
    let taken : reader.taken ≡ twin.taken = omega (arith, t.counted, u.counted, ap length t.joined, ap length u.joined, ap length same, length-append t.prefix (source.left ended), length-append u.prefix (source.left other)) in
    by_result taken result first.not_failed second.not_failed first.marked second.marked first.counted second.counted
  where
    by_result : reader.taken ≡ twin.taken → (result : Result Bool E) → OnOk result (reader.failed ≡ false) → OnOk result (twin.failed ≡ false) → OnErr result (reader.failed ≡ true) → OnErr result (twin.failed ≡ true) → CountsNext old reader result → CountsNext old twin result → AreCountedAlike reader twin
    by_result taken (Ok true) live lives failed fails counts also = record {
      documents = counts.documents ∙ sym also.documents;
      start = counts.start ∙ ap (λ (n : ℕ). min (old.start + n) (2 ^ 64 - 1)) taken ∙ sym also.start;
      taken = taken;
      failed = live ∙ sym lives;
    }
    by_result taken (Ok false) live lives failed fails counts also = record { documents = counts.documents ∙ sym also.documents; start = counts.start ∙ sym also.start; taken = taken; failed = live ∙ sym lives }
    by_result taken (Err e) live lives failed fails counts also = record { documents = counts.documents ∙ sym also.documents; start = counts.start ∙ sym also.start; taken = taken; failed = failed ∙ sym fails }

module _ {S D Y : Type 0} (grammar : Version → Grammar Refusal Y) (source : Ghosts S) (view : D → Y) (begun ended other : S) (old reader twin : BlockReader) (kept second_kept : D) where
  -- the end isn't taken for a document that is cut off
  no_cut : (begun ended other : S) (reader twin : BlockReader) (kept second_kept : D) (e : DeserializeError) → ReadsDecided grammar source view begun ended old reader (Ok false) kept → ReadsDecided grammar source view begun other old twin (Err e) second_kept → ⊥
  no_cut begun ended other reader twin kept second_kept e first second = second.decided.0 (second.steps.ended second.not_failed first.known.0 (first.steps.end first.not_failed first.known.0 refl))

  next_alike : (result answer : Result Bool DeserializeError) → ReadsDecided grammar source view begun ended old reader result kept → ReadsDecided grammar source view begun other old twin answer second_kept
      → AreAlike view (source.left ended) (source.left other) (as_read result kept) (as_read answer second_kept) → AreNextAlike view (source.left ended) (source.left other) reader twin result answer kept second_kept
  next_alike (Ok true) (Ok true) first second same =
      record { same = refl; document = λ _. same.0; rest = same.1; counts = counted_alike source begun ended other old reader twin (Ok true) first.not_failed first.known.0 same.1 first.steps second.steps }
  next_alike (Ok false) (Ok false) first second same =
      record { same = refl; document = λ is. absurd (cc); rest = same.1; counts = counted_alike source begun ended other old reader twin (Ok false) first.not_failed first.known.0 same.1 first.steps second.steps }
  next_alike (Err e) (Err f) first second same =
      let also = subst (λ (z : DeserializeError). StepsBlock SaysNothing errors.AlreadyFailed source begun other old twin (Err z)) (sym same.0) second.steps in
      record { same = ap (λ (z : DeserializeError). Err z) same.0; document = λ is. absurd (cc); rest = same.1; counts = counted_alike source begun ended other old reader twin (Err e) first.not_failed first.known.0 same.1 first.steps also }
  next_alike (Ok true) (Ok false) first second same = absurd same
  next_alike (Ok false) (Ok true) first second same = absurd same
  next_alike (Ok true) (Err e) first second same = absurd same
  next_alike (Err e) (Ok true) first second same = absurd same
  next_alike (Ok false) (Err e) first second same = absurd (no_cut begun ended other reader twin kept second_kept e first second)
  next_alike (Err e) (Ok false) first second same = absurd (no_cut begun other ended twin reader second_kept kept e second first)

  pub nexts_alike : ((v : Version) → IsDetermined (grammar v)) → (result answer : Result Bool DeserializeError) → ReadsDecided grammar source view begun ended old reader result kept → ReadsDecided grammar source view begun other old twin answer second_kept
      → AreNextAlike view (source.left ended) (source.left other) reader twin result answer kept second_kept
  nexts_alike determined result answer first second =
      next_alike result answer first second
      (alike (grammar (version_of old.version)) source view begun (determined (version_of old.version)) first.known ended other (as_read result kept) (as_read answer second_kept) (read_decided result kept first.decided) (read_decided answer second_kept second.decided)
      (reads_live reading errors.AlreadyFailed first.not_failed first.reads) (reads_live reading errors.AlreadyFailed second.not_failed second.reads))
