-- Two calls that read the same bytes within the same limits return and leave the same.
use Rattle.std.proofs.Common.{◌≡◌, ◌≢◌, ◌⊎◌, ℕ, ◌≤◌, Bool, true, false, List, [], ◌∷◌, ◌++◌, length, Option, Some, None, Result, Ok, Err, refl, sym, ◌∙◌, ap, subst, arith, inl, inr, append-nil, length-append}
use Rattle.std.proofs.lemmas.List.{append_cancel_left}
use Rattle.std.specs.Prelude.{IsErrOf}
use Rattle.tv_base.specs.declared.cause.Cause.TheVariants.{UnexpectedEnd}
use Rattle.tv_base.specs.declared.source.ByteSource.{Ghosts}
use Rattle.tv_base.specs.Parts.{Begins}
use Rattle.tv_base.specs.ReadsAs.{EndsEarly, Known, Shows}
use Rattle.tv_doc.specs.Document.{document_of}
use Rattle.tv_doc.specs.declared.document.CompactDoc.{CompactDoc}
use Rattle.tv_format.specs.Encoding.{EncodesDocument}
use Rattle.tv_format.specs.InputError.{Refusal, corrupted}
use Rattle.tv_format.specs.Tree.{Document}
use Rattle.tv_format.specs.Version.{Version}
use Rattle.tv_reader.specs.Error.{IsRefusal}
use Rattle.tv_reader.specs.Error.IsRefusal.{is_corrupted}
use Rattle.tv_reader.specs.Legacy.{Legacy}
use Rattle.tv_reader.specs.Version.{version_of}
use Rattle.tv_reader.specs.declared.error.DeserializeError.{DeserializeError}
use Rattle.tv_reader.specs.declared.error.DeserializeError.TheVariants as errors
use Rattle.tv_store.proofs.Alike.{counted_alike, one_refusal, refused, same_error}
use Rattle.tv_store.proofs.BlocksWithin.{same_most}
use Rattle.tv_store.proofs.Projections.{refused_within, shown_within}
use Rattle.tv_store.proofs.Promises.{excluded, single_documents}
use Rattle.tv_store.proofs.Resuming.{reads_live}
use Rattle.tv_store.proofs.Standing.{Cut, cut, is_end, left_alike, longer_one, shorter, stands_document}
use Rattle.tv_store.specs.Alike.{AreAlikeWithin, AreCountedAlike, AreNextAlikeWithin, IsDecidedWithin, NeedsMore, ReadsDecidedWithin}
use Rattle.tv_store.specs.Blocks.{SaysNothingWithin, as_read_within}
use Rattle.tv_store.specs.BlockSteps.{StepsBlock}
use Rattle.tv_store.specs.Documents.{NoDocument}
use Rattle.tv_store.specs.Limits.{IsAll, IsPast, ReadsWithin, StopsNextWithin, StopsWithin, TakenWithin, has_come, within}
use Rattle.tv_store.specs.declared.block.BlockReader.{BlockReader}
use Rattle.tv_store.specs.declared.limits.LimitedReadError.{LimitedReadError}
use Rattle.tv_store.specs.declared.limits.LimitedReadError.TheVariants as limited
use Rattle.tv_store.specs.declared.limits.ReadLimit.{ReadLimit}
use Rattle.tv_store.specs.declared.limits.ReadLimit.TheVariants as limit
use Rattle.tv_store.specs.declared.limits.ReadLimits.{ReadLimits}

-- ---- how much was taken

none_of : (m : List ℕ) → length m ≡ 0 → m ≡ []
none_of [] is = refl
none_of (b ∷ m) is = absurd (omega (arith, is))

-- as much was taken as the limit is
one_most : (most : Option ℕ) (n m : ℕ) → most ≡ Some n → most ≡ Some m → n ≡ m
one_most most n m one other = let both : Some n ≡ Some m = sym one ∙ other in cc

not_past : (most : Option ℕ) (n m : ℕ) → most ≡ Some m → ¬ IsPast most n → n ≤ m
not_past None n m is small = absurd (cc)
not_past (Some k) n m is small = let same : k ≡ m = cc in omega (arith, same, small)

same_length : (a b x y : List ℕ) → a ++ x ≡ b ++ y → length a ≡ length b → x ≡ y
same_length a b x y joined same = by_cut (cut a b x y joined)
  where
    by_cut : Cut a b x y → x ≡ y
    by_cut (shorter m is left) = left ∙ ap (λ (l : List ℕ). l ++ y) (none_of m (omega (arith, same, ap length is, length-append a m)))
    by_cut (longer_one m is left) = sym (left ∙ ap (λ (l : List ℕ). l ++ x) (none_of m (omega (arith, same, ap length is, length-append b m))))

-- ---- what is answered of the bytes

-- a document, or why there is none, as far as the bytes decide it
abbrev pub Outcome : {X : Type 0} → Version → Option ℕ → (X → Document) → List ℕ → List ℕ → Result X LimitedReadError → Type 0
Outcome v most view bytes left (Ok x) = Begins (λ b. EncodesDocument Legacy v b (view x)) bytes left
Outcome v most view bytes left (Err (limited.Read e)) = (r : Refusal) × IsRefusal e r × NoDocument v bytes r × Shows (corrupted UnexpectedEnd) (NoDocument v) bytes left r
Outcome v most view bytes left (Err (limited.Limit limit.Bytes)) = Begins (IsAll most) bytes left × EndsEarly (corrupted UnexpectedEnd) (NoDocument v) bytes left
Outcome v most view bytes left (Err (limited.Limit passed)) = ⊥

-- and no more bytes were taken than may be
pub record Answered {X : Type 0} (v : Version) (most : Option ℕ) (view : X → Document) (bytes left : List ℕ) (result : Result X LimitedReadError) : Type 0 where
  pub few : Begins (λ b. ¬ IsPast most (length b)) bytes left
  pub outcome : Outcome v most view bytes left result

module _ (v : Version) (most : Option ℕ) (bytes : List ℕ) where
  -- all that may be taken was, and a document needs more
  record TookAll (left : List ℕ) : Type 0 where
    taken : List ℕ
    joined : bytes ≡ taken ++ left
    most_is : most ≡ Some (length taken)
    ends : NoDocument v taken (corrupted UnexpectedEnd)

  took_all : (left : List ℕ) → Begins (IsAll most) bytes left × EndsEarly (corrupted UnexpectedEnd) (NoDocument v) bytes left → TookAll left
  took_all left h =
      let all = h.0 in
      let early = h.1 in
      let same : length all.prefix ≡ length early.taken = omega (arith, ap length all.joined, ap length early.joined, length-append all.prefix left, length-append early.taken left) in
      record { taken = early.taken; joined = early.joined; most_is = all.encoded ∙ ap (λ (n : ℕ). Some n) same; ends = early.shown }

  -- no more was taken than that
  few_of : (left other taken : List ℕ) → bytes ≡ taken ++ left → Begins (λ b. ¬ IsPast most (length b)) bytes left → (all : TookAll other) → length taken ≤ length all.taken
  few_of left other taken joined few all =
      let same : length few.prefix ≡ length taken = omega (arith, ap length few.joined, ap length joined, length-append few.prefix left, length-append taken left) in
      not_past most (length taken) (length all.taken) all.most_is (subst (λ (n : ℕ). ¬ IsPast most n) same few.encoded)

  -- a document doesn't need more than what was taken for it
  none_needs_more : (d : Document) (left other : List ℕ) → Begins (λ b. EncodesDocument Legacy v b d) bytes left → Begins (λ b. ¬ IsPast most (length b)) bytes left → TookAll other → ⊥
  none_needs_more d left other f few all = by_cut (few_of left other f.prefix f.joined few all) (cut f.prefix all.taken left other (sym f.joined ∙ all.joined))
    where
      by_cut : length f.prefix ≤ length all.taken → Cut f.prefix all.taken left other → ⊥
      by_cut small (shorter m is rest) = excluded v all.taken f.prefix m d (corrupted UnexpectedEnd) is f.encoded all.ends
      by_cut small (longer_one m is rest) =
          let none : m ≡ [] = none_of m (omega (arith, small, ap length is, length-append all.taken m)) in
          let same : all.taken ≡ f.prefix = sym (append-nil all.taken) ∙ ap (λ (l : List ℕ). all.taken ++ l) (sym none) ∙ sym is in
          excluded v all.taken f.prefix [] d (corrupted UnexpectedEnd) (same ∙ sym (append-nil f.prefix)) f.encoded all.ends

  -- a refusal and that all was taken: both say that more is needed
  both_need_more : (e : DeserializeError) (r : Refusal) (left other : List ℕ) → IsRefusal e r → Shows (corrupted UnexpectedEnd) (NoDocument v) bytes left r → Begins (λ b. ¬ IsPast most (length b)) bytes left → TookAll other → NeedsMore (limited.Read e) × (left ≡ other)
  both_need_more e r left other refusal shows few all =
      let small = few_of left other shows.taken shows.joined few all in
      elim (is_end r) [
        | inl is ↦ (
          same_error e (errors.CorruptedValue UnexpectedEnd) r (corrupted UnexpectedEnd) refusal is_corrupted is,
          shows.all is ∙ sym (none_of other (omega (arith, small, ap length (shows.all is), ap length shows.joined, ap length all.joined, length-append shows.taken left, length-append all.taken other))),
        )
        | inr apart ↦ absurd (by_cut apart small (cut shows.taken all.taken left other (sym shows.joined ∙ all.joined)))
      ]
    where
      by_cut : r ≢ corrupted UnexpectedEnd → length shows.taken ≤ length all.taken → Cut shows.taken all.taken left other → ⊥
      by_cut apart small (shorter m is rest) =
          apart (one_refusal v all.taken r (corrupted UnexpectedEnd) (subst (λ (l : List ℕ). NoDocument v l r) (sym is) ((stands_document v).longer shows.taken m r apart shows.shown)) all.ends)
      by_cut apart small (longer_one m is rest) =
          let none : m ≡ [] = none_of m (omega (arith, small, ap length is, length-append all.taken m)) in
          let same : shows.taken ≡ all.taken = is ∙ ap (λ (l : List ℕ). all.taken ++ l) none ∙ append-nil all.taken in
          apart (one_refusal v all.taken r (corrupted UnexpectedEnd) (subst (λ (l : List ℕ). NoDocument v l r) same shows.shown) all.ends)

  -- what is answered of the same bytes is the same
  pub answers_alike : {X : Type 0} (view : X → Document) (left other : List ℕ) (result twin : Result X LimitedReadError) → Answered v most view bytes left result → Answered v most view bytes other twin → AreAlikeWithin view left other result twin
  answers_alike view left other (Ok x) (Ok y) first second =
      let f = first.outcome in
      let g = second.outcome in
      let both : f.prefix ++ left ≡ g.prefix ++ other = sym f.joined ∙ g.joined in
      let same = (single_documents v bytes).same f.prefix g.prefix left other (view x) (view y) f.encoded g.encoded both in
      (same.1, append_cancel_left g.prefix left other (ap (λ (l : List ℕ). l ++ left) (sym same.0) ∙ both))
  answers_alike view left other (Ok x) (Err (limited.Read e)) first second = let f = first.outcome in absurd (excluded v bytes f.prefix left (view x) second.outcome.0 f.joined f.encoded second.outcome.2)
  answers_alike view left other (Err (limited.Read e)) (Ok y) first second = let g = second.outcome in absurd (excluded v bytes g.prefix other (view y) first.outcome.0 g.joined g.encoded first.outcome.2)
  answers_alike view left other (Ok x) (Err (limited.Limit limit.Bytes)) first second = absurd (none_needs_more (view x) left other first.outcome first.few (took_all other second.outcome))
  answers_alike view left other (Err (limited.Limit limit.Bytes)) (Ok y) first second = absurd (none_needs_more (view y) other left second.outcome second.few (took_all left first.outcome))
  answers_alike view left other (Err (limited.Read e)) (Err (limited.Read f)) first second =
      let a = first.outcome in
      let b = second.outcome in
      let same = one_refusal v bytes a.0 b.0 a.2 b.2 in
      let shown = subst (λ (z : Refusal). Shows (corrupted UnexpectedEnd) (NoDocument v) bytes other z) (sym same) b.3 in
      (inl (ap limited.Read (same_error e f a.0 b.0 a.1 b.1 same)), left_alike (stands_document v) (one_refusal v) a.0 bytes left other a.3 shown)
  answers_alike view left other (Err (limited.Read e)) (Err (limited.Limit limit.Bytes)) first second =
      let both = both_need_more e first.outcome.0 left other first.outcome.1 first.outcome.3 first.few (took_all other second.outcome) in
      (inr (both.0, tt), both.1)
  answers_alike view left other (Err (limited.Limit limit.Bytes)) (Err (limited.Read f)) first second =
      let both = both_need_more f second.outcome.0 other left second.outcome.1 second.outcome.3 second.few (took_all left first.outcome) in
      (inr (tt, both.0), sym both.1)
  answers_alike view left other (Err (limited.Limit limit.Bytes)) (Err (limited.Limit limit.Bytes)) first second =
      let a = took_all left first.outcome in
      let b = took_all other second.outcome in
      (inl refl, same_length a.taken b.taken left other (sym a.joined ∙ b.joined) (one_most most (length a.taken) (length b.taken) a.most_is b.most_is))
  answers_alike view left other (Err (limited.Limit limit.HeapBytes)) twin first second = absurd first.outcome
  answers_alike view left other (Err (limited.Limit limit.Depth)) twin first second = absurd first.outcome
  answers_alike view left other result (Err (limited.Limit limit.HeapBytes)) first second = absurd second.outcome
  answers_alike view left other result (Err (limited.Limit limit.Depth)) first second = absurd second.outcome

-- ---- a document

module _ {S : Type 0} (source : Ghosts S) (v : Version) (limits : ReadLimits) (old : S) (known : Known source old) where
  outcome : (new : S) (result : Result CompactDoc LimitedReadError) → IsDecidedWithin result → ReadsWithin v limits source old new result → StopsWithin v limits source old new result → Outcome v limits.bytes document_of (source.left old) (source.left new) result
  outcome new (Ok x) decided reads stops = reads.found known.0
  outcome new (Err (limited.Read e)) decided reads stops =
      let r = refused e reads.errors decided in
      (r.0, r.1, refused_within v limits known.0 known.1 reads e r.0 refl r.1, shown_within v limits known.0 known.1 reads e r.0 refl r.1)
  outcome new (Err (limited.Limit limit.Bytes)) decided reads stops = (stops.bytes known.0 refl, stops.ends known.0 refl)
  outcome new (Err (limited.Limit limit.HeapBytes)) decided reads stops = absurd decided
  outcome new (Err (limited.Limit limit.Depth)) decided reads stops = absurd decided

  answered : (new : S) (result : Result CompactDoc LimitedReadError) → IsDecidedWithin result → ReadsWithin v limits source old new result → StopsWithin v limits source old new result → Answered v limits.bytes document_of (source.left old) (source.left new) result
  answered new result decided reads stops = record { few = stops.most known.0; outcome = outcome new result decided reads stops }

  pub alike_within : (new other : S) (result twin : Result CompactDoc LimitedReadError) → IsDecidedWithin result → IsDecidedWithin twin → ReadsWithin v limits source old new result → StopsWithin v limits source old new result → ReadsWithin v limits source old other twin → StopsWithin v limits source old other twin
      → AreAlikeWithin document_of (source.left new) (source.left other) result twin
  alike_within new other result twin decided too first stops second halts =
      answers_alike v limits.bytes (source.left old) document_of (source.left new) (source.left other) result twin (answered new result decided first stops) (answered other twin too second halts)

-- ---- the next document of a block

-- what is said of the next document is said of reading one
next_stops : {S : Type 0} (source : Ghosts S) (v : Version) (limits : ReadLimits) {old new : S} (result : Result Bool LimitedReadError) (document : CompactDoc) → limits.bytes ≢ Some 0 → StopsNextWithin v limits source old new result → StopsWithin v limits source old new (as_read_within result document)
next_stops source v limits {old = old} {new = new} result document some h = record {
  depth = λ known is. h.depth known (said result limit.Depth is);
  heap = λ known is. h.heap known (said result limit.HeapBytes is);
  bytes = λ known is. subst (λ (m : Option ℕ). Begins (IsAll m) (source.left old) (source.left new)) (same_most limits.bytes some) (h.bytes known (said result limit.Bytes is)).0;
  ends = λ known is. (h.bytes known (said result limit.Bytes is)).1 some;
  most = λ known. subst (λ (m : Option ℕ). Begins (λ b. ¬ IsPast m (length b)) (source.left old) (source.left new)) (same_most limits.bytes some) (h.most known);
  parts = λ known. subst (λ (b : Bool). Begins (TakenWithin v limits b) (source.left old) (source.left new)) (whole_said result) (h.parts known);
}
  where
    said : (result : Result Bool LimitedReadError) (l : ReadLimit) → IsErrOf (as_read_within result document) (limited.Limit l) → IsErrOf result (limited.Limit l)
    said (Ok true) l is = absurd (cc)
    said (Ok false) l is = absurd (cc)
    said (Err e) l is = let same : e ≡ limited.Limit l = cc in ap (λ (z : LimitedReadError). Err z) same

    whole_said : (result : Result Bool LimitedReadError) → has_come (as_read_within result (tt {0})) ≡ has_come (as_read_within result document)
    whole_said (Ok true) = refl
    whole_said (Ok false) = refl
    whole_said (Err e) = refl

within_decided : (result : Result Bool LimitedReadError) (document : CompactDoc) → IsDecidedWithin result → IsDecidedWithin (as_read_within result document)
within_decided (Ok true) document decided = tt
within_decided (Ok false) document decided = (λ says. says, λ same. cc)
within_decided (Err (limited.Read e)) document decided = decided
within_decided (Err (limited.Limit limit.Bytes)) document decided = tt
within_decided (Err (limited.Limit limit.HeapBytes)) document decided = absurd decided
within_decided (Err (limited.Limit limit.Depth)) document decided = absurd decided

pub nothing_decided : (e : LimitedReadError) → IsDecidedWithin {X = Bool} (Err e) → SaysNothingWithin e → ⊥
nothing_decided (limited.Read e) decided says = decided.0 says
nothing_decided (limited.Limit l) decided says = says

-- two errors are counted alike
pub errors_counted : {S E : Type 0} {MayCome : E → Type 0} {again : E} (source : Ghosts S) (begun ended other : S) (old reader twin : BlockReader) (e f : E) → old.failed ≡ false → source.is_known begun → source.left ended ≡ source.left other
    → StepsBlock MayCome again source begun ended old reader (Err e) → StepsBlock MayCome again source begun other old twin (Err f) → AreCountedAlike reader twin
errors_counted source begun ended other old reader twin e f live known same first second =
    let t = first.taken live known in
    let u = second.taken live known in
    record {
      documents = first.counted.documents ∙ sym second.counted.documents;
      start = first.counted.start ∙ sym second.counted.start;
      taken = omega (arith, t.counted, u.counted, ap length t.joined, ap length u.joined, ap length same, length-append t.prefix (source.left ended), length-append u.prefix (source.left other));
      failed = first.marked ∙ sym second.marked;
    }

module _ {S : Type 0} (limits : ReadLimits) (source : Ghosts S) (begun ended other : S) (old reader twin : BlockReader) (some : limits.bytes ≢ Some 0) where
  -- the end isn't taken for a document that is cut off
  no_cut : {ended other : S} {reader twin : BlockReader} (e : LimitedReadError) → ReadsDecidedWithin limits source begun ended old reader (Ok false) → ReadsDecidedWithin limits source begun other old twin (Err e) → ⊥
  no_cut e first second = nothing_decided e second.decided (second.steps.ended second.not_failed first.known.0 (first.steps.end first.not_failed first.known.0 refl))

  by_results : (result answer : Result Bool LimitedReadError) → ReadsDecidedWithin limits source begun ended old reader result → ReadsDecidedWithin limits source begun other old twin answer
      → AreAlikeWithin document_of (source.left ended) (source.left other) (as_read_within result reader.document) (as_read_within answer twin.document) → AreNextAlikeWithin (source.left ended) (source.left other) reader twin result answer
  by_results (Ok true) (Ok true) first second same =
      record { same = inl refl; document = λ _. same.0; rest = same.1; counts = counted_alike source begun ended other old reader twin (Ok true) first.not_failed first.known.0 same.1 first.steps second.steps }
  by_results (Ok false) (Ok false) first second same =
      record { same = inl refl; document = λ is. absurd (cc); rest = same.1; counts = counted_alike source begun ended other old reader twin (Ok false) first.not_failed first.known.0 same.1 first.steps second.steps }
  by_results (Err e) (Err f) first second same = record { same = by_errors same.0; document = λ is. absurd (cc); rest = same.1; counts = errors_counted source begun ended other old reader twin e f first.not_failed first.known.0 same.1 first.steps second.steps }
    where
      by_errors : (e ≡ f) ⊎ (NeedsMore e × NeedsMore f) → (◌≡◌ {A = Result Bool LimitedReadError} (Err e) (Err f)) ⊎ (NeedsMore e × NeedsMore f)
      by_errors (inl is) = inl (ap (λ (z : LimitedReadError). Err z) is)
      by_errors (inr both) = inr both
  by_results (Ok true) (Ok false) first second same = absurd same
  by_results (Ok false) (Ok true) first second same = absurd same
  by_results (Ok true) (Err e) first second same = absurd same
  by_results (Err e) (Ok true) first second same = absurd same
  by_results (Ok false) (Err e) first second same = absurd (no_cut e first second)
  by_results (Err e) (Ok false) first second same = absurd (no_cut e second first)

  pub nexts_alike_within : (result answer : Result Bool LimitedReadError) → ReadsDecidedWithin limits source begun ended old reader result → ReadsDecidedWithin limits source begun other old twin answer → AreNextAlikeWithin (source.left ended) (source.left other) reader twin result answer
  nexts_alike_within result answer first second =
      let v = version_of old.version in
      by_results result answer first second
      (alike_within source v limits begun first.known ended other (as_read_within result reader.document) (as_read_within answer twin.document) (within_decided result reader.document first.decided) (within_decided answer twin.document second.decided)
      (reads_live (within limits) (limited.Read errors.AlreadyFailed) first.not_failed first.reads) (next_stops source v limits result reader.document some first.stops)
      (reads_live (within limits) (limited.Read errors.AlreadyFailed) second.not_failed second.reads) (next_stops source v limits answer twin.document some second.stops))
