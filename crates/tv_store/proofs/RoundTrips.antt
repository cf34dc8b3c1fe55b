-- What is kept of values that are added one after the other, and what reading back can return.
use Rattle.std.proofs.Common.{◌≡◌, ◌⊎◌, inl, inr, ℕ, zero, suc, ◌+◌, ◌<◌, ◌≤◌, List, [], ◌∷◌, ◌++◌, length, map, Option, Result, Ok, Err, Some, None, refl, sym, ◌∙◌, ap, subst, append_assoc, arith}
use Rattle.std.specs.Prelude.{slice_get}
use Rattle.std.specs.List.{AllByRecursion}
use Rattle.std.proofs.lemmas.List.{length-map, map-append}
use Rattle.tv_base.specs.Source.{Failures}
use Rattle.tv_base.specs.declared.cause.Cause.TheVariants.{UnexpectedEnd, TooLong}
use Rattle.tv_base.specs.Stop.{CountsStop}
use Rattle.tv_base.specs.Stop.Stop.{InputError, Uncounted}
use Rattle.tv_doc.specs.Additions.{Addition, Runs, accepted_pairs, pair_of, IsEmpty}
use Rattle.tv_doc.specs.Belongs.{Belongs}
use Rattle.tv_doc.specs.Document.{document_of, places_of, Adds, IsUnchanged, ReadsAt}
use Rattle.tv_builder.specs.declared.errors.AddError.{AddError}
use Rattle.tv_builder.specs.declared.errors.AddError.TheVariants as adds
use Rattle.tv_doc.specs.declared.document.CompactDoc.{CompactDoc}
use Rattle.tv_builder.specs.declared.heap_pairs.HeapPair.{HeapPair}
use Rattle.tv_doc.proofs.Additions.{runs_keep, unchanged_same, unchanged_from, adds_from}
use Rattle.tv_builder.specs.TreeBytes.{document_heap}
use Rattle.tv_builder.proofs.Documents.{read_at, none_at, place_at, no_place}
use Rattle.tv_field.specs.Entry.{Entry}
use Rattle.tv_heap.specs.Room.{room, document_room}
use Rattle.tv_heap.proofs.ListRooms.{document_room-cons}
use Rattle.tv_reader.specs.Error.{store_stop}
use Rattle.tv_reader.specs.ValueType.{value_type_code}
use Rattle.tv_reader.specs.declared.error.DeserializeError.{DeserializeError}
use Rattle.tv_reader.specs.declared.error.DeserializeError.TheVariants as errors
use Rattle.tv_reader.specs.declared.value_type.ValueType.TheVariants as types
use Rattle.tv_store.specs.Documents.{IsReadingError, SaysNothing}
use Rattle.tv_store.specs.RoundTrip.{AcceptsAll, AreTripsAlike, IsCalled, IsKept, IsRoundTrip, asked, pair_of_value}
use Rattle.tv_store.specs.Stored.{stored}
use Rattle.tv_store.specs.declared.round_trip.RoundTrip.{RoundTrip}
use Rattle.tv_format.specs.InputError.{Refusal, corrupted, no_text_key}
use Rattle.tv_format.specs.Short.{short_document}
use Rattle.tv_format.specs.Tree.{Tree, Document}
use Rattle.tv_format.specs.Version.{V2}
use Rattle.tv_value.specs.declared.field.Field.{Field}
use Rattle.tv_value.specs.declared.owned_value.OwnedValue.{OwnedValue}

-- ---- additions, one after the other

answer_from : (field : ℕ) (t : Tree) (answer : Result (Unit {0}) AddError) (a b c : CompactDoc) → IsUnchanged a b → Adds b c field t answer → Adds a c field t answer
answer_from field t (Ok x) a b c u h = adds_from field t a b c u h
answer_from field t (Err adds.HeapFull) a b c u h = (omega (arith, ap length u.heap, h.0), unchanged_from a b c u h.1)
answer_from field t (Err adds.Memory) a b c u h = (omega (arith, ap length u.heap, h.0), unchanged_from a b c u h.1)

runs_push : (additions : List Addition) (a : Addition) (old mid new : CompactDoc) → Runs additions old mid → Adds mid new a.field a.tree a.answer → Runs (additions ++ a ∷ []) old new
runs_push [] a old mid new same h = (new, answer_from a.field a.tree a.answer old mid new same h, unchanged_same new)
runs_push (b ∷ bs) a old mid new run h = (run.0, run.1, runs_push bs a run.0 mid new run.2 h)

-- some values were added, and the rest are to come
pub record CalledSoFar (values rest : List (Field × OwnedValue)) (old now : CompactDoc) : Type 0 where
  pub additions : List Addition
  pub asked_for : map asked additions ++ map pair_of_value rest ≡ map pair_of_value values
  pub runs : Runs additions old now

pub one_called : (values rest others : List (Field × OwnedValue)) (value : Field × OwnedValue) (old now next : CompactDoc) (answer : Result (Unit {0}) AddError) → CalledSoFar values rest old now → rest ≡ value ∷ others
    → Adds now next value.0.id (pair_of_value value).1 answer → CalledSoFar values others old next
one_called values rest others value old now next answer s parted h =
    let a : Addition = record { field = (pair_of_value value).0; tree = (pair_of_value value).1; answer = answer } in
    record {
      additions = s.additions ++ a ∷ [];
      asked_for =
          ap (λ l. l ++ map pair_of_value others) (map-append asked s.additions (a ∷ [])) ∙ append_assoc (map asked s.additions) (pair_of_value value ∷ []) (map pair_of_value others)
          ∙ ap (λ l. map asked s.additions ++ map pair_of_value l) (sym parted) ∙ s.asked_for;
      runs = runs_push s.additions a old now next s.runs h;
    }

pub kept_of : (values : List (Field × OwnedValue)) (start new : CompactDoc) → IsEmpty start → IsCalled values start new → IsKept values new
kept_of values start new none h = record {
  additions = h.0;
  called = h.1;
  start = start;
  empty = none;
  runs = h.2;
  document = (runs_keep h.0 start new h.2).document ∙ ap (λ d. d ++ accepted_pairs h.0) none.document;
}

-- ---- each pair is read at its place

none_within : {A : Type 0} (xs : List A) (i : ℕ) → slice_get xs i ≡ None → length xs ≤ i
none_within [] i e = omega arith
none_within (x ∷ xs) zero e = absurd (cc)
none_within (x ∷ xs) (suc i) e = omega (arith, none_within xs i e)

pub each_read : (d : CompactDoc) (i : ℕ) → ReadsAt d i (slice_get (places_of d) i)
each_read d i = by_pair (slice_get d.values.pairs.items i) refl
  where
    by_pair : (found : Option HeapPair) → slice_get d.values.pairs.items i ≡ found → ReadsAt d i (slice_get (places_of d) i)
    by_pair (Some p) e = subst (ReadsAt d i) (sym (place_at d.values.pairs.items i p e)) (read_at d.values i p e)
    by_pair None e =
        let past = none_within d.values.pairs.items i e in
        subst (ReadsAt d i) (sym (no_place d.values.pairs.items i past)) (none_at d.values i past)

-- ---- the accepted pairs are some of those that were asked for

pair_room : (answer : Result (Unit {0}) AddError) (field : ℕ) (t : Tree) (d : Document) → document_room (pair_of answer field t ++ d) ≤ room t + document_room d
pair_room (Ok x) field t d = omega (arith, document_room-cons (field, t) d)
pair_room (Err e) field t d = omega arith

accepted_room : (additions : List Addition) → document_room (accepted_pairs additions) ≤ document_room (map asked additions)
accepted_room [] = omega arith
accepted_room (a ∷ rest) = omega (arith, pair_room a.answer a.field a.tree (accepted_pairs rest), accepted_room rest, document_room-cons (asked a) (map asked rest))

pub kept_room : (values : List (Field × OwnedValue)) (new : CompactDoc) → IsKept values new → document_room (document_of new) ≤ document_room (map pair_of_value values)
kept_room values new k = omega (arith, accepted_room k.additions, ap document_room k.document, ap document_room k.called)

pair_belongs : (schema : List Entry) (answer : Result (Unit {0}) AddError) (field : ℕ) (t : Tree) (d : Document) → field < length schema → Belongs schema d → Belongs schema (pair_of answer field t ++ d)
pair_belongs schema (Ok x) field t d within h = (within, h)
pair_belongs schema (Err e) field t d within h = h

accepted_belongs : (schema : List Entry) (additions : List Addition) → Belongs schema (map asked additions) → Belongs schema (accepted_pairs additions)
accepted_belongs schema [] h = tt
accepted_belongs schema (a ∷ rest) h = pair_belongs schema a.answer a.field a.tree (accepted_pairs rest) h.0 (accepted_belongs schema rest h.1)

given_belong : (schema : List Entry) (values : List (Field × OwnedValue)) → AllByRecursion (λ value. value.0.id < length schema) values → Belongs schema (map pair_of_value values)
given_belong schema [] h = tt
given_belong schema (v ∷ vs) h = (h.0, given_belong schema vs h.1)

pub kept_belongs : (schema : List Entry) (values : List (Field × OwnedValue)) (new : CompactDoc) → AllByRecursion (λ value. value.0.id < length schema) values → IsKept values new → Belongs schema (document_of new)
kept_belongs schema values new h k =
    subst (Belongs schema) (sym k.document) (accepted_belongs schema k.additions (subst (Belongs schema) (sym k.called) (given_belong schema values h)))

-- ---- what reading back returns

-- where the bytes aren't refused, more can be counted and no read fails, only memory and room are left
pub only_short : (e : DeserializeError) (f g : Failures) → ((r : Refusal) → store_stop e ≡ InputError r → ⊥) → ((r : Refusal) → store_stop e ≡ Uncounted r → ⊥) → IsReadingError e → g.last ≡ None → CountsStop (store_stop e) f g
    → (e ≡ errors.Memory) ⊎ (e ≡ errors.HeapFull)
only_short (errors.CorruptedValue TooLong) f g error long reading last counts = absurd (long (corrupted UnexpectedEnd) refl)
only_short (errors.CorruptedValue c) f g error long reading last counts = absurd (error (corrupted c) refl)
only_short (errors.TypeMismatch types.String actual) f g error long reading last counts = absurd (error (no_text_key (value_type_code actual)) refl)
only_short errors.HeapFull f g error long reading last counts = inr refl
only_short (errors.Io k) f g error long reading last counts = absurd (none_is (sym last ∙ counts.kept))
  where
    none_is : {A : Type 0} {x : A} → None ≡ Some x → ⊥
    none_is e = cc
only_short errors.Memory f g error long reading last counts = inl refl
only_short (errors.TypeMismatch expected actual) f g error long reading last counts = absurd counts
only_short (errors.UnsupportedType t) f g error long reading last counts = absurd reading
only_short (errors.Custom s) f g error long reading last counts = absurd reading
only_short (errors.UnsupportedVersion m n) f g error long reading last counts = absurd reading
only_short errors.AlreadyFailed f g error long reading last counts = absurd reading
only_short errors.TooDeep f g error long reading last counts = absurd reading

pub above : (n m : ℕ) → (n ≤ m → ⊥) → m < n
above n m not = omega (arith, not)

pub full_answers_none : (e : DeserializeError) → e ≡ errors.HeapFull → SaysNothing e → ⊥
full_answers_none e is h = subst SaysNothing is h

pub err_is : {T E : Type 0} (r : Result T E) (x y : E) → r ≡ Err x → r ≡ Err y → x ≡ y
err_is r x y e f = cc

-- ---- where each value was accepted

few_more : (answer : Result (Unit {0}) AddError) (field : ℕ) (t : Tree) (d : Document) → length (pair_of answer field t ++ d) ≤ suc (length d)
few_more (Ok x) field t d = omega arith
few_more (Err e) field t d = omega arith

few_accepted : (additions : List Addition) → length (accepted_pairs additions) ≤ length additions
few_accepted [] = omega arith
few_accepted (a ∷ rest) = omega (arith, few_more a.answer a.field a.tree (accepted_pairs rest), few_accepted rest)

one_accepted : (answer : Result (Unit {0}) AddError) (field : ℕ) (t : Tree) (d : Document) → suc (length d) ≤ length (pair_of answer field t ++ d) → pair_of answer field t ++ d ≡ (field, t) ∷ d
one_accepted (Ok x) field t d many = refl
one_accepted (Err e) field t d many = absurd (omega (arith, many))

all_accepted : (additions : List Addition) → length (accepted_pairs additions) ≡ length additions → accepted_pairs additions ≡ map asked additions
all_accepted [] is = refl
all_accepted (a ∷ rest) is =
    let few = few_more a.answer a.field a.tree (accepted_pairs rest) in
    one_accepted a.answer a.field a.tree (accepted_pairs rest) (omega (arith, is, few_accepted rest)) ∙ ap (λ (d : Document). asked a ∷ d) (all_accepted rest (omega (arith, is, few, few_accepted rest)))

-- then the document has just their pairs
all_kept : (values : List (Field × OwnedValue)) (new : CompactDoc) → length (document_of new) ≡ length values → IsKept values new → document_of new ≡ map pair_of_value values
all_kept values new all k =
    let many : length (accepted_pairs k.additions) ≡ length k.additions = omega (arith, all, ap length k.document, ap length k.called, length-map k.additions asked, length-map values pair_of_value) in
    k.document ∙ all_accepted k.additions many ∙ k.called

pub trips_alike : (schema : List Entry) (values : List (Field × OwnedValue)) (behind : List ℕ) (trip twin : RoundTrip) → AcceptsAll values trip → AcceptsAll values twin → IsRoundTrip schema values behind trip → IsRoundTrip schema values behind twin → AreTripsAlike trip twin
trips_alike schema values behind trip twin all too first second =
    let same = all_kept values trip.added all first.added ∙ sym (all_kept values twin.added too second.added) in
    record {
      added = same;
      heap = trip.added.values.bytes ∙ ap (λ (d : Document). document_heap [] d) same ∙ sym twin.added.values.bytes;
      written = first.written ∙ ap (λ (d : Document). short_document V2 (stored schema d)) same ∙ sym second.written;
      back = first.back ∙ ap (stored schema) same ∙ sym second.back;
      rest = first.rest ∙ sym second.rest;
    }
