-- A text of a query has one list of terms, a term one text, and a prefix one end.
use Rattle.std.proofs.Common.{◌≡◌, ◌∙◌, ℕ, false, List, Option, Ok, Err, None, Some, refl, sym, ap, subst, [], append-nil, IsTrue}
use Rattle.std.proofs.lemmas.Cmp.{nat_list_cmp_total, tied_itself}
use Rattle.std.specs.Cmp.Lexicographic.{slice_cmp}
use Rattle.std.specs.FinMap.{nat_cmp-IsAntisymmetric, slice_cmp-IsAntisymmetric}
use Rattle.std.specs.Global.{Vec}
use Rattle.std.specs.List.{flat_map}
use Rattle.std.specs.Ordering.{is_le, is_lt, nat_cmp, ordering_reverse}
use Rattle.std.specs.Prelude.{IsUtf8}
use Rattle.std.specs.declared.cmp.Ordering.{Ordering}
use Rattle.std.specs.declared.cmp.Ordering.TheVariants.{Less, Equal, Greater}
use Rattle.serde_json.specs.Data as json
use Rattle.tv_base.specs.Facet.{printed}
use Rattle.tv_base.specs.Source.{AllBytes}
use Rattle.tv_blocks.specs.Alike.{AnswersAlike, BoundSame, HasOneAnswer}
use Rattle.tv_blocks.specs.Query.{AreTextRanges, AreTextTerms, IsQueryRefusal, IsRangesRefusal, IsTermsRefusal, measured_term}
use Rattle.tv_blocks.specs.QueryRefusals.{bad_text_of, query_error, text_refusal}
use Rattle.tv_blocks.specs.Refusals.{IsTextRefusal}
use Rattle.tv_blocks.specs.Terms.{IsEnd, IsEndRefusal, IsTermRefusal, IsTermText}
use Rattle.tv_blocks.specs.declared.block_error.BlockError.{BlockError}
use Rattle.tv_blocks.specs.declared.block_error.BlockError.TheVariants as errors
use Rattle.tv_blocks.specs.declared.line_refusal.ValueRefusal.{ValueRefusal}
use Rattle.tv_blocks.specs.declared.line_refusal.ValueRefusal.TheVariants as refusals
use Rattle.tv_field.specs.Entry.{Entry}
use Rattle.tv_field.specs.JsonAnswer.{refusal_of}
use Rattle.tv_field.specs.JsonTable.{TableRefusal, overflow, mismatch, bad_text, bad_base64, float_number}
use Rattle.tv_field.specs.declared.json_value.JsonRefusal.{JsonRefusal}
use Rattle.tv_field.specs.declared.json_value.JsonRefusal.TheVariants as values
use Rattle.tv_indexing.specs.Agree.{Agree, FindSame, SaySame}
use Rattle.tv_indexing.specs.JsonRanges.{AnswersRanges, RangesAnswer}
use Rattle.tv_indexing.specs.TermText.{text_of_value}
use Rattle.tv_indexing.specs.TextTerms.{AnswersText, TermsAnswer}
use Rattle.tv_indexing.specs.declared.text_terms_error.TextTermsError.{TextTermsError}
use Rattle.tv_indexing.specs.declared.text_terms_error.TextTermsError.TheVariants as texts
use Rattle.tv_term.proofs.Orders.{equal-keys}
use Rattle.tv_term.specs.Key.{IsTerm, TermValue}
use Rattle.tv_term.specs.Range.{EndsPrefix, IsFrom}

-- ---- texts of queries

-- what is said of a text where a refusal says this of it
abbrev said_of : Option TableRefusal → Option ValueRefusal
said_of (Some (overflow expected datum)) = Some refusals.Overflow
said_of (Some (mismatch expected datum)) = Some refusals.WrongType
said_of (Some (bad_text cause datum)) = Some refusals.BadText
said_of (Some (bad_base64 found)) = Some refusals.BadBase64
said_of (Some float_number) = Some refusals.FloatNumber
said_of None = None

is_said : (datum : json.Data) (why : JsonRefusal) → text_refusal why ≡ said_of (refusal_of datum why)
is_said datum (values.Overflow expected) = refl
is_said datum (values.Mismatch expected) = refl
is_said datum (values.Parse cause) = refl
is_said datum values.InvalidBase64 = refl
is_said datum values.FloatNumber = refl
is_said datum values.Memory = refl

-- what agrees is one error of a block
same_query : (why also : TextTermsError) → SaySame why also → query_error why ≡ query_error also
same_query (texts.UnknownPath start) (texts.UnknownPath other) h = refl
same_query (texts.WrongText field type why start) (texts.WrongText other wanted reason behind) h =
    let datum = json.string h.2.0 in
    let same : text_refusal why ≡ text_refusal reason = is_said datum why ∙ ap said_of h.2.1 ∙ sym (is_said datum reason) in
    λ i. bad_text_of (h.0 i).id (same i)
same_query (texts.WrongRange start) (texts.WrongRange other) h = refl
same_query why also h = ap query_error h

module _ (path text : List ℕ) (Refuses : TextTermsError → Type 0) where
  -- why a text has no terms or ranges
  data QueryFault (error : BlockError) : Type 0 where
    no_utf8 : ¬ (IsUtf8 path × IsUtf8 text) → error ≡ errors.NotUtf8 → QueryFault error
    no_query : IsUtf8 path → IsUtf8 text → (why : TextTermsError) → Refuses why → error ≡ query_error why → QueryFault error

  query_fault : (error : BlockError) → IsQueryRefusal Refuses path text error → QueryFault error
  query_fault errors.NotUtf8 h = no_utf8 h refl
  query_fault error h = no_query h.0 h.1 h.2 h.3 h.4

  query_fault_one : ((why also : TextTermsError) → Refuses why → Refuses also → SaySame why also) → (one other : BlockError) → QueryFault one → QueryFault other → one ≡ other
  query_fault_one agree one other (no_utf8 missing is) (no_utf8 neither so) = is ∙ sym so
  query_fault_one agree one other (no_utf8 missing is) (no_query has have why h so) = absurd (missing (has, have))
  query_fault_one agree one other (no_query has have why h is) (no_utf8 missing so) = absurd (missing (has, have))
  query_fault_one agree one other (no_query has have why h is) (no_query is_path is_text also k so) = is ∙ same_query why also (agree why also h k) ∙ sym so

  query_apart : IsUtf8 path → IsUtf8 text → ((why : TextTermsError) → Refuses why → ⊥) → (error : BlockError) → QueryFault error → ⊥
  query_apart has have never error (no_utf8 missing is) = missing (has, have)
  query_apart has have never error (no_query is_path is_text why h is) = never why h

module _ (schema : List Entry) (path text : List ℕ) where
  pub terms_answer : ((one other : TermsAnswer) → AnswersText schema path text one → AnswersText schema path text other → Agree SaySame (λ made also. made ≡ also) one other) → HasOneAnswer (AreTextTerms schema path text) (IsTermsRefusal schema path text)
  terms_answer agree = record {
    answer = λ one other h k. h.4 ∙ ap (flat_map measured_term) (agree (Ok h.2) (Ok k.2) h.3 k.3) ∙ sym k.4;
    error = λ one other decided too h k.
        query_fault_one path text (λ why. AnswersText schema path text (Err why)) (λ why also mine yours. agree (Err why) (Err also) mine yours) one other (query_fault path text (λ why. AnswersText schema path text (Err why)) one h) (query_fault path text (λ why. AnswersText schema path text (Err why)) other k);
    apart = λ content error decided h k. query_apart path text (λ why. AnswersText schema path text (Err why)) h.0 h.1 (λ why mine. agree (Ok h.2) (Err why) h.3 mine) error (query_fault path text (λ why. AnswersText schema path text (Err why)) error k);
  }

  pub ranges_answer : ((one other : RangesAnswer) → AnswersRanges schema path text one → AnswersRanges schema path text other → Agree SaySame FindSame one other) → AnswersAlike BoundSame (AreTextRanges schema path text) (IsRangesRefusal schema path text)
  ranges_answer agree = record {
    answer = λ one other h k. (h.2, k.2, h.4, k.4, agree (Ok h.2) (Ok k.2) h.3 k.3);
    error = λ one other decided too h k.
        query_fault_one path text (λ why. AnswersRanges schema path text (Err why)) (λ why also mine yours. agree (Err why) (Err also) mine yours) one other (query_fault path text (λ why. AnswersRanges schema path text (Err why)) one h) (query_fault path text (λ why. AnswersRanges schema path text (Err why)) other k);
    apart = λ content error decided h k. query_apart path text (λ why. AnswersRanges schema path text (Err why)) h.0 h.1 (λ why mine. agree (Ok h.2) (Err why) h.3 mine) error (query_fault path text (λ why. AnswersRanges schema path text (Err why)) error k);
  }

-- ---- facets and terms

text_refusal_one : (encoded : List ℕ) (one other : BlockError) → IsTextRefusal encoded one → IsTextRefusal encoded other → one ≡ other
text_refusal_one encoded errors.NotUtf8 errors.NotUtf8 h k = refl
text_refusal_one encoded errors.NotUtf8 other h k = absurd k
text_refusal_one encoded one other h k = absurd h

text_refusal_is : (encoded : List ℕ) (error : BlockError) → IsTextRefusal encoded error → ¬ IsUtf8 encoded
text_refusal_is encoded errors.NotUtf8 h = h
text_refusal_is encoded error h = absurd h

pub facet_answer : (encoded : List ℕ) → HasOneAnswer (λ (content : List ℕ). IsUtf8 encoded × (content ≡ printed encoded)) (IsTextRefusal encoded)
facet_answer encoded = record {
  answer = λ one other h k. h.1 ∙ sym k.1;
  error = λ one other decided too h k. text_refusal_one encoded one other h k;
  apart = λ content error decided h k. text_refusal_is encoded error k h.0;
}

one_value : (bytes : List ℕ) (f g : ℕ) (a b : TermValue) → IsTerm bytes f a → IsTerm bytes g b → a ≡ b
one_value bytes f g a b h k = (equal-keys f g a b h.field_fits k.field_fits h.value_fits k.value_fits (sym h.bytes_are ∙ k.bytes_are)).1

no_term_one : (bytes : List ℕ) (one other : BlockError) → IsTermRefusal bytes one → IsTermRefusal bytes other → one ≡ other
no_term_one bytes errors.NotTerm errors.NotTerm h k = refl
no_term_one bytes errors.NotTerm other h k = absurd k
no_term_one bytes one other h k = absurd h

term_apart : (bytes content : List ℕ) (error : BlockError) → IsTermText bytes content → IsTermRefusal bytes error → ⊥
term_apart bytes content errors.NotTerm h k = let missing = k h.0 h.1 h.2 in let named = h.3 in absurd (cc (missing, named))
term_apart bytes content error h k = k

pub term_answer : (bytes : List ℕ) → HasOneAnswer (IsTermText bytes) (IsTermRefusal bytes)
term_answer bytes = record {
  answer = λ one other h k.
      let both : Some one ≡ Some other = sym h.3 ∙ ap text_of_value (one_value bytes h.0 k.0 h.1 k.1 h.2 k.2) ∙ k.3 in
      cc (both);
  error = λ one other decided too h k. no_term_one bytes one other h k;
  apart = λ content error decided h k. term_apart bytes content error h k;
}

-- ---- ends of prefixes

not_below : (e : List ℕ) → IsTrue (is_lt (slice_cmp nat_cmp e e)) → ⊥
not_below e h = let level : is_lt (slice_cmp nat_cmp e e) ≡ false = ap is_lt (tied_itself nat_list_cmp_total e) in absurd (cc (level, h))

lt_le : (o : Ordering) → IsTrue (is_lt o) → IsTrue (is_le o)
lt_le Less h = refl
lt_le Equal h = absurd (cc (h))
lt_le Greater h = absurd (cc (h))

-- the prefix is below its end
above : (prefix : List ℕ) (end : Vec ℕ) → AllBytes prefix → EndsPrefix prefix (Some end) → IsFrom prefix end.items
above prefix end are ends = lt_le (slice_cmp nat_cmp prefix end.items) ((ends prefix are).1 ([], sym (append-nil prefix))).1

-- no end of the prefix is below another one
none_below : (prefix : List ℕ) (end other : Vec ℕ) → AllBytes prefix → AllBytes end.items → EndsPrefix prefix (Some end) → EndsPrefix prefix (Some other) → IsTrue (is_lt (slice_cmp nat_cmp end.items other.items)) → ⊥
none_below prefix end other are bytes ends also less =
    let within = (also end.items bytes).0 (above prefix end are ends, less) in not_below end.items ((ends end.items bytes).1 within).1

decide : (e f : List ℕ) (o : Ordering) → slice_cmp nat_cmp e f ≡ o → (IsTrue (is_lt (slice_cmp nat_cmp e f)) → ⊥) → (IsTrue (is_lt (slice_cmp nat_cmp f e)) → ⊥) → e ≡ f
decide e f Less is h k = absurd (h (ap is_lt is))
decide e f Equal is h k = slice_cmp-IsAntisymmetric nat_cmp-IsAntisymmetric e f is
decide e f Greater is h k = absurd (k (ap is_lt (nat_list_cmp_total.antisymm f e) ∙ ap (λ (z : Ordering). is_lt (ordering_reverse z)) is))

-- content that is an end, and bytes
abbrev IsByteEnd : List ℕ → List ℕ → Type 0
IsByteEnd prefix content = AllBytes content × IsEnd prefix content

end_one : (prefix one other : List ℕ) → AllBytes prefix → IsByteEnd prefix one → IsByteEnd prefix other → one ≡ other
end_one prefix one other are h k =
    let mine : AllBytes h.1.0.items = subst AllBytes (sym h.1.1) h.0 in
    let yours : AllBytes k.1.0.items = subst AllBytes (sym k.1.1) k.0 in
    sym h.1.1 ∙ decide h.1.0.items k.1.0.items (slice_cmp nat_cmp h.1.0.items k.1.0.items) refl (none_below prefix h.1.0 k.1.0 are mine h.1.2 k.1.2) (none_below prefix k.1.0 h.1.0 are yours k.1.2 h.1.2) ∙ k.1.1

no_end_one : (prefix : List ℕ) (one other : BlockError) → IsEndRefusal prefix one → IsEndRefusal prefix other → one ≡ other
no_end_one prefix errors.NoEnd errors.NoEnd h k = refl
no_end_one prefix errors.NoEnd other h k = absurd k
no_end_one prefix one other h k = absurd h

end_apart : (prefix content : List ℕ) (error : BlockError) → AllBytes prefix → IsByteEnd prefix content → IsEndRefusal prefix error → ⊥
end_apart prefix content errors.NoEnd are h k =
    let mine : AllBytes h.1.0.items = subst AllBytes (sym h.1.1) h.0 in
    let begins = (k h.1.0.items mine).0 (above prefix h.1.0 are h.1.2, tt) in
    not_below h.1.0.items ((h.1.2 h.1.0.items mine).1 begins).1
end_apart prefix content error are h k = k

pub end_answer : (prefix : List ℕ) → AllBytes prefix → HasOneAnswer (λ (content : List ℕ). AllBytes content × IsEnd prefix content) (IsEndRefusal prefix)
end_answer prefix are = record {
  answer = λ one other h k. end_one prefix one other are h k;
  error = λ one other decided too h k. no_end_one prefix one other h k;
  apart = λ content error decided h k. end_apart prefix content error are h k;
}
