-- A strict prefix of an encoded value or document has the error that it ends too early.
use Rattle.std.proofs.Common.{◌≡◌, ◌≢◌, ◌⊎◌, ℕ, suc, List, [], ◌∷◌, ◌++◌, length, refl, sym, ap, subst, ◌∙◌, arith, append_assoc, inl, inr}
use Rattle.tv_base.specs.declared.cause.Cause.{Cause}
use Rattle.tv_base.specs.declared.cause.Cause.TheVariants.{UnexpectedEnd}
use Rattle.tv_base.specs.Number.{VNum, Fixed}
use Rattle.tv_base.specs.Parts.{Then, Behind, Text}
use Rattle.tv_base.specs.ErrorInPart.{InThen, InEach, ErrorInNumber, ErrorInBytes, ErrorInText}
use Rattle.tv_base.proofs.Numbers.{length-fixed}
use Rattle.tv_format.specs.Content.{Content, no_content, truth_content, unsigned_content, signed_content, wide_content, text_content, bytes_content, tokens_content, form_of}
use Rattle.tv_format.specs.Encoding.{TokenEncoding, Tokenized, ContentBody, LeafBody, Key, Encodes, EncodesElements, EncodesEntries, EncodesPair, EncodesDocument, leaf_code}
use Rattle.tv_format.specs.ErrorInList.{ErrorInElements, ErrorInEntries, in_next_key, in_next_value}
use Rattle.tv_format.specs.InputError.{corrupted, Corrupt, corrupt, ErrorInToken, ErrorInTokenized, date_ends, no_extension, in_tokenized, ErrorInContent, ErrorInKey, key_ends, in_key, ErrorInValue, value_ends, in_leaf, in_legacy, in_count, in_element, in_entry_count, in_entry_key, in_entry, ErrorInPair, ErrorInDocument}
use Rattle.tv_format.specs.Leaves.{type_of, content, form, scale}
use Rattle.tv_format.specs.LeavesLaws.{form_of_content}
use Rattle.tv_format.specs.declared.leaf_type.Form.TheVariants as forms
use Rattle.tv_format.specs.Tree.{Token, Leaf, Tree, leaf, array, object, Elements, no_elements, element, element_count, Entries, no_entries, entry, entry_count, Document}
use Rattle.tv_format.specs.Version.{Version, V1, V2, V3, Scale, plain, thousands, entry_total}
use Rattle.tv_reader.proofs.EarlyParts.{Early, none_cut, within, behind, cut_at, early_then, early_each, early_number, fewer, early_fixed, early_truth, early_sized, early_text}

-- ---- what leaves hold

early_token : (t : Token) → Early (λ b. TokenEncoding b t) (λ w. ErrorInToken w UnexpectedEnd)
early_token t =
    early_then ErrorInNumber VNum (λ _. InThen ErrorInNumber VNum (λ _. InThen ErrorInNumber VNum (λ _. InThen ErrorInText Text (λ _. ErrorInNumber)))) UnexpectedEnd t.offset_from (early_number t.offset_from)
    (early_then ErrorInNumber VNum (λ _. InThen ErrorInNumber VNum (λ _. InThen ErrorInText Text (λ _. ErrorInNumber))) UnexpectedEnd t.offset_to (early_number t.offset_to)
    (early_then ErrorInNumber VNum (λ _. InThen ErrorInText Text (λ _. ErrorInNumber)) UnexpectedEnd t.position (early_number t.position)
    (early_then ErrorInText Text (λ _. ErrorInNumber) UnexpectedEnd t.text (early_text t.text) (early_number t.position_length))))

early_tokenized : (text : List ℕ) (tokens : List Token) → Early (λ b. Tokenized b text tokens) (λ w. ErrorInTokenized w UnexpectedEnd)
early_tokenized text tokens =
    early_then ErrorInText Text (λ _. InThen ErrorInNumber VNum (λ n. InEach ErrorInToken TokenEncoding n)) UnexpectedEnd text (early_text text)
    (early_then ErrorInNumber VNum (λ n. InEach ErrorInToken TokenEncoding n) UnexpectedEnd (length tokens) (early_number (length tokens))
    (early_each ErrorInToken TokenEncoding UnexpectedEnd early_token (length tokens) tokens refl))

early_content : (s : Scale) (c : Content) → Early (λ b. ContentBody s b c) (λ w. ErrorInContent s (form_of c) w UnexpectedEnd)
early_content s no_content = record { early = λ whole start rest p joined some. absurd (none_cut start rest (sym p ∙ joined) some) }
early_content s (truth_content b) = early_truth b
early_content s (unsigned_content n) = early_fixed 8 n
early_content plain (signed_content z) = record { early = λ whole start rest p joined some. (early_fixed 8 _).early whole start rest p.encoded joined some }
early_content thousands (signed_content z) = record {
  early = λ whole start rest p joined some. date_ends (omega (arith, length-fixed p.encoded, fewer whole start rest joined some));
}
early_content s (wide_content n) = early_fixed 16 n
early_content s (text_content t) = early_text t
early_content s (bytes_content bs) = early_sized bs
early_content s (tokens_content t ts) = record { early = λ whole start rest p joined some. behind_code p.body start rest p.encoded (sym p.joined ∙ joined) some }
  where
    behind_code : (body start rest : List ℕ) → Tokenized body t ts → 0 ∷ body ≡ start ++ rest → rest ≢ [] → ErrorInContent s forms.Tokens start UnexpectedEnd
    behind_code body [] rest p joined some = no_extension refl
    behind_code body (d ∷ start) rest p joined some =
        let same : 0 ≡ d = cc in
        let tail : body ≡ start ++ rest = cc in
        in_tokenized start (ap (λ n. n ∷ start) (sym same)) ((early_tokenized t ts).early body start rest p tail some)

early_leaf : (v : Version) (l : Leaf) → Early (λ b. LeafBody v b l) (λ w. ErrorInContent (scale v (type_of l)) (form (type_of l)) w UnexpectedEnd)
early_leaf v l = record {
  early = λ whole start rest p joined some.
      subst (λ f. ErrorInContent (scale v (type_of l)) f start UnexpectedEnd) (form_of_content l) ((early_content (scale v (type_of l)) (content l)).early whole start rest p joined some);
}

-- ---- keys

early_coded_key : (k body start rest : List ℕ) → Text body k → 0 ∷ body ≡ start ++ rest → rest ≢ [] → ErrorInKey V2 start (corrupted UnexpectedEnd)
early_coded_key k body [] rest p joined some = key_ends
early_coded_key k body (d ∷ start) rest p joined some =
    let same : 0 ≡ d = cc in
    let tail : body ≡ start ++ rest = cc in
    subst (λ n. ErrorInKey V2 (n ∷ start) (corrupted UnexpectedEnd)) same (in_key ((early_text k).early body start rest p tail some))

early_key : (v : Version) (k : List ℕ) → Early (λ b. Key v b k) (λ w. ErrorInKey v w (corrupted UnexpectedEnd))
early_key V1 k = record { early = λ whole start rest p joined some. early_coded_key k p.body start rest p.encoded (sym p.joined ∙ joined) some }
early_key V2 k = record { early = λ whole start rest p joined some. early_coded_key k p.body start rest p.encoded (sym p.joined ∙ joined) some }
early_key V3 k = record { early = λ whole start rest p joined some. corrupt ((early_text k).early whole start rest p joined some) }

-- ---- trees

module _ (Legacy : List ℕ → Entries → Type 0) (ErrorInLegacy : List ℕ → Cause → Type 0) (v : Version)
    (early_legacy : (es : Entries) → Early (λ b. Legacy b es) (λ w. ErrorInLegacy w UnexpectedEnd)) where
  abbrev Ends : List ℕ → Type 0
  Ends w = ErrorInValue Legacy ErrorInLegacy v w (corrupted UnexpectedEnd)

  abbrev ElementsEnd : ℕ → List ℕ → Type 0
  ElementsEnd n w = ErrorInElements Legacy ErrorInLegacy v n w (corrupted UnexpectedEnd)

  abbrev EntriesEnd : ℕ → List ℕ → Type 0
  EntriesEnd n w = ErrorInEntries Legacy ErrorInLegacy v n w (corrupted UnexpectedEnd)

  -- an element more before the error
  element_before : (t : Tree) (n : ℕ) (start a b : List ℕ) → start ≡ a ++ b → Encodes Legacy v a t → ElementsEnd n b → ElementsEnd (suc n) start
  element_before t n start a b joined p h = record {
    before = element t h.before;
    prefix = a ++ h.prefix;
    rest = h.rest;
    joined = joined ∙ ap (λ (l : List ℕ). a ++ l) h.joined ∙ sym (append_assoc a h.prefix h.rest);
    encoded = record { prefix = a; rest = h.prefix; joined = refl; first = p; second = h.encoded };
    fewer = omega (arith, h.fewer);
    error = h.error;
  }

  regroup : (a b c d e : List ℕ) → e ≡ c ++ d → a ++ (b ++ e) ≡ (a ++ (b ++ c)) ++ d
  regroup a b c d e p = ap (λ (l : List ℕ). a ++ (b ++ l)) p ∙ ap (λ (l : List ℕ). a ++ l) (sym (append_assoc b c d)) ∙ sym (append_assoc a (b ++ c) d)

  -- an entry more before the error
  entry_before : (k : List ℕ) (t : Tree) (n : ℕ) (start a b rest : List ℕ) → start ≡ a ++ (b ++ rest) → Key v a k → Encodes Legacy v b t → EntriesEnd n rest → EntriesEnd (suc n) start
  entry_before k t n start a b rest joined key p (in_next_key es prefix after cut before less f) =
      in_next_key (entry k t es) (a ++ (b ++ prefix)) after (joined ∙ regroup a b prefix after rest cut)
      (record { prefix = a; rest = b ++ prefix; joined = refl; first = key; second = record { prefix = b; rest = prefix; joined = refl; first = p; second = before } }) (omega (arith, less)) f
  entry_before k t n start a b rest joined key p (in_next_value es l prefix next after cut before less named f) =
      in_next_value (entry k t es) l (a ++ (b ++ prefix)) next after (joined ∙ regroup a b prefix (next ++ after) rest cut)
      (record { prefix = a; rest = b ++ prefix; joined = refl; first = key; second = record { prefix = b; rest = prefix; joined = refl; first = p; second = before } }) (omega (arith, less)) named f

  -- an array after its number, and an object
  array_ends : (n : ℕ) (start count rest : List ℕ) → start ≡ count ++ rest → VNum count n → ElementsEnd n rest → Ends (12 ∷ start)
  array_ends n start count rest joined number h = in_element n h.before count h.prefix h.rest (joined ∙ ap (λ (l : List ℕ). count ++ l) h.joined) number h.encoded h.fewer h.error

  object_ends : (n : ℕ) (start count rest : List ℕ) → start ≡ count ++ rest → VNum count (entry_total v n) → EntriesEnd n rest → Ends (13 ∷ start)
  object_ends n start count rest joined number (in_next_key es prefix after cut before less f) =
      in_entry_key n es count prefix after (joined ∙ ap (λ (l : List ℕ). count ++ l) cut) number before less f
  object_ends n start count rest joined number (in_next_value es k prefix key after cut before less named f) =
      in_entry n es k count prefix key after (joined ∙ ap (λ (l : List ℕ). count ++ l) cut) number before less named f

  -- what stands after a code
  behind_code : (code : ℕ) (P : List ℕ → Type 0) → Early P (λ w. Ends (code ∷ w)) → Early (Behind code P) Ends
  behind_code code P h = record { early = λ whole start rest p joined some. cut_code p.body start rest p.encoded (sym p.joined ∙ joined) some }
    where
      cut_code : (body start rest : List ℕ) → P body → code ∷ body ≡ start ++ rest → rest ≢ [] → Ends start
      cut_code body [] rest p joined some = value_ends
      cut_code body (d ∷ start) rest p joined some =
          let same : code ≡ d = cc in
          let tail : body ≡ start ++ rest = cc in
          subst (λ n. Ends (n ∷ start)) same (h.early body start rest p tail some)

  array_early : (n : ℕ) (P : List ℕ → Type 0) → Early P (ElementsEnd n) → Early (Then (λ b. VNum b n) P) (λ w. Ends (12 ∷ w))
  array_early n P h = record {
    early = λ whole start rest p joined some.
        elim (cut_at p.prefix p.rest start rest (sym p.joined ∙ joined)) as (λ _. Ends (12 ∷ start)) [
          | within cut e short ↦ in_count ((early_number n).early p.prefix start cut p.first e short)
          | behind begun e f ↦ array_ends n start p.prefix begun e p.first (h.early p.rest begun rest p.second f some)
        ];
  }

  object_early : (n : ℕ) (P : List ℕ → Type 0) → Early P (EntriesEnd n) → Early (Then (λ b. VNum b (entry_total v n)) P) (λ w. Ends (13 ∷ w))
  object_early n P h = record {
    early = λ whole start rest p joined some.
        elim (cut_at p.prefix p.rest start rest (sym p.joined ∙ joined)) as (λ _. Ends (13 ∷ start)) [
          | within cut e short ↦ in_entry_count ((early_number (entry_total v n)).early p.prefix start cut p.first e short)
          | behind begun e f ↦ object_ends n start p.prefix begun e p.first (h.early p.rest begun rest p.second f some)
        ];
  }

  element_early : (t : Tree) (n : ℕ) (P : List ℕ → Type 0) → Early (λ b. Encodes Legacy v b t) Ends → Early P (ElementsEnd n) → Early (Then (λ b. Encodes Legacy v b t) P) (ElementsEnd (suc n))
  element_early t n P h others = record {
    early = λ whole start rest p joined some.
        elim (cut_at p.prefix p.rest start rest (sym p.joined ∙ joined)) as (λ _. ElementsEnd (suc n) start) [
          | within cut e short ↦ record { before = no_elements; prefix = []; rest = start; joined = refl; encoded = refl; fewer = omega arith; error = h.early p.prefix start cut p.first e short }
          | behind begun e f ↦ element_before t n start p.prefix begun e p.first (others.early p.rest begun rest p.second f some)
        ];
  }

  -- a value after its key, and the entries after that
  member_early : (k : List ℕ) (t : Tree) (n : ℕ) (P : List ℕ → Type 0) (key : List ℕ) → Key v key k → Early (λ b. Encodes Legacy v b t) Ends → Early P (EntriesEnd n)
      → Early (Then (λ b. Encodes Legacy v b t) P) (λ w. EntriesEnd (suc n) (key ++ w))
  member_early k t n P key named h others = record {
    early = λ whole start rest p joined some.
        elim (cut_at p.prefix p.rest start rest (sym p.joined ∙ joined)) as (λ _. EntriesEnd (suc n) (key ++ start)) [
          | within cut e short ↦ in_next_value no_entries k [] key start refl refl (omega arith) named (h.early p.prefix start cut p.first e short)
          | behind begun e f ↦ entry_before k t n (key ++ start) key p.prefix begun (ap (λ (l : List ℕ). key ++ l) e) named p.first (others.early p.rest begun rest p.second f some)
        ];
  }

  entry_early : (k : List ℕ) (t : Tree) (n : ℕ) (P : List ℕ → Type 0) → Early (λ b. Encodes Legacy v b t) Ends → Early P (EntriesEnd n)
      → Early (Then (λ b. Key v b k) (Then (λ b. Encodes Legacy v b t) P)) (EntriesEnd (suc n))
  entry_early k t n P h others = record {
    early = λ whole start rest p joined some.
        elim (cut_at p.prefix p.rest start rest (sym p.joined ∙ joined)) as (λ _. EntriesEnd (suc n) start) [
          | within cut e short ↦ in_next_key no_entries [] start refl refl (omega arith) ((early_key v k).early p.prefix start cut p.first e short)
          | behind begun e f ↦ subst (EntriesEnd (suc n)) (sym e) ((member_early k t n P p.prefix p.first h others).early p.rest begun rest p.second f some)
        ];
  }

  leaf_early : (l : Leaf) → Early (λ b. LeafBody v b l) (λ w. Ends (leaf_code l ∷ w))
  leaf_early l = record { early = λ whole start rest p joined some. in_leaf (record { of_type = type_of l; coded = refl; error = (early_leaf v l).early whole start rest p joined some }) }

  legacy_early : (es : Entries) → Early (λ b. Legacy b es) (λ w. Ends (8 ∷ w))
  legacy_early es = record { early = λ whole start rest p joined some. in_legacy ((early_legacy es).early whole start rest p joined some) }

  either : {P Q F : List ℕ → Type 0} → Early P F → Early Q F → Early (λ b. P b ⊎ Q b) F
  either g h = record { early = λ whole start rest p joined some. elim p [ inl q ↦ g.early whole start rest q joined some | inr q ↦ h.early whole start rest q joined some ] }

  nothing : {P F : List ℕ → Type 0} → ((b : List ℕ) → P b → b ≡ []) → Early P F
  nothing empty = record { early = λ whole start rest p joined some. absurd (none_cut start rest (sym (empty whole p) ∙ joined) some) }

  mutual
    pub early_value : (t : Tree) → Early (λ b. Encodes Legacy v b t) Ends
    early_value (leaf l) = behind_code (leaf_code l) (λ b. LeafBody v b l) (leaf_early l)
    early_value (array ts) = behind_code 12 _ (array_early (element_count ts) (λ b. EncodesElements Legacy v b ts) (early_elements ts))
    early_value (object es) =
        either (behind_code 13 _ (object_early (entry_count es) (λ b. EncodesEntries Legacy v b es) (early_entries es))) (behind_code 8 (λ b. Legacy b es) (legacy_early es))

    early_elements : (ts : Elements) → Early (λ b. EncodesElements Legacy v b ts) (ElementsEnd (element_count ts))
    early_elements no_elements = nothing (λ b p. p)
    early_elements (element t ts) = element_early t (element_count ts) (λ b. EncodesElements Legacy v b ts) (early_value t) (early_elements ts)

    early_entries : (es : Entries) → Early (λ b. EncodesEntries Legacy v b es) (EntriesEnd (entry_count es))
    early_entries no_entries = nothing (λ b p. p)
    early_entries (entry k t es) = entry_early k t (entry_count es) (λ b. EncodesEntries Legacy v b es) (early_value t) (early_entries es)

  -- ---- documents

  early_field : (field : ℕ) → Early (λ b. Fixed 4 b field) (λ w. Corrupt (ErrorInBytes 4) w (corrupted UnexpectedEnd))
  early_field field = record { early = λ whole start rest p joined some. corrupt ((early_fixed 4 field).early whole start rest p joined some) }

  early_pair : (pair : ℕ × Tree) → Early (λ b. EncodesPair Legacy v b pair) (λ w. ErrorInPair Legacy ErrorInLegacy v w (corrupted UnexpectedEnd))
  early_pair pair =
      early_then (Corrupt (ErrorInBytes 4)) (Fixed 4) (λ _. ErrorInValue Legacy ErrorInLegacy v) (corrupted UnexpectedEnd) pair.0 (early_field pair.0) (early_value pair.1)

  pub early_document : (d : Document) → Early (λ b. EncodesDocument Legacy v b d) (λ w. ErrorInDocument Legacy ErrorInLegacy v w (corrupted UnexpectedEnd))
  early_document d =
      early_then (Corrupt ErrorInNumber) VNum (λ n. InEach (ErrorInPair Legacy ErrorInLegacy v) (EncodesPair Legacy v) n) (corrupted UnexpectedEnd) (length d)
      (record { early = λ whole start rest p joined some. corrupt ((early_number (length d)).early whole start rest p joined some) })
      (early_each (ErrorInPair Legacy ErrorInLegacy v) (EncodesPair Legacy v) (corrupted UnexpectedEnd) early_pair (length d) d refl)
