-- Where a value or a document is malformed, no prefix of the bytes encodes one.
use Rattle.std.proofs.Common.{subst, ◌≡◌, ◌≢◌, ℕ, ◌<◌, ◌≤◌, List, [], ◌∷◌, ◌++◌, length, refl, sym, ◌∙◌, ap, arith, append_assoc, inl, inr}
use Rattle.tv_base.specs.declared.cause.Cause.{Cause}
use Rattle.tv_base.specs.Parts.{OneReading, Then}
use Rattle.tv_format.specs.Tree.{Tree, leaf, array, object, Elements, no_elements, element, Entries, no_entries, entry, element_count, entry_count, Document}
use Rattle.tv_base.specs.Number.{VNum, Fixed}
use Rattle.tv_format.specs.Version.{Version, entry_total}
use Rattle.tv_format.specs.Encoding.{leaf_code, Key, Encodes, EncodesElements, EncodesEntries, EncodesPair, EncodesDocument, NoLegacy}
use Rattle.tv_format.specs.InputError.{Refusal, Corrupt, ErrorInLeaf, ErrorInValue, value_ends, unknown_code, float_code, in_leaf, in_legacy, in_count, in_element, in_entry_count, odd_count, in_entry_key, in_entry, ErrorInPair, ErrorInDocument, NoErrorInLegacy}
use Rattle.tv_base.proofs.Numbers.{agree_number, agree_fixed, one_number, length-fixed}
use Rattle.tv_format.specs.Leaves.{type_of, last_code}
use Rattle.tv_format.specs.LeavesLaws.{leaf_coded}
use Rattle.tv_format.proofs.Leaves.{agree_key, total_same}
use Rattle.tv_format.proofs.Trees.{agree_tree, one_pair}
use Rattle.tv_base.proofs.Excluding.{Excludes, rests, excludes_then, excludes_each, excludes_number}
use Rattle.tv_base.proofs.ExcludingParts.{behind_head, excludes_bytes}
use Rattle.tv_format.proofs.ExcludingLeaves.{leaf_excludes, leaf_error_code, excludes_corrupt, key_excludes}
use Rattle.tv_base.specs.ErrorInPart.{InEach, ErrorInNumber, ErrorInBytes}

module _ (Legacy : List ℕ → Entries → Type 0) (ErrorInLegacy : List ℕ → Cause → Type 0) (v : Version)
    (one_legacy : OneReading Legacy) (legacy_excludes : (es : Entries) → Excludes ErrorInLegacy (λ b. Legacy b es)) where
  -- a value begins with its code
  record Head (whole : List ℕ) : Type 0 where
    code : ℕ
    body : List ℕ
    joined : whole ≡ code ∷ body
    small : code ≤ last_code
    known : code ≢ 6

  head : (t : Tree) (a : List ℕ) → Encodes Legacy v a t → Head a
  head (leaf l) a p = record { code = leaf_code l; body = p.body; joined = p.joined; small = (leaf_coded (type_of l)).known; known = (leaf_coded (type_of l)).no_float }
  head (array ts) a p = record { code = 12; body = p.body; joined = p.joined; small = omega arith; known = λ e. omega arith }
  head (object es) a p = elim p as (λ _. Head a) [
    | inl q ↦ record { code = 13; body = q.body; joined = q.joined; small = omega arith; known = λ e. omega arith }
    | inr q ↦ record { code = 8; body = q.body; joined = q.joined; small = omega arith; known = λ e. omega arith }
  ]

  -- After fewer elements than there are stands the next one.
  pub elements_reach : (ts us : Elements) → element_count ts < element_count us → (prefix rest b x : List ℕ)
      → EncodesElements Legacy v prefix ts → EncodesElements Legacy v b us → prefix ++ rest ≡ b ++ x
      → (t : Tree) × (a : List ℕ) × (y : List ℕ) × Encodes Legacy v a t × (rest ≡ a ++ y)
  elements_reach no_elements (element u us) l prefix rest b x p q e =
      let cut : rest ≡ q.prefix ++ (q.rest ++ x) = ap (λ z. z ++ rest) (sym p) ∙ e ∙ ap (λ z. z ++ x) q.joined ∙ append_assoc q.prefix q.rest x in
      (u, q.prefix, q.rest ++ x, q.first, cut)
  elements_reach (element t ts) (element u us) l prefix rest b x p q e =
      let cut : p.prefix ++ (p.rest ++ rest) ≡ q.prefix ++ (q.rest ++ x) =
      sym (append_assoc p.prefix p.rest rest) ∙ ap (λ z. z ++ rest) (sym p.joined) ∙ e ∙ ap (λ z. z ++ x) q.joined ∙ append_assoc q.prefix q.rest x in
      let same = (agree_tree Legacy v one_legacy t u).agree p.prefix q.prefix (p.rest ++ rest) (q.rest ++ x) p.first q.first cut in
      elements_reach ts us (omega arith) p.rest rest q.rest x p.second q.second (rests p.prefix (p.rest ++ rest) q.prefix (q.rest ++ x) same.0 cut)
  elements_reach no_elements no_elements l prefix rest b x p q e = absurd (omega arith)
  elements_reach (element t ts) no_elements l prefix rest b x p q e = absurd (omega arith)

  pub entries_reach : (es fs : Entries) → entry_count es < entry_count fs → (prefix rest b x : List ℕ)
      → EncodesEntries Legacy v prefix es → EncodesEntries Legacy v b fs → prefix ++ rest ≡ b ++ x
      → (k : List ℕ) × (t : Tree) × (key : List ℕ) × (a : List ℕ) × (y : List ℕ) × Key v key k × Encodes Legacy v a t × (rest ≡ key ++ (a ++ y))
  entries_reach no_entries (entry l u fs) less prefix rest b x p q e =
      let cut : rest ≡ q.prefix ++ (q.rest ++ x) = ap (λ z. z ++ rest) (sym p) ∙ e ∙ ap (λ z. z ++ x) q.joined ∙ append_assoc q.prefix q.rest x in
      let value : q.rest ++ x ≡ q.second.prefix ++ (q.second.rest ++ x) = ap (λ z. z ++ x) q.second.joined ∙ append_assoc q.second.prefix q.second.rest x in
      (l, u, q.prefix, q.second.prefix, q.second.rest ++ x, q.first, q.second.first, cut ∙ ap (λ z. q.prefix ++ z) value)
  entries_reach (entry k t es) (entry l u fs) less prefix rest b x p q e =
      let cut : p.prefix ++ (p.rest ++ rest) ≡ q.prefix ++ (q.rest ++ x) =
      sym (append_assoc p.prefix p.rest rest) ∙ ap (λ z. z ++ rest) (sym p.joined) ∙ e ∙ ap (λ z. z ++ x) q.joined ∙ append_assoc q.prefix q.rest x in
      let keys = (agree_key v k l).agree p.prefix q.prefix (p.rest ++ rest) (q.rest ++ x) p.first q.first cut in
      let left = rests p.prefix (p.rest ++ rest) q.prefix (q.rest ++ x) keys.0 cut in
      let cut_value : p.second.prefix ++ (p.second.rest ++ rest) ≡ q.second.prefix ++ (q.second.rest ++ x) =
      sym (append_assoc p.second.prefix p.second.rest rest) ∙ ap (λ z. z ++ rest) (sym p.second.joined) ∙ left ∙ ap (λ z. z ++ x) q.second.joined ∙ append_assoc q.second.prefix q.second.rest x in
      let same = (agree_tree Legacy v one_legacy t u).agree p.second.prefix q.second.prefix (p.second.rest ++ rest) (q.second.rest ++ x) p.second.first q.second.first cut_value in
      entries_reach es fs (omega arith) p.second.rest rest q.second.rest x p.second.second q.second.second
      (rests p.second.prefix (p.second.rest ++ rest) q.second.prefix (q.second.rest ++ x) same.0 cut_value)
  entries_reach no_entries no_entries less prefix rest b x p q e = absurd (omega arith)
  entries_reach (entry k t es) no_entries less prefix rest b x p q e = absurd (omega arith)

  -- a count that is malformed, before what it counts
  count_excludes : {Q : List ℕ → Type 0} (n : ℕ) (whole body x : List ℕ) (c : Cause) → ErrorInNumber whole c → Then (λ b. VNum b n) Q body → whole ≡ body ++ x → ⊥
  count_excludes n whole body x c h p e =
      (excludes_number n).excludes whole p.prefix (p.rest ++ x) c h p.first (e ∙ ap (λ z. z ++ x) p.joined ∙ append_assoc p.prefix p.rest x)

  -- two counts of one list of bytes are one, and so is what stands after them
  count_same : {Q : List ℕ → Type 0} (m n : ℕ) (count rest body x : List ℕ) → VNum count m → (p : Then (λ b. VNum b n) Q body) → count ++ rest ≡ body ++ x
      → (m ≡ n) × (rest ≡ p.rest ++ x)
  count_same m n count rest body x h p e =
      let cut : count ++ rest ≡ p.prefix ++ (p.rest ++ x) = e ∙ ap (λ z. z ++ x) p.joined ∙ append_assoc p.prefix p.rest x in
      let same = (agree_number m n).agree count p.prefix rest (p.rest ++ x) h p.first cut in
      (same.1, rests count rest p.prefix (p.rest ++ x) same.0 cut)

  -- an object's bytes begin with its code
  array_body : (code : ℕ) (rest : List ℕ) (t : Tree) (a x : List ℕ) → code ≡ 12 → Encodes Legacy v a t → code ∷ rest ≡ a ++ x
      → (us : Elements) × (body : List ℕ) × Then (λ b. VNum b (element_count us)) (λ b. EncodesElements Legacy v b us) body × (rest ≡ body ++ x)
  array_body code rest (array us) a x is p e = (us, p.body, p.encoded, (behind_head code 12 rest a x p e).1)
  array_body code rest (leaf l) a x is p e = absurd ((leaf_coded (type_of l)).no_array (sym (behind_head code (leaf_code l) rest a x p e).0 ∙ is))
  array_body code rest (object es) a x is p e = elim p [
    | inl q ↦ absurd (omega (arith, (behind_head code 13 rest a x q e).0))
    | inr q ↦ absurd (omega (arith, (behind_head code 8 rest a x q e).0))
  ]

  object_body : (code : ℕ) (rest : List ℕ) (t : Tree) (a x : List ℕ) → code ≡ 13 → Encodes Legacy v a t → code ∷ rest ≡ a ++ x
      → (es : Entries) × (body : List ℕ) × Then (λ b. VNum b (entry_total v (entry_count es))) (λ b. EncodesEntries Legacy v b es) body × (rest ≡ body ++ x)
  object_body code rest (array us) a x is p e = absurd (omega (arith, (behind_head code 12 rest a x p e).0))
  object_body code rest (leaf l) a x is p e = absurd ((leaf_coded (type_of l)).no_object (sym (behind_head code (leaf_code l) rest a x p e).0 ∙ is))
  object_body code rest (object es) a x is p e = elim p [
    | inl q ↦ (es, q.body, q.encoded, (behind_head code 13 rest a x q e).1)
    | inr q ↦ absurd (omega (arith, (behind_head code 8 rest a x q e).0))
  ]

  leaf_error : {rest : List ℕ} {code : ℕ} {c : Cause} → ErrorInLeaf v rest code c → (t : Tree) (a x : List ℕ) → Encodes Legacy v a t → code ∷ rest ≡ a ++ x → ⊥
  leaf_error {rest} {code} f (leaf l) a x p e = let h = behind_head code (leaf_code l) rest a x p e in leaf_excludes v f l h.0 p.body x p.encoded h.1
  leaf_error {rest} {code} f (array us) a x p e = (leaf_error_code f).no_array (behind_head code 12 rest a x p e).0
  leaf_error {rest} {code} f (object es) a x p e = elim p [
    | inl q ↦ (leaf_error_code f).no_object (behind_head code 13 rest a x q e).0
    | inr q ↦ (leaf_error_code f).no_legacy (behind_head code 8 rest a x q e).0
  ]

  legacy_error : {rest : List ℕ} {c : Cause} → ErrorInLegacy rest c → (t : Tree) (a x : List ℕ) → Encodes Legacy v a t → 8 ∷ rest ≡ a ++ x → ⊥
  legacy_error {rest} f (leaf l) a x p e = (leaf_coded (type_of l)).no_legacy (sym (behind_head 8 (leaf_code l) rest a x p e).0)
  legacy_error {rest} f (array us) a x p e = omega (arith, (behind_head 8 12 rest a x p e).0)
  legacy_error {rest} {c} f (object es) a x p e = elim p [
    | inl q ↦ omega (arith, (behind_head 8 13 rest a x q e).0)
    | inr q ↦ (legacy_excludes es).excludes rest q.body x c f q.encoded (behind_head 8 8 rest a x q e).1
  ]

  pub value_excludes : {whole : List ℕ} {r : Refusal} → ErrorInValue Legacy ErrorInLegacy v whole r → (t : Tree) (a x : List ℕ) → Encodes Legacy v a t → whole ≡ a ++ x → ⊥
  value_excludes value_ends t a x p e =
      let h = head t a p in let f : [] ≡ (h.code ∷ h.body) ++ x = e ∙ ap (λ z. z ++ x) h.joined in cc
  value_excludes (unknown_code {b = b} {rest = rest} l) t a x p e =
      let h = head t a p in let f : b ∷ rest ≡ (h.code ∷ h.body) ++ x = e ∙ ap (λ z. z ++ x) h.joined in
      let k : b ≡ h.code = cc in omega (arith, h.small)
  value_excludes (float_code {rest = rest}) t a x p e =
      let h = head t a p in let f : 6 ∷ rest ≡ (h.code ∷ h.body) ++ x = e ∙ ap (λ z. z ++ x) h.joined in
      let k : h.code ≡ 6 = cc in h.known k
  value_excludes (in_leaf f) t a x p e = leaf_error f t a x p e
  value_excludes (in_legacy f) t a x p e = legacy_error f t a x p e
  value_excludes (in_count {whole = whole} {c = c} f) t a x p e =
      let h = array_body 12 whole t a x refl p e in count_excludes (element_count h.0) whole h.1 x c f h.2 h.3
  value_excludes (in_element {whole = whole} n ts count prefix rest joined q encoded less f) t a x p e =
      let h = array_body 12 whole t a x refl p e in
      let s = count_same n (element_count h.0) count (prefix ++ rest) h.1 x q h.2 (sym joined ∙ h.3) in
      let r = elements_reach ts h.0 (omega (arith, s.0)) prefix rest h.2.rest x encoded h.2.second s.1 in
      value_excludes f r.0 r.1 r.2 r.3 r.4
  value_excludes (in_entry_count {whole = whole} {c = c} f) t a x p e =
      let h = object_body 13 whole t a x refl p e in count_excludes (entry_total v (entry_count h.0)) whole h.1 x c f h.2 h.3
  value_excludes (odd_count {whole = whole} n count rest joined q none) t a x p e =
      let h = object_body 13 whole t a x refl p e in
      let s = count_same n (entry_total v (entry_count h.0)) count rest h.1 x q h.2 (sym joined ∙ h.3) in
      none (entry_count h.0) (sym s.0)
  value_excludes (in_entry_key {whole = whole} {r = refusal} n es count prefix rest joined q encoded less f) t a x p e =
      let h = object_body 13 whole t a x refl p e in
      let s = count_same (entry_total v n) (entry_total v (entry_count h.0)) count (prefix ++ rest) h.1 x q h.2 (sym joined ∙ h.3) in
      let r = entries_reach es h.0 (subst (λ m. entry_count es < m) (total_same v n (entry_count h.0) s.0) less) prefix rest h.2.rest x encoded h.2.second s.1 in
      key_excludes v rest refusal f r.0 r.2 (r.3 ++ r.4) r.5 r.7
  value_excludes (in_entry {whole = whole} n es k count prefix key rest joined q encoded less keyed f) t a x p e =
      let h = object_body 13 whole t a x refl p e in
      let s = count_same (entry_total v n) (entry_total v (entry_count h.0)) count (prefix ++ (key ++ rest)) h.1 x q h.2 (sym joined ∙ h.3) in
      let r = entries_reach es h.0 (subst (λ m. entry_count es < m) (total_same v n (entry_count h.0) s.0) less) prefix (key ++ rest) h.2.rest x encoded h.2.second s.1 in
      let same = (agree_key v k r.0).agree key r.2 rest (r.3 ++ r.4) keyed r.5 r.7 in
      value_excludes f r.1 r.3 r.4 r.6 (rests key rest r.2 (r.3 ++ r.4) same.0 r.7)

  pub excludes_field : (n : ℕ) → Excludes (ErrorInBytes 4) (λ b. Fixed 4 b n)
  excludes_field n = excludes_bytes 4 (λ b. Fixed 4 b n) (λ b q. length-fixed q)

  pub one_field : OneReading (Fixed 4)
  one_field a b x y m n p q e = (agree_fixed 4 m n).agree a b x y p q e

  pub pair_excludes : (pair : ℕ × Tree) → Excludes (ErrorInPair Legacy ErrorInLegacy v) (λ b. EncodesPair Legacy v b pair)
  pair_excludes pair =
      excludes_then (Corrupt (ErrorInBytes 4)) (Fixed 4) (λ _. ErrorInValue Legacy ErrorInLegacy v) {Q = λ b. Encodes Legacy v b pair.1} pair.0
      (excludes_corrupt (excludes_field pair.0)) one_field
      (record { excludes = λ w s y d g q k. value_excludes g pair.1 s y q k })

  pub document_excludes : (d : Document) → Excludes (ErrorInDocument Legacy ErrorInLegacy v) (λ b. EncodesDocument Legacy v b d)
  document_excludes d =
      excludes_then (Corrupt ErrorInNumber) VNum (λ n. InEach (ErrorInPair Legacy ErrorInLegacy v) (EncodesPair Legacy v) n) (length d) (excludes_corrupt (excludes_number (length d))) one_number
      (excludes_each (ErrorInPair Legacy ErrorInLegacy v) (EncodesPair Legacy v) pair_excludes (one_pair Legacy v one_legacy) (length d) d refl)

pub no_legacy_excludes : (es : Entries) → Excludes NoErrorInLegacy (λ b. NoLegacy b es)
no_legacy_excludes es = record { excludes = λ whole a x c f p e. f }
