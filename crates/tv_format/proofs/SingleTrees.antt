-- A value or a document is malformed in one way only.
use Rattle.std.proofs.Common.{◌≡◌, ◌≢◌, ◌⊎◌, ℕ, ◌<◌, List, [], ◌∷◌, ◌++◌, refl, sym, ◌∙◌, ap, subst, arith, inl, inr}
use Rattle.std.proofs.lemmas.Bool.{cases_lt}
use Rattle.tv_base.specs.declared.cause.Cause.{Cause}
use Rattle.tv_base.specs.declared.cause.Cause.TheVariants.{UnexpectedEnd, UnknownTypeCode, FloatCode, OddObject}
use Rattle.tv_base.specs.Number.{VNum, Fixed}
use Rattle.tv_base.specs.Parts.{OneReading}
use Rattle.tv_base.specs.ErrorInPart.{InEach, ErrorInNumber, ErrorInBytes}
use Rattle.tv_base.proofs.Numbers.{agree_number, one_number}
use Rattle.tv_base.proofs.Excluding.{Excludes, rests, excludes_number}
use Rattle.tv_base.proofs.Single.{Single, single_then, single_each, single_number, single_bytes}
use Rattle.tv_format.specs.Tree.{Tree, Elements, Entries, element_count, entry_count}
use Rattle.tv_format.specs.Leaves.{last_code}
use Rattle.tv_format.specs.Version.{Version, entry_total}
use Rattle.tv_format.specs.Encoding.{Key, Encodes, EncodesElements, EncodesEntries, EncodesPair}
use Rattle.tv_format.specs.InputError.{Refusal, corrupted, Corrupt, corrupt, ErrorInKey, ErrorInLeaf, ErrorInValue, value_ends, unknown_code, float_code, in_leaf, in_legacy, in_count, in_element, in_entry_count, odd_count, in_entry_key, in_entry, ErrorInPair, ErrorInDocument, NoErrorInLegacy}
use Rattle.tv_format.proofs.Leaves.{agree_key}
use Rattle.tv_format.proofs.Trees.{agree_elements, agree_entries, one_pair}
use Rattle.tv_format.proofs.ExcludingLeaves.{leaf_error_code, key_excludes, excludes_corrupt}
use Rattle.tv_format.proofs.ExcludingTrees.{elements_reach, entries_reach, value_excludes, excludes_field, one_field, pair_excludes}
use Rattle.tv_format.proofs.SingleLeaves.{leaf_single, key_single, single_corrupt}

module _ (Legacy : List ℕ → Entries → Type 0) (ErrorInLegacy : List ℕ → Cause → Type 0) (v : Version)
    (one_legacy : OneReading Legacy) (legacy_excludes : (es : Entries) → Excludes ErrorInLegacy (λ b. Legacy b es)) (legacy_single : Single ErrorInLegacy) where
  -- after the elements that are encoded
  record AtElement (whole : List ℕ) (r : Refusal) : Type 0 where
    n : ℕ
    ts : Elements
    count : List ℕ
    prefix : List ℕ
    rest : List ℕ
    joined : whole ≡ count ++ (prefix ++ rest)
    counted : VNum count n
    encoded : EncodesElements Legacy v prefix ts
    less : element_count ts < n
    error : ErrorInValue Legacy ErrorInLegacy v rest r

  -- a key, or the value after it
  data ErrorInEntry (rest : List ℕ) (r : Refusal) : Type 0 where
    of_key : ErrorInKey v rest r → ErrorInEntry rest r
    of_value : (k key after : List ℕ) → rest ≡ key ++ after → Key v key k → ErrorInValue Legacy ErrorInLegacy v after r → ErrorInEntry rest r

  record AtEntry (whole : List ℕ) (r : Refusal) : Type 0 where
    n : ℕ
    es : Entries
    count : List ℕ
    prefix : List ℕ
    rest : List ℕ
    joined : whole ≡ count ++ (prefix ++ rest)
    counted : VNum count (entry_total v n)
    encoded : EncodesEntries Legacy v prefix es
    less : entry_count es < n
    error : ErrorInEntry rest r

  data AtCount (whole : List ℕ) (r : Refusal) : Type 0 where
    no_count : Corrupt ErrorInNumber whole r → AtCount whole r
    odd : (n : ℕ) (count rest : List ℕ) → whole ≡ count ++ rest → VNum count n → ((m : ℕ) → entry_total v m ≢ n) → r ≡ corrupted OddObject → AtCount whole r

  -- by the first byte
  data Kind (whole : List ℕ) (r : Refusal) : Type 0 where
    ended : whole ≡ [] → r ≡ corrupted UnexpectedEnd → Kind whole r
    unknown : (b : ℕ) (rest : List ℕ) → whole ≡ b ∷ rest → last_code < b → r ≡ corrupted (UnknownTypeCode b) → Kind whole r
    float : (rest : List ℕ) → whole ≡ 6 ∷ rest → r ≡ corrupted FloatCode → Kind whole r
    of_leaf : (code : ℕ) (rest : List ℕ) (c : Cause) → whole ≡ code ∷ rest → ErrorInLeaf v rest code c → r ≡ corrupted c → Kind whole r
    of_legacy : (rest : List ℕ) (c : Cause) → whole ≡ 8 ∷ rest → ErrorInLegacy rest c → r ≡ corrupted c → Kind whole r
    of_array : (rest : List ℕ) → whole ≡ 12 ∷ rest → Corrupt ErrorInNumber rest r ⊎ AtElement rest r → Kind whole r
    of_object : (rest : List ℕ) → whole ≡ 13 ∷ rest → AtCount rest r ⊎ AtEntry rest r → Kind whole r

  kind : {whole : List ℕ} {r : Refusal} → ErrorInValue Legacy ErrorInLegacy v whole r → Kind whole r
  kind value_ends = ended refl refl
  kind (unknown_code l) = unknown _ _ refl l refl
  kind float_code = float _ refl refl
  kind (in_leaf f) = of_leaf _ _ _ refl f refl
  kind (in_legacy f) = of_legacy _ _ refl f refl
  kind (in_count f) = of_array _ refl (inl (corrupt f))
  kind (in_element n ts count prefix rest joined q encoded less f) = of_array _ refl (inr (record { n = n; ts = ts; count = count; prefix = prefix; rest = rest; joined = joined; counted = q; encoded = encoded; less = less; error = f }))
  kind (in_entry_count f) = of_object _ refl (inl (no_count (corrupt f)))
  kind (odd_count n count rest joined q none) = of_object _ refl (inl (odd n count rest joined q none refl))
  kind (in_entry_key n es count prefix rest joined q encoded less f) = of_object _ refl (inr (record { n = n; es = es; count = count; prefix = prefix; rest = rest; joined = joined; counted = q; encoded = encoded; less = less; error = of_key f }))
  kind (in_entry n es k count prefix key rest joined q encoded less keyed f) =
      of_object _ refl (inr (record { n = n; es = es; count = count; prefix = prefix; rest = key ++ rest; joined = joined; counted = q; encoded = encoded; less = less; error = of_value k key rest refl keyed f }))

  heads : {a b : ℕ} {x y : List ℕ} → a ∷ x ≡ b ∷ y → (a ≡ b) × (x ≡ y)
  heads e = (cc, cc)

  at_end : {s : Refusal} → Kind [] s → corrupted UnexpectedEnd ≡ s
  at_end (ended e is) = sym is
  at_end (unknown b rest e l is) = absurd cc
  at_end (float rest e is) = absurd cc
  at_end (of_leaf code rest c e f is) = absurd cc
  at_end (of_legacy rest c e f is) = absurd cc
  at_end (of_array rest e f) = absurd cc
  at_end (of_object rest e f) = absurd cc

  at_unknown : (b : ℕ) (rest : List ℕ) → last_code < b → {s : Refusal} → Kind (b ∷ rest) s → corrupted (UnknownTypeCode b) ≡ s
  at_unknown b rest l (unknown d r e k is) = ap (λ (n : ℕ). corrupted (UnknownTypeCode n)) (heads e).0 ∙ sym is
  at_unknown b rest l (ended e is) = absurd cc
  at_unknown b rest l (float r e is) = absurd (omega (arith, (heads e).0))
  at_unknown b rest l (of_leaf code r c e f is) = absurd (omega (arith, (heads e).0, (leaf_error_code f).known))
  at_unknown b rest l (of_legacy r c e f is) = absurd (omega (arith, (heads e).0))
  at_unknown b rest l (of_array r e f) = absurd (omega (arith, (heads e).0))
  at_unknown b rest l (of_object r e f) = absurd (omega (arith, (heads e).0))

  no_float : {rest : List ℕ} {code : ℕ} {c : Cause} → ErrorInLeaf v rest code c → 6 ≡ code → ⊥
  no_float f e = (leaf_error_code f).no_float (sym e)

  at_float : {rest : List ℕ} {s : Refusal} → Kind (6 ∷ rest) s → corrupted FloatCode ≡ s
  at_float (float r e is) = sym is
  at_float (unknown d r e k is) = absurd (omega (arith, (heads e).0))
  at_float (ended e is) = absurd cc
  at_float (of_leaf code r c e f is) = absurd (no_float f (heads e).0)
  at_float (of_legacy r c e f is) = absurd (omega (arith, (heads e).0))
  at_float (of_array r e f) = absurd (omega (arith, (heads e).0))
  at_float (of_object r e f) = absurd (omega (arith, (heads e).0))

  at_leaf : {code : ℕ} {rest : List ℕ} {c : Cause} → ErrorInLeaf v rest code c → {s : Refusal} → Kind (code ∷ rest) s → corrupted c ≡ s
  at_leaf f (of_leaf d r c e g is) = ap corrupted (leaf_single v f g (heads e).0 (heads e).1) ∙ sym is
  at_leaf f (unknown d r e k is) = absurd (omega (arith, (heads e).0, (leaf_error_code f).known))
  at_leaf f (float r e is) = absurd (no_float f (sym (heads e).0))
  at_leaf f (ended e is) = absurd cc
  at_leaf f (of_legacy r c e g is) = absurd ((leaf_error_code f).no_legacy (heads e).0)
  at_leaf f (of_array r e g) = absurd ((leaf_error_code f).no_array (heads e).0)
  at_leaf f (of_object r e g) = absurd ((leaf_error_code f).no_object (heads e).0)

  at_legacy : {rest : List ℕ} {c : Cause} → ErrorInLegacy rest c → {s : Refusal} → Kind (8 ∷ rest) s → corrupted c ≡ s
  at_legacy {rest} {c} f (of_legacy r d e g is) = ap corrupted (legacy_single.single rest c d f (subst (λ l. ErrorInLegacy l d) (sym (heads e).1) g)) ∙ sym is
  at_legacy f (of_leaf d r c e g is) = absurd ((leaf_error_code g).no_legacy (sym (heads e).0))
  at_legacy f (unknown d r e k is) = absurd (omega (arith, (heads e).0))
  at_legacy f (float r e is) = absurd (omega (arith, (heads e).0))
  at_legacy f (ended e is) = absurd cc
  at_legacy f (of_array r e g) = absurd (omega (arith, (heads e).0))
  at_legacy f (of_object r e g) = absurd (omega (arith, (heads e).0))

  at_array : {rest : List ℕ} {s : Refusal} → Kind (12 ∷ rest) s → Corrupt ErrorInNumber rest s ⊎ AtElement rest s
  at_array {s = s} (of_array r e g) = subst (λ l. Corrupt ErrorInNumber l s ⊎ AtElement l s) (sym (heads e).1) g
  at_array (of_legacy r d e g is) = absurd (omega (arith, (heads e).0))
  at_array (of_leaf d r c e g is) = absurd ((leaf_error_code g).no_array (sym (heads e).0))
  at_array (unknown d r e k is) = absurd (omega (arith, (heads e).0))
  at_array (float r e is) = absurd (omega (arith, (heads e).0))
  at_array (ended e is) = absurd cc
  at_array (of_object r e g) = absurd (omega (arith, (heads e).0))

  at_object : {rest : List ℕ} {s : Refusal} → Kind (13 ∷ rest) s → AtCount rest s ⊎ AtEntry rest s
  at_object {s = s} (of_object r e g) = subst (λ l. AtCount l s ⊎ AtEntry l s) (sym (heads e).1) g
  at_object (of_legacy r d e g is) = absurd (omega (arith, (heads e).0))
  at_object (of_leaf d r c e g is) = absurd ((leaf_error_code g).no_object (sym (heads e).0))
  at_object (unknown d r e k is) = absurd (omega (arith, (heads e).0))
  at_object (float r e is) = absurd (omega (arith, (heads e).0))
  at_object (ended e is) = absurd cc
  at_object (of_array r e g) = absurd (omega (arith, (heads e).0))

  -- a number isn't both encoded and malformed
  not_both : {whole count : List ℕ} {r : Refusal} {n : ℕ} (rest : List ℕ) → Corrupt ErrorInNumber whole r → VNum count n → whole ≡ count ++ rest → ⊥
  not_both {whole} {count} {r} {n} rest f q e = (excludes_corrupt (excludes_number n)).excludes whole count rest r f q e

  counts : {whole r r' : List ℕ} {a b : List ℕ} {m n : ℕ} → VNum a m → VNum b n → whole ≡ a ++ r → whole ≡ b ++ r' → (m ≡ n) × (r ≡ r')
  counts {r = r} {r' = r'} {a = a} {b = b} {m = m} {n = n} p q e f =
      let same = (agree_number m n).agree a b r r' p q (sym e ∙ f) in
      (same.1, rests a r b r' same.0 (sym e ∙ f))

  numbers_single : (whole : List ℕ) (r s : Refusal) → Corrupt ErrorInNumber whole r → Corrupt ErrorInNumber whole s → r ≡ s
  numbers_single whole r s f g = (single_corrupt ErrorInNumber single_number).single whole r s f g

  -- ---- elements

  element_before : {r : Refusal} (ts us : Elements) → element_count ts < element_count us → (prefix rest b x : List ℕ)
      → EncodesElements Legacy v prefix ts → EncodesElements Legacy v b us → prefix ++ rest ≡ b ++ x → ErrorInValue Legacy ErrorInLegacy v rest r → ⊥
  element_before ts us l prefix rest b x p q e f =
      let t = elements_reach Legacy ErrorInLegacy v one_legacy legacy_excludes ts us l prefix rest b x p q e in
      value_excludes Legacy ErrorInLegacy v one_legacy legacy_excludes f t.0 t.1 t.2 t.3 t.4

  elements_single : {whole : List ℕ} {r s : Refusal} (a : AtElement whole r) → ((rest : List ℕ) → a.rest ≡ rest → ErrorInValue Legacy ErrorInLegacy v rest s → r ≡ s) → AtElement whole s → r ≡ s
  elements_single {whole} {r} {s} a same b =
      let c = counts a.counted b.counted a.joined b.joined in
      elim (cases_lt (element_count a.ts) (element_count b.ts)) as (λ _. r ≡ s) [
        | inl l ↦ absurd (element_before a.ts b.ts l a.prefix a.rest b.prefix b.rest a.encoded b.encoded c.1 a.error)
        | inr g ↦ (elim (cases_lt (element_count b.ts) (element_count a.ts)) as (λ _. r ≡ s) [
          | inl l ↦ absurd (element_before b.ts a.ts l b.prefix b.rest a.prefix a.rest b.encoded a.encoded (sym c.1) b.error)
          | inr h ↦
              let prefix = (agree_elements Legacy v one_legacy a.ts b.ts (omega arith)).agree a.prefix b.prefix a.rest b.rest a.encoded b.encoded c.1 in
              same b.rest (rests a.prefix a.rest b.prefix b.rest prefix.0 c.1) b.error
        ])
      ]

  -- ---- entries

  entry_here : {r : Refusal} {rest : List ℕ} (k : List ℕ) (t : Tree) (key a y : List ℕ) → Key v key k → Encodes Legacy v a t → rest ≡ key ++ (a ++ y) → ErrorInEntry rest r → ⊥
  entry_here {r} {rest} k t key a y keyed encoded e (of_key f) = key_excludes v rest r f k key (a ++ y) keyed e
  entry_here {r} {rest} k t key a y keyed encoded e (of_value j q after joined named f) =
      let same = (agree_key v j k).agree q key after (a ++ y) named keyed (sym joined ∙ e) in
      value_excludes Legacy ErrorInLegacy v one_legacy legacy_excludes f t a y encoded (rests q after key (a ++ y) same.0 (sym joined ∙ e))

  entry_before : {r : Refusal} (es fs : Entries) → entry_count es < entry_count fs → (prefix rest b x : List ℕ)
      → EncodesEntries Legacy v prefix es → EncodesEntries Legacy v b fs → prefix ++ rest ≡ b ++ x → ErrorInEntry rest r → ⊥
  entry_before es fs l prefix rest b x p q e f =
      let t = entries_reach Legacy ErrorInLegacy v one_legacy legacy_excludes es fs l prefix rest b x p q e in
      entry_here t.0 t.1 t.2 t.3 t.4 t.5 t.6 t.7 f

  entries_single : {whole : List ℕ} {r s : Refusal} (a : AtEntry whole r) → ((rest : List ℕ) → a.rest ≡ rest → ErrorInEntry rest s → r ≡ s) → AtEntry whole s → r ≡ s
  entries_single {whole} {r} {s} a same b =
      let c = counts a.counted b.counted a.joined b.joined in
      elim (cases_lt (entry_count a.es) (entry_count b.es)) as (λ _. r ≡ s) [
        | inl l ↦ absurd (entry_before a.es b.es l a.prefix a.rest b.prefix b.rest a.encoded b.encoded c.1 a.error)
        | inr g ↦ (elim (cases_lt (entry_count b.es) (entry_count a.es)) as (λ _. r ≡ s) [
          | inl l ↦ absurd (entry_before b.es a.es l b.prefix b.rest a.prefix a.rest b.encoded a.encoded (sym c.1) b.error)
          | inr h ↦
              let prefix = (agree_entries Legacy v one_legacy a.es b.es (omega arith)).agree a.prefix b.prefix a.rest b.rest a.encoded b.encoded c.1 in
              same b.rest (rests a.prefix a.rest b.prefix b.rest prefix.0 c.1) b.error
        ])
      ]

  -- where a key is malformed, and where a value after its key is
  key_only : {rest other : List ℕ} {r s : Refusal} → ErrorInKey v rest r → rest ≡ other → ErrorInEntry other s → r ≡ s
  key_only {rest} {r = r} {s = s} f e (of_key g) = key_single v rest r s f (subst (λ l. ErrorInKey v l s) (sym e) g)
  key_only {rest} {r = r} f e (of_value k key after joined keyed g) = absurd (key_excludes v rest r f k key after keyed (e ∙ joined))

  value_only : {other : List ℕ} {r s : Refusal} (key rest k : List ℕ) → Key v key k → ((w : List ℕ) → rest ≡ w → ErrorInValue Legacy ErrorInLegacy v w s → r ≡ s) → key ++ rest ≡ other → ErrorInEntry other s → r ≡ s
  value_only {other} {s = s} key rest k keyed same e (of_key g) = absurd (key_excludes v other s g k key rest keyed (sym e))
  value_only key rest k keyed same e (of_value j q after joined named g) =
      let keys = (agree_key v k j).agree key q rest after keyed named (e ∙ joined) in
      same after (rests key rest q after keys.0 (e ∙ joined)) g

  -- ---- counts

  count_only : {whole : List ℕ} {r s : Refusal} → Corrupt ErrorInNumber whole r → AtCount whole s ⊎ AtEntry whole s → r ≡ s
  count_only {whole} {r} {s} f (inl (no_count g)) = numbers_single whole r s f g
  count_only f (inl (odd n count rest joined q none is)) = absurd (not_both _ f q joined)
  count_only f (inr b) = absurd (not_both _ f b.counted b.joined)

  odd_only : {whole count : List ℕ} {s : Refusal} {n : ℕ} (rest : List ℕ) → whole ≡ count ++ rest → VNum count n → ((m : ℕ) → entry_total v m ≢ n) → AtCount whole s ⊎ AtEntry whole s → corrupted OddObject ≡ s
  odd_only rest e q none (inl (no_count g)) = absurd (not_both _ g q e)
  odd_only rest e q none (inl (odd n count r joined p other is)) = sym is
  odd_only rest e q none (inr b) = absurd (none b.n (sym (counts q b.counted e b.joined).0))

  entry_only : {whole : List ℕ} {r s : Refusal} (a : AtEntry whole r) → ((rest : List ℕ) → a.rest ≡ rest → ErrorInEntry rest s → r ≡ s) → AtCount whole s ⊎ AtEntry whole s → r ≡ s
  entry_only a same (inl (no_count g)) = absurd (not_both _ g a.counted a.joined)
  entry_only a same (inl (odd n count rest joined q none is)) = absurd (none a.n (counts a.counted q a.joined joined).0)
  entry_only a same (inr b) = entries_single a same b

  element_only : {whole : List ℕ} {r s : Refusal} (a : AtElement whole r) → ((rest : List ℕ) → a.rest ≡ rest → ErrorInValue Legacy ErrorInLegacy v rest s → r ≡ s) → Corrupt ErrorInNumber whole s ⊎ AtElement whole s → r ≡ s
  element_only a same (inl g) = absurd (not_both _ g a.counted a.joined)
  element_only a same (inr b) = elements_single a same b

  array_count_only : {whole : List ℕ} {r s : Refusal} → Corrupt ErrorInNumber whole r → Corrupt ErrorInNumber whole s ⊎ AtElement whole s → r ≡ s
  array_count_only {whole} {r} {s} f (inl g) = numbers_single whole r s f g
  array_count_only f (inr b) = absurd (not_both _ f b.counted b.joined)

  pub value_single : {whole other : List ℕ} {r s : Refusal} → ErrorInValue Legacy ErrorInLegacy v whole r → whole ≡ other → ErrorInValue Legacy ErrorInLegacy v other s → r ≡ s
  value_single {s = s} value_ends e g = at_end (subst (λ l. Kind l s) (sym e) (kind g))
  value_single {s = s} (unknown_code l) e g = at_unknown _ _ l (subst (λ l. Kind l s) (sym e) (kind g))
  value_single {s = s} float_code e g = at_float (subst (λ l. Kind l s) (sym e) (kind g))
  value_single {s = s} (in_leaf f) e g = at_leaf f (subst (λ l. Kind l s) (sym e) (kind g))
  value_single {s = s} (in_legacy f) e g = at_legacy f (subst (λ l. Kind l s) (sym e) (kind g))
  value_single {s = s} (in_count f) e g = array_count_only (corrupt f) (at_array (subst (λ l. Kind l s) (sym e) (kind g)))
  value_single {s = s} (in_element n ts count prefix rest joined q encoded less f) e g =
      element_only (record { n = n; ts = ts; count = count; prefix = prefix; rest = rest; joined = joined; counted = q; encoded = encoded; less = less; error = f })
      (λ w is h. value_single f is h) (at_array (subst (λ l. Kind l s) (sym e) (kind g)))
  value_single {s = s} (in_entry_count f) e g = count_only (corrupt f) (at_object (subst (λ l. Kind l s) (sym e) (kind g)))
  value_single {s = s} (odd_count n count rest joined q none) e g = odd_only rest joined q none (at_object (subst (λ l. Kind l s) (sym e) (kind g)))
  value_single {s = s} (in_entry_key n es count prefix rest joined q encoded less f) e g =
      entry_only (record { n = n; es = es; count = count; prefix = prefix; rest = rest; joined = joined; counted = q; encoded = encoded; less = less; error = of_key f })
      (λ w is h. key_only f is h) (at_object (subst (λ l. Kind l s) (sym e) (kind g)))
  value_single {s = s} (in_entry n es k count prefix key rest joined q encoded less keyed f) e g =
      entry_only (record { n = n; es = es; count = count; prefix = prefix; rest = key ++ rest; joined = joined; counted = q; encoded = encoded; less = less; error = of_value k key rest refl keyed f })
      (λ w is h. value_only key rest k keyed (λ u same i. value_single f same i) is h) (at_object (subst (λ l. Kind l s) (sym e) (kind g)))

  single_value : Single (ErrorInValue Legacy ErrorInLegacy v)
  single_value = record { single = λ whole r s f g. value_single f refl g }

  single_pair : Single (ErrorInPair Legacy ErrorInLegacy v)
  single_pair = single_then {R = Fixed 4} {G = λ _. ErrorInValue Legacy ErrorInLegacy v} (single_corrupt (ErrorInBytes 4) (single_bytes 4))
      (λ n. excludes_corrupt (excludes_field Legacy ErrorInLegacy v one_legacy legacy_excludes n)) (one_field Legacy ErrorInLegacy v one_legacy legacy_excludes) (λ _. single_value)

  pub single_document : Single (ErrorInDocument Legacy ErrorInLegacy v)
  single_document = single_then {R = VNum} {G = λ n. InEach (ErrorInPair Legacy ErrorInLegacy v) (EncodesPair Legacy v) n} (single_corrupt ErrorInNumber single_number)
      (λ n. excludes_corrupt (excludes_number n)) one_number
      (λ n. single_each {R = EncodesPair Legacy v} single_pair (pair_excludes Legacy ErrorInLegacy v one_legacy legacy_excludes) (one_pair Legacy v one_legacy) n)

no_legacy_single : (whole : List ℕ) (c d : Cause) → NoErrorInLegacy whole c → NoErrorInLegacy whole d → c ≡ d
no_legacy_single whole c d f g = absurd f

pub single_no_legacy : Single NoErrorInLegacy
single_no_legacy = record { single = no_legacy_single }
