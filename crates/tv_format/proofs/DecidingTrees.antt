-- Any bytes begin with a value, or they are malformed; so of documents. The bytes after a value's code are fewer, so their bound falls.
use Rattle.std.proofs.Common.{◌≡◌, ◌≢◌, ◌⊎◌, ℕ, zero, suc, ◌*◌, ◌%◌, ◌/◌, ◌≤◌, List, [], ◌∷◌, ◌++◌, length, refl, sym, ap, subst, ◌∙◌, arith, append_assoc, length-append, inl, inr}
use Rattle.std.proofs.lemmas.Bool.{cases_lt}
use Rattle.std.proofs.lemmas.Bool.Decides.{eqb_tells}
use Rattle.tv_base.specs.declared.cause.Cause.{Cause}
use Rattle.tv_base.specs.declared.cause.Cause.TheVariants.{UnexpectedEnd, UnknownTypeCode, FloatCode, OddObject}
use Rattle.tv_base.specs.Number.{VNum, Fixed}
use Rattle.tv_base.specs.Parts.{Then}
use Rattle.tv_base.specs.ErrorInPart.{InThen, InEach, ErrorInNumber, ErrorInBytes}
use Rattle.tv_base.specs.Source.{AllBytes}
use Rattle.tv_base.proofs.AgreeNumbers.{vint_agrees}
use Rattle.tv_base.proofs.Deciding.{Decided, begins, malformed, Decides, Both, Items, decides_as, decides_then, decides_each, decides_by}
use Rattle.tv_base.proofs.SmallBytes.{bytes_after}
use Rattle.tv_format.specs.InputError.{Refusal, corrupted, Corrupt, corrupt, ErrorInKey, ErrorInValue, value_ends, unknown_code, float_code, in_leaf, in_legacy, in_count, in_element, in_entry_count, odd_count, in_entry_key, in_entry, ErrorInPair, ErrorInDocument}
use Rattle.tv_format.specs.ErrorInList.{ErrorInElements, ErrorInEntries, in_next_key, in_next_value}
use Rattle.tv_format.specs.Encoding.{Key, Encodes, EncodesElements, EncodesEntries, EncodesPair, EncodesDocument}
use Rattle.tv_format.specs.Tree.{Tree, leaf, array, object, Elements, no_elements, element, element_count, Entries, no_entries, entry, entry_count}
use Rattle.tv_format.specs.Version.{Version, V1, V2, V3, entry_total}
use Rattle.tv_format.specs.Leaves.{store_code, last_code}
use Rattle.tv_format.specs.LeavesLaws.{code_of_leaf}
use Rattle.tv_format.proofs.DecidingLeaves.{LeafAt, LeafWrong, decides_leaf, decides_key, decides_field}

-- what an object's number says of its entries
data Entered (v : Version) (n : ℕ) : Type 0 where
  entered : (m : ℕ) → entry_total v m ≡ n → Entered v n
  odd : ((m : ℕ) → entry_total v m ≢ n) → Entered v n

twice : (n : ℕ) → ((m : ℕ) × (2 * m ≡ n)) ⊎ ((m : ℕ) → 2 * m ≢ n)
twice n = elim (eqb_tells (n % 2) 0) [
  | inl p ↦ let even : n % 2 ≡ 0 = p.1 in inl (n / 2, omega arith)
  | inr p ↦ inr (λ m e. p.1 (omega (arith, e)))
]

entries_of : (v : Version) (n : ℕ) → Entered v n
entries_of V1 n = elim (twice n) [ inl p ↦ entered p.0 p.1 | inr p ↦ odd p ]
entries_of V2 n = elim (twice n) [ inl p ↦ entered p.0 p.1 | inr p ↦ odd p ]
entries_of V3 n = entered n refl

-- the last two of four parts after the first two
regroup : (a b c d e : List ℕ) → e ≡ c ++ d → a ++ (b ++ e) ≡ (a ++ (b ++ c)) ++ d
regroup a b c d e p = ap (λ (l : List ℕ). a ++ (b ++ l)) p ∙ ap (λ (l : List ℕ). a ++ l) (sym (append_assoc b c d)) ∙ sym (append_assoc a (b ++ c) d)

module _ (Legacy : List ℕ → Entries → Type 0) (ErrorInLegacy : List ℕ → Cause → Type 0) (v : Version)
    (decides_legacy : (most : ℕ) → Decides most Legacy ErrorInLegacy) where
  abbrev Value : List ℕ → Tree → Type 0
  Value = Encodes Legacy v

  abbrev InputError : List ℕ → Refusal → Type 0
  InputError = ErrorInValue Legacy ErrorInLegacy v

  -- ---- this many elements

  abbrev ElementsOf : ℕ → List ℕ → Elements → Type 0
  ElementsOf n whole ts = (element_count ts ≡ n) × EncodesElements Legacy v whole ts

  abbrev NoElements : ℕ → List ℕ → Refusal → Type 0
  NoElements n whole r = ErrorInElements Legacy ErrorInLegacy v n whole r

  none_before : (n : ℕ) (whole : List ℕ) (r : Refusal) → InputError whole r → NoElements (suc n) whole r
  none_before n whole r f = record { before = no_elements; prefix = []; rest = whole; joined = refl; encoded = refl; fewer = omega arith; error = f }

  one_before : (n : ℕ) (t : Tree) (whole : List ℕ) (r : Refusal) → Then (λ b. Value b t) (λ b. NoElements n b r) whole → NoElements (suc n) whole r
  one_before n t whole r h =
      let f = h.second in
      record {
        before = element t f.before;
        prefix = h.prefix ++ f.prefix;
        rest = f.rest;
        joined = h.joined ∙ ap (λ (l : List ℕ). h.prefix ++ l) f.joined ∙ sym (append_assoc h.prefix f.prefix f.rest);
        encoded = record { prefix = h.prefix; rest = f.prefix; joined = refl; first = h.first; second = f.encoded };
        fewer = omega (arith, f.fewer);
        error = f.error;
      }

  in_elements : (n : ℕ) (whole : List ℕ) (r : Refusal) → InThen InputError Value (λ _. NoElements n) whole r → NoElements (suc n) whole r
  in_elements n whole r p = elim p [ inl f ↦ none_before n whole r f | inr q ↦ one_before n q.0 whole r q.1 ]

  decides_elements : (most : ℕ) → Decides most Value InputError → (n : ℕ) → Decides most (ElementsOf n) (NoElements n)
  decides_elements most value zero = record { decides = λ whole small le. begins no_elements [] whole refl (refl, refl) }
  decides_elements most value (suc n) =
      decides_as (ElementsOf (suc n)) (NoElements (suc n)) (λ p. element p.0 p.1) (λ r. r)
      (λ b p h. (ap suc h.second.0, record { prefix = h.prefix; rest = h.rest; joined = h.joined; first = h.first; second = h.second.1 })) (in_elements n)
      (decides_then InputError Value (λ _. ElementsOf n) (λ _. NoElements n) value (λ _. decides_elements most value n))

  -- ---- this many entries

  abbrev EntriesOf : ℕ → List ℕ → Entries → Type 0
  EntriesOf n whole es = (entry_count es ≡ n) × EncodesEntries Legacy v whole es

  abbrev NoEntries : ℕ → List ℕ → Refusal → Type 0
  NoEntries n whole r = ErrorInEntries Legacy ErrorInLegacy v n whole r

  -- a key and a value, before the others
  further : (n : ℕ) (k : List ℕ) (t : Tree) (whole key value rest : List ℕ) (r : Refusal) → whole ≡ key ++ (value ++ rest) → Key v key k → Value value t → NoEntries n rest r → NoEntries (suc n) whole r
  further n k t whole key value rest r joined keyed encoded (in_next_key es prefix after cut before less f) =
      in_next_key (entry k t es) (key ++ (value ++ prefix)) after (joined ∙ regroup key value prefix after rest cut)
      (record { prefix = key; rest = value ++ prefix; joined = refl; first = keyed; second = record { prefix = value; rest = prefix; joined = refl; first = encoded; second = before } }) (omega arith) f
  further n k t whole key value rest r joined keyed encoded (in_next_value es l prefix next after cut before less named f) =
      in_next_value (entry k t es) l (key ++ (value ++ prefix)) next after (joined ∙ regroup key value prefix (next ++ after) rest cut)
      (record { prefix = key; rest = value ++ prefix; joined = refl; first = keyed; second = record { prefix = value; rest = prefix; joined = refl; first = encoded; second = before } }) (omega arith) named f

  behind_key : (n : ℕ) (k whole key rest : List ℕ) (r : Refusal) → whole ≡ key ++ rest → Key v key k → InThen InputError Value (λ _. NoEntries n) rest r → NoEntries (suc n) whole r
  behind_key n k whole key rest r joined keyed p = elim p [
    | inl f ↦ in_next_value no_entries k [] key rest joined refl (omega arith) keyed f
    | inr q ↦ further n k q.0 whole key q.1.prefix q.1.rest r (joined ∙ ap (λ (l : List ℕ). key ++ l) q.1.joined) keyed q.1.first q.1.second
  ]

  in_entries : (n : ℕ) (whole : List ℕ) (r : Refusal) → InThen (ErrorInKey v) (Key v) (λ _. InThen InputError Value (λ _. NoEntries n)) whole r → NoEntries (suc n) whole r
  in_entries n whole r p = elim p [
    | inl f ↦ in_next_key no_entries [] whole refl refl (omega arith) f
    | inr q ↦ behind_key n q.0 whole q.1.prefix q.1.rest r q.1.joined q.1.first q.1.second
  ]

  abbrev ValueThen : ℕ → List ℕ → Tree × Entries → Type 0
  ValueThen n = Both Value (λ _. EntriesOf n)

  decides_entries : (most : ℕ) → Decides most Value InputError → (n : ℕ) → Decides most (EntriesOf n) (NoEntries n)
  decides_entries most value zero = record { decides = λ whole small le. begins no_entries [] whole refl (refl, refl) }
  decides_entries most value (suc n) =
      decides_as (EntriesOf (suc n)) (NoEntries (suc n)) (λ p. entry p.0 p.1.0 p.1.1) (λ r. r)
      (λ b p h. (
        ap suc h.second.second.0,
        record {
          prefix = h.prefix;
          rest = h.rest;
          joined = h.joined;
          first = h.first;
          second = record { prefix = h.second.prefix; rest = h.second.rest; joined = h.second.joined; first = h.second.first; second = h.second.second.1 };
        },
      ))
      (in_entries n)
      (decides_then (ErrorInKey v) (Key v) (λ _. ValueThen n) (λ _. InThen InputError Value (λ _. NoEntries n)) (decides_key most v)
      (λ _. decides_then InputError Value (λ _. EntriesOf n) (λ _. NoEntries n) value (λ _. decides_entries most value n)))

  -- ---- values, by their code

  of_leaf : (most code : ℕ) → Decides most (LeafAt v code) (LeafWrong v code) → (rest : List ℕ) → AllBytes rest → length rest ≤ most → Decided Value InputError (code ∷ rest)
  of_leaf most code d rest small le = coded (d.decides rest small le)
    where
      coded : Decided (LeafAt v code) (LeafWrong v code) rest → Decided Value InputError (code ∷ rest)
      coded (begins l prefix after joined h) =
          begins (leaf l) (code ∷ prefix) after (ap (λ (b : List ℕ). code ∷ b) joined) (record { body = prefix; joined = ap (λ (c : ℕ). c ∷ prefix) (sym h.0); encoded = h.1 })
      coded (malformed c f) = malformed (corrupted c) (in_leaf f)

  of_legacy : (most : ℕ) (rest : List ℕ) → AllBytes rest → length rest ≤ most → Decided Value InputError (8 ∷ rest)
  of_legacy most rest small le = coded ((decides_legacy most).decides rest small le)
    where
      coded : Decided Legacy ErrorInLegacy rest → Decided Value InputError (8 ∷ rest)
      coded (begins es prefix after joined h) = begins (object es) (8 ∷ prefix) after (ap (λ (b : List ℕ). 8 ∷ b) joined) (inr (record { body = prefix; joined = refl; encoded = h }))
      coded (malformed c f) = malformed (corrupted c) (in_legacy f)

  of_array : (most : ℕ) → Decides most Value InputError → (rest : List ℕ) → AllBytes rest → length rest ≤ most → Decided Value InputError (12 ∷ rest)
  of_array most value rest small le = counted ((decides_by most vint_agrees).decides rest small le)
    where
      listed : (n : ℕ) (count after : List ℕ) → rest ≡ count ++ after → VNum count n → Decided (ElementsOf n) (NoElements n) after → Decided Value InputError (12 ∷ rest)
      listed n count after joined number (begins ts prefix behind cut h) =
          begins (array ts) (12 ∷ (count ++ prefix)) behind (ap (λ (b : List ℕ). 12 ∷ b) (joined ∙ ap (λ (l : List ℕ). count ++ l) cut ∙ sym (append_assoc count prefix behind)))
          (record { body = count ++ prefix; joined = refl; encoded = record { prefix = count; rest = prefix; joined = refl; first = subst (VNum count) (sym h.0) number; second = h.1 } })
      listed n count after joined number (malformed r f) =
          malformed r (in_element n f.before count f.prefix f.rest (joined ∙ ap (λ (l : List ℕ). count ++ l) f.joined) number f.encoded f.fewer f.error)

      counted : Decided VNum ErrorInNumber rest → Decided Value InputError (12 ∷ rest)
      counted (begins n count after joined number) =
          listed n count after joined number ((decides_elements most value n).decides after (bytes_after rest count after joined small) (omega (arith, ap length joined, length-append count after)))
      counted (malformed c f) = malformed (corrupted c) (in_count f)

  of_object : (most : ℕ) → Decides most Value InputError → (rest : List ℕ) → AllBytes rest → length rest ≤ most → Decided Value InputError (13 ∷ rest)
  of_object most value rest small le = counted ((decides_by most vint_agrees).decides rest small le)
    where
      listed : (n : ℕ) (count after : List ℕ) → rest ≡ count ++ after → VNum count (entry_total v n) → Decided (EntriesOf n) (NoEntries n) after → Decided Value InputError (13 ∷ rest)
      listed n count after joined number (begins es prefix behind cut h) =
          begins (object es) (13 ∷ (count ++ prefix)) behind (ap (λ (b : List ℕ). 13 ∷ b) (joined ∙ ap (λ (l : List ℕ). count ++ l) cut ∙ sym (append_assoc count prefix behind)))
          (inl (record { body = count ++ prefix; joined = refl; encoded = record { prefix = count; rest = prefix; joined = refl; first = subst (λ m. VNum count (entry_total v m)) (sym h.0) number; second = h.1 } }))
      listed n count after joined number (malformed r (in_next_key es prefix behind cut before less f)) =
          malformed r (in_entry_key n es count prefix behind (joined ∙ ap (λ (l : List ℕ). count ++ l) cut) number before less f)
      listed n count after joined number (malformed r (in_next_value es k prefix key behind cut before less keyed f)) =
          malformed r (in_entry n es k count prefix key behind (joined ∙ ap (λ (l : List ℕ). count ++ l) cut) number before less keyed f)

      halved : (n : ℕ) (count after : List ℕ) → rest ≡ count ++ after → VNum count n → Entered v n → Decided Value InputError (13 ∷ rest)
      halved n count after joined number (entered m is) =
          listed m count after joined (subst (VNum count) (sym is) number)
          ((decides_entries most value m).decides after (bytes_after rest count after joined small) (omega (arith, ap length joined, length-append count after)))
      halved n count after joined number (odd none) = malformed (corrupted OddObject) (odd_count n count after joined number none)

      counted : Decided VNum ErrorInNumber rest → Decided Value InputError (13 ∷ rest)
      counted (begins n count after joined number) = halved n count after joined number (entries_of v n)
      counted (malformed c f) = malformed (corrupted c) (in_entry_count f)

  leaf_or_unknown : (most code : ℕ) (rest : List ℕ) → AllBytes rest → length rest ≤ most → code ≢ 6 → code ≢ 8 → code ≢ 12 → code ≢ 13 → Decided Value InputError (code ∷ rest)
  leaf_or_unknown most code rest small le not_float not_legacy not_array not_object = elim (cases_lt code (suc last_code)) as (λ _. Decided Value InputError (code ∷ rest)) [
    | inl less ↦
        let k = code_of_leaf code (record { known = omega (arith, less); no_float = not_float; no_legacy = not_legacy; no_array = not_array; no_object = not_object }) in
        subst (λ (n : ℕ). Decided Value InputError (n ∷ rest)) k.1 (of_leaf most (store_code k.0) (decides_leaf most v k.0) rest small le)
    | inr more ↦ malformed (corrupted (UnknownTypeCode code)) (unknown_code (omega (arith, more)))
  ]

  of_code : (most : ℕ) → Decides most Value InputError → (code : ℕ) (rest : List ℕ) → AllBytes rest → length rest ≤ most → Decided Value InputError (code ∷ rest)
  of_code most value code rest small le =
      let Goal = λ (n : ℕ). Decided Value InputError (n ∷ rest) in
      elim (eqb_tells code 6) as (λ _. Goal code) [
        | inl p ↦ subst Goal (sym p.1) (malformed (corrupted FloatCode) float_code)
        | inr p ↦ elim (eqb_tells code 8) as (λ _. Goal code) [
          | inl q ↦ subst Goal (sym q.1) (of_legacy most rest small le)
          | inr q ↦ elim (eqb_tells code 12) as (λ _. Goal code) [
            | inl r ↦ subst Goal (sym r.1) (of_array most value rest small le)
            | inr r ↦ elim (eqb_tells code 13) as (λ _. Goal code) [ inl s ↦ subst Goal (sym s.1) (of_object most value rest small le) | inr s ↦ leaf_or_unknown most code rest small le p.1 q.1 r.1 s.1 ]
          ]
        ]
      ]

  decided_value : (most : ℕ) (whole : List ℕ) → AllBytes whole → length whole ≤ most → Decided Value InputError whole
  decided_value most [] small le = malformed (corrupted UnexpectedEnd) value_ends
  decided_value zero (code ∷ rest) small le = absurd (omega arith)
  decided_value (suc most) (code ∷ rest) small le =
      of_code most (record { decides = decided_value most }) code rest (bytes_after (code ∷ rest) (code ∷ []) rest refl small) (omega arith)

  pub decides_value : (most : ℕ) → Decides most (Encodes Legacy v) (ErrorInValue Legacy ErrorInLegacy v)
  decides_value most = record { decides = decided_value most }

  -- ---- documents

  decides_pair : (most : ℕ) → Decides most (EncodesPair Legacy v) (ErrorInPair Legacy ErrorInLegacy v)
  decides_pair most =
      decides_as (EncodesPair Legacy v) (ErrorInPair Legacy ErrorInLegacy v) (λ p. p) (λ r. r)
      (λ b p h. record { prefix = h.prefix; rest = h.rest; joined = h.joined; first = h.first; second = h.second }) (λ b r f. f)
      (decides_then (Corrupt (ErrorInBytes 4)) (Fixed 4) (λ _. Value) (λ _. InputError) (decides_field most) (λ _. decides_value most))

  pub decides_document : (most : ℕ) → Decides most (EncodesDocument Legacy v) (ErrorInDocument Legacy ErrorInLegacy v)
  decides_document most =
      decides_as (EncodesDocument Legacy v) (ErrorInDocument Legacy ErrorInLegacy v) (λ p. p.1) (λ r. r)
      (λ b p h. record { prefix = h.prefix; rest = h.rest; joined = h.joined; first = subst (VNum h.prefix) (sym h.second.0) h.first; second = h.second.1 }) (λ b r f. f)
      (decides_then (Corrupt ErrorInNumber) VNum (Items (EncodesPair Legacy v)) (λ n. InEach (ErrorInPair Legacy ErrorInLegacy v) (EncodesPair Legacy v) n)
      (decides_as VNum (Corrupt ErrorInNumber) (λ n. n) corrupted (λ b n h. h) (λ b c f. corrupt f) (decides_by most vint_agrees))
      (λ n. decides_each (ErrorInPair Legacy ErrorInLegacy v) (EncodesPair Legacy v) (decides_pair most) n))
