-- How texts, bytes and keys are passed over.
use Rattle.std.proofs.Common.{◌≡◌, ℕ, ◌+◌, ◌-◌, ◌≤◌, Bool, true, false, ◌⊎◌, List, [], ◌∷◌, ◌++◌, length, Result, Ok, Err, refl, sym, ap, subst, ◌∙◌, arith, inl, inr, append_assoc, length-append}
use Rattle.std.specs.Prelude.{IsUtf8, IsTrue, ◌↔◌}
use Rattle.std.proofs.lemmas.Str.{IsUtf8-nil}
use Rattle.tv_base.specs.declared.cause.Cause.TheVariants.{UnexpectedEnd, NotUtf8}
use Rattle.tv_base.specs.ErrorInPart.{ErrorInBytes, bytes_end, ErrorInSized, ErrorInText, in_sized, no_text}
use Rattle.tv_base.specs.Number.{VNum}
use Rattle.tv_base.specs.Reading.{vint_at}
use Rattle.tv_base.specs.Source.{AllBytes, Failures}
use Rattle.tv_base.specs.Take as reads
use Rattle.tv_base.proofs.AgreeNumbers.{vint_agrees}
use Rattle.tv_base.proofs.AgreeWidths.{AreBytes, bytes_error}
use Rattle.tv_format.specs.InputError.{Refusal, corrupted, Corrupt, corrupt, ErrorInCodedKey, key_ends, key_no_extension, in_key, ErrorInKey}
use Rattle.tv_format.specs.Tree.{leaf, text, facet}
use Rattle.tv_format.specs.Version.{Version, V1, V2}
use Rattle.tv_format.specs.declared.leaf_type.LeafType.TheVariants as leaves
use Rattle.tv_reader.specs.Error.{store_stop, StoreMayStopRoomy}
use Rattle.tv_reader.specs.Finds.{FindsIf, Nothing}
use Rattle.tv_reader.specs.Kinds.{kind_at}
use Rattle.tv_reader.specs.Trees.{NoValue}
use Rattle.tv_reader.specs.ValueType.{type_prefix}
use Rattle.tv_reader.specs.Version.{version_of}
use Rattle.tv_reader.specs.declared.error.DeserializeError.{DeserializeError}
use Rattle.tv_reader.specs.declared.error.DeserializeError.TheVariants as errors
use Rattle.tv_reader.specs.declared.value_type.ValueType.{ValueType}
use Rattle.tv_reader.specs.declared.value_type.ValueType.TheVariants as types
use Rattle.tv_reader.specs.declared.version.DocStoreVersion.{DocStoreVersion}
use Rattle.tv_reader.specs.declared.version.DocStoreVersion.TheVariants as stores
use Rattle.tv_reader.proofs.BehindKinds.{finds_behind, held_error}
use Rattle.tv_reader.proofs.Finding.{finds_then, finds_as, finds_fails, finds_refused, finds_part}
use Rattle.tv_reading.specs.declared.items.ItemKind.TheVariants as kinds
use Rattle.tv_reading.specs.Skip.{Before, IsValueEncoding, IsTextEncoding, IsCodedText, IsSizedEncoding, Tested, IsTextOf, ErrorInTextOf, text_ends, text_is_none}

abbrev pub end : Refusal
end = corrupted UnexpectedEnd

-- ---- one part after another

-- After a part that was read the end is the only error of no bytes.
pub finds_after : {S X Y : Type 0} {May : DeserializeError → ℕ → Type 0} {is_known : S → Type 0} {left : S → List ℕ} {failures : S → Failures} {old mid new : S} {i j k : ℕ} {x : X} {result : Result Y DeserializeError}
    {R : List ℕ → X → Type 0} {I : List ℕ → Refusal → Type 0} {A : List ℕ → Y → Type 0} {P : List ℕ → Refusal → Type 0} (B : List ℕ → Y → Type 0) (Q : List ℕ → Refusal → Type 0)
    → ((r : Refusal) → P [] r → r ≡ end) → ((a b : List ℕ) (y : Y) → R a x → A b y → B (a ++ b) y) → ((a w : List ℕ) (r : Refusal) → R a x → P w r → Q (a ++ w) r)
    → FindsIf May is_known left failures old i mid j (Ok x) R I → FindsIf StoreMayStopRoomy is_known left failures mid j new k result A P → FindsIf StoreMayStopRoomy is_known left failures old i new k result B Q
finds_after B Q ended join behind p h = finds_then B Q join behind (λ a f r other nothing start byte last. absurd (other (ended f nothing))) p h

-- the same reading in other words
pub finds_map : {S X : Type 0} {is_known : S → Type 0} {left : S → List ℕ} {failures : S → Failures} {old new : S} {i k : ℕ} {A : List ℕ → X → Type 0} {P : List ℕ → Refusal → Type 0} (B : List ℕ → X → Type 0) (Q : List ℕ → Refusal → Type 0) (result : Result X DeserializeError)
    → ((a : List ℕ) (x : X) → A a x → B a x) → ((w : List ℕ) (r : Refusal) → P w r → Q w r) → FindsIf StoreMayStopRoomy is_known left failures old i new k result A P → FindsIf StoreMayStopRoomy is_known left failures old i new k result B Q
finds_map B Q (Ok x) is refused p = finds_as x B Q (λ a h. is a x h) p
finds_map B Q (Err e) is refused p = finds_fails B Q refused p

-- nothing stands before it
pub finds_first : {S X Y : Type 0} {May : DeserializeError → ℕ → Type 0} {is_known : S → Type 0} {left : S → List ℕ} {failures : S → Failures} {old mid new : S} {i j k : ℕ} {x : X} {result : Result Y DeserializeError} {R : List ℕ → X → Type 0} {I : List ℕ → Refusal → Type 0} {A : List ℕ → Y → Type 0} {P : List ℕ → Refusal → Type 0}
    → ((r : Refusal) → P [] r → r ≡ end) → ((a : List ℕ) → R a x → a ≡ []) → FindsIf May is_known left failures old i mid j (Ok x) R I → FindsIf StoreMayStopRoomy is_known left failures mid j new k result A P → FindsIf StoreMayStopRoomy is_known left failures old i new k result A P
finds_first {A = A} {P = P} ended none p h =
    finds_after A P ended (λ a b y r s. subst (λ l. A (l ++ b) y) (sym (none a r)) s) (λ a w f r s. subst (λ l. P (l ++ w) f) (sym (none a r)) s) p h

-- ---- what is tested

pub tested_so : (n : ℕ) (lent a : List ℕ) (is_text : Bool) → lent ≡ a → length a ≡ n → IsTrue is_text ↔ IsUtf8 lent → Tested n a is_text
tested_so n lent a is_text same many tested = record { many = many; tested = subst (λ l. IsTrue is_text ↔ IsUtf8 l) same tested }

-- of bytes that were put into an empty buffer
pub tested_from : (n : ℕ) (a before now : List ℕ) (is_text : Bool) → before ≡ [] → (content : List ℕ) × AreBytes n a content × (now ≡ before ++ content) → IsTrue is_text ↔ IsUtf8 now → Tested n a is_text
tested_from n a before now is_text none t tested = tested_so n now a is_text (t.2 ∙ ap (λ (l : List ℕ). l ++ t.0) none ∙ t.1.1) t.1.0 tested

-- ---- errors of no bytes

pub bytes_ended : (n : ℕ) (r : Refusal) → Corrupt (ErrorInBytes n) [] r → r ≡ end
bytes_ended n _ (corrupt {c} f) = ap corrupted (bytes_error n [] c f).0

first_none : (a b : List ℕ) → [] ≡ a ++ b → a ≡ []
first_none [] b e = refl
first_none (x ∷ a) b e = absurd cc

pub text_ended : (n : ℕ) (r : Refusal) → ErrorInTextOf n [] r → r ≡ end
text_ended n r (text_ends f) = bytes_ended n r f
text_ended n _ (text_is_none content rest joined many none) = absurd (none (subst IsUtf8 (sym (first_none content rest joined)) IsUtf8-nil))

-- ---- bytes

-- this many bytes lack, and more are no text
pub more_bytes : (n : ℕ) (a w : List ℕ) (r : Refusal) (missing most : ℕ) → length a + missing ≡ n → most ≤ missing → Corrupt (ErrorInBytes most) w r → Corrupt (ErrorInBytes n) (a ++ w) r
more_bytes n a w _ missing most sum within (corrupt {c} f) =
    let p = bytes_error most w c f in
    subst (λ z. Corrupt (ErrorInBytes n) (a ++ w) (corrupted z)) (sym p.0) (corrupt (bytes_end (omega (arith, length-append a w, p.1, sum, within))))

-- what a loop has passed over, and one piece more
pub piece_passed : {S X : Type 0} {May : DeserializeError → ℕ → Type 0} {is_known : S → Type 0} {left : S → List ℕ} {failures : S → Failures} {old mid new : S} {i j k : ℕ} {x : X} {P : List ℕ → Refusal → Type 0} (n missing most : ℕ) → most ≤ missing
    → FindsIf StoreMayStopRoomy is_known left failures old i mid j (Ok (tt {0})) (λ b _. length b + missing ≡ n) Nothing → FindsIf May is_known left failures mid j new k (Ok x) (λ b _. length b ≡ most) P
    → FindsIf StoreMayStopRoomy is_known left failures old i new k (Ok (tt {0})) (λ b _. length b + (missing - most) ≡ n) Nothing
piece_passed n missing most within p h =
    finds_then (λ b _. length b + (missing - most) ≡ n) Nothing (λ a b y r s. omega (arith, length-append a b, r, s, within)) (λ a w f r never. never) (λ a f r other never start byte last. never)
    p (finds_as (tt {0}) (λ b _. length b ≡ most) Nothing (λ a s. s) h)

sized_behind : (n : ℕ) (a w : List ℕ) (r : Refusal) → VNum a n → Corrupt (ErrorInBytes n) w r → Corrupt ErrorInSized (a ++ w) r
sized_behind n a w _ number (corrupt f) = corrupt (inr (n, record { prefix = a; rest = w; joined = refl; first = number; second = f }))

pub sized_then : {S X : Type 0} {is_known : S → Type 0} {left : S → List ℕ} {failures : S → Failures} {old mid new : S} {i j k n : ℕ} {result : Result X DeserializeError}
    → ((source : S) → is_known source → AllBytes (left source)) → reads.TakesIf reads.MayStopLean is_known left failures old i mid j (λ x. x) (Ok n) vint_at → FindsIf StoreMayStopRoomy is_known left failures mid j new k result (λ b _. length b ≡ n) (Corrupt (ErrorInBytes n))
    → FindsIf StoreMayStopRoomy is_known left failures old i new k result (λ b _. IsSizedEncoding b) (Corrupt ErrorInSized)
sized_then {n = n} are_bytes part h =
    finds_after (λ b _. IsSizedEncoding b) (Corrupt ErrorInSized) (bytes_ended n) (λ a b y number many. (b, record { size = a; joined = refl; number = subst (VNum a) (sym many) number })) (sized_behind n) (finds_part are_bytes vint_agrees part) h

-- ---- texts

-- all its bytes are there, and they are none
pub no_text_of : {S X : Type 0} {is_known : S → Type 0} {left : S → List ℕ} {failures : S → Failures} {old new : S} {i k : ℕ} (n : ℕ) (B : List ℕ → X → Type 0) (is_text : Bool) → is_text ≡ false
    → FindsIf StoreMayStopRoomy is_known left failures old i new k (Ok is_text) (Tested n) (Corrupt (ErrorInBytes n)) → FindsIf StoreMayStopRoomy is_known left failures old i new k (Err (errors.CorruptedValue NotUtf8)) B (ErrorInTextOf n)
no_text_of {is_known = is_known} {left = left} {failures = failures} {new = new} {k = k} n B is_text none p =
    finds_then B (ErrorInTextOf n) (λ a b y r s. absurd s)
    (λ a w r t is. subst (ErrorInTextOf n (a ++ w)) (sym is) (text_is_none a w refl t.many (λ u. no (sym none ∙ t.tested.1 u))))
    (λ a f t other is start byte last. text_ends (corrupt (bytes_end (omega (arith, t.many, ap length last, length-append start (byte ∷ []))))))
    p
    (finds_refused store_stop end is_known left failures new k (errors.CorruptedValue NotUtf8) (corrupted NotUtf8) (λ b y. ⊥) (λ w r. r ≡ corrupted NotUtf8) refl (tt, λ is. cc) (λ e. cc) (λ w. refl))
  where
    no : false ≡ true → ⊥
    no e = absurd cc

text_behind : (n : ℕ) (a w : List ℕ) (r : Refusal) → VNum a n → ErrorInTextOf n w r → Corrupt ErrorInText (a ++ w) r
text_behind n a w _ number (text_ends (corrupt f)) = corrupt (in_sized (inr (n, record { prefix = a; rest = w; joined = refl; first = number; second = f })))
text_behind n a w _ number (text_is_none content rest joined many none) =
    corrupt (no_text content (a ++ content) rest (ap (λ (l : List ℕ). a ++ l) joined ∙ sym (append_assoc a content rest)) (record { size = a; joined = refl; number = subst (VNum a) (sym many) number }) none)

pub text_then : {S X : Type 0} {is_known : S → Type 0} {left : S → List ℕ} {failures : S → Failures} {old mid new : S} {i j k n : ℕ} {result : Result X DeserializeError}
    → ((source : S) → is_known source → AllBytes (left source)) → reads.TakesIf reads.MayStopLean is_known left failures old i mid j (λ x. x) (Ok n) vint_at → FindsIf StoreMayStopRoomy is_known left failures mid j new k result (λ b _. IsTextOf n b) (ErrorInTextOf n)
    → FindsIf StoreMayStopRoomy is_known left failures old i new k result (λ b _. IsTextEncoding b) (Corrupt ErrorInText)
text_then {n = n} are_bytes part h =
    finds_after (λ b _. IsTextEncoding b) (Corrupt ErrorInText) (text_ended n) (λ a b y number t. (b, record { sized = record { size = a; joined = refl; number = subst (VNum a) (sym t.many) number }; utf8 = t.utf8 })) (text_behind n) (finds_part are_bytes vint_agrees part) h

-- ---- keys

in_coded_key : (w : List ℕ) (r : Refusal) → Corrupt ErrorInText w r → ErrorInCodedKey (0 ∷ w) r
in_coded_key w _ (corrupt f) = in_key f

pub coded_text_then : {S X : Type 0} {is_known : S → Type 0} {left : S → List ℕ} {failures : S → Failures} {old mid new : S} {i j k : ℕ} {kind : ValueType} (result : Result X DeserializeError)
    → ((source : S) → is_known source → AllBytes (left source)) → kind ≡ types.String → reads.TakesIf reads.MayStopLean is_known left failures old i mid j (λ x. x) (Ok kind) kind_at
    → FindsIf StoreMayStopRoomy is_known left failures mid j new k result (λ b _. IsTextEncoding b) (Corrupt ErrorInText) → FindsIf StoreMayStopRoomy is_known left failures old i new k result (λ b _. IsCodedText b) ErrorInCodedKey
coded_text_then {kind = kind} result are_bytes is part h =
    finds_behind (λ b _. IsCodedText b) ErrorInCodedKey are_bytes key_ends key_no_extension part
    (finds_map (λ b _. IsCodedText (type_prefix kind ++ b)) (λ w r. ErrorInCodedKey (type_prefix kind ++ w) r) result
    (λ a x t. subst (λ z. IsCodedText (type_prefix z ++ a)) (sym is) (t.0, record { body = a; joined = refl; encoded = t.1 }))
    (λ w r f. subst (λ z. ErrorInCodedKey (type_prefix z ++ w) r) (sym is) (in_coded_key w r f)) h)

-- a key of versions 1 and 2
pub older_key : {S : Type 0} {is_known : S → Type 0} {left : S → List ℕ} {failures : S → Failures} {old new : S} {i k : ℕ} (version : DocStoreVersion) (result : Result (Unit {0}) DeserializeError) → (version ≡ stores.V1) ⊎ (version ≡ stores.V2)
    → FindsIf StoreMayStopRoomy is_known left failures old i new k result (λ b _. IsCodedText b) ErrorInCodedKey → FindsIf StoreMayStopRoomy is_known left failures old i new k result (λ b _. Before (version_of version) kinds.Entry b) (ErrorInKey (version_of version))
older_key {is_known = is_known} {left = left} {failures = failures} {old = old} {new = new} {i = i} {k = k} version result (inl e) h =
    subst (λ z. FindsIf StoreMayStopRoomy is_known left failures old i new k result (λ b _. Before (version_of z) kinds.Entry b) (ErrorInKey (version_of z))) (sym e) (finds_map (λ b _. Before V1 kinds.Entry b) (ErrorInKey V1) result (λ a x t. t) (λ w r f. f) h)
older_key {is_known = is_known} {left = left} {failures = failures} {old = old} {new = new} {i = i} {k = k} version result (inr e) h =
    subst (λ z. FindsIf StoreMayStopRoomy is_known left failures old i new k result (λ b _. Before (version_of z) kinds.Entry b) (ErrorInKey (version_of z))) (sym e) (finds_map (λ b _. Before V2 kinds.Entry b) (ErrorInKey V2) result (λ a x t. t) (λ w r f. f) h)

-- ---- values

pub text_is_value : (v : Version) (kind : ValueType) → (kind ≡ types.String) ⊎ (kind ≡ types.Facet) → (a : List ℕ) → IsTextEncoding a → IsValueEncoding v (type_prefix kind ++ a)
text_is_value v kind (inl e) a t = subst (λ z. IsValueEncoding v (type_prefix z ++ a)) (sym e) (leaf (text t.0), record { body = a; joined = refl; encoded = t.1 })
text_is_value v kind (inr e) a t = subst (λ z. IsValueEncoding v (type_prefix z ++ a)) (sym e) (leaf (facet t.0), record { body = a; joined = refl; encoded = t.1 })

pub text_no_value : (v : Version) (kind : ValueType) → (kind ≡ types.String) ⊎ (kind ≡ types.Facet) → (w : List ℕ) (r : Refusal) → Corrupt ErrorInText w r → NoValue v (type_prefix kind ++ w) r
text_no_value v kind (inl e) w _ (corrupt {c} f) = subst (λ z. NoValue v (type_prefix z ++ w) (corrupted c)) (sym e) (held_error leaves.Str f)
text_no_value v kind (inr e) w _ (corrupt {c} f) = subst (λ z. NoValue v (type_prefix z ++ w) (corrupted c)) (sym e) (held_error leaves.Facet f)

pub bytes_no_value : (v : Version) (w : List ℕ) (r : Refusal) → Corrupt ErrorInSized w r → NoValue v (4 ∷ w) r
bytes_no_value v w _ (corrupt f) = held_error leaves.Bytes f
