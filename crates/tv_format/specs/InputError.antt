-- What is wrong with bytes that encode no value: the first parts are encoded, and the next part is malformed.
use Rattle.std.specs.Prelude.{◌≡◌, ◌≢◌, ℕ, ◌<◌, ◌≤◌, ◌⊎◌, List, [], ◌∷◌, ◌++◌, length, ℤ, pos, negsuc, ◌<ℤ◌}
use Rattle.std.specs.Prelude.{FitsSigned}
use Rattle.std.specs.Int.{w64, cast_unsigned}
use Rattle.tv_base.specs.declared.cause.Cause.{Cause}
use Rattle.tv_base.specs.declared.cause.Cause.TheVariants.{UnexpectedEnd, UnknownTypeCode, FloatCode}
use Rattle.tv_base.specs.declared.cause.Cause.TheVariants.{UnknownExtCode, OddObject, DateRange}
use Rattle.tv_base.specs.Number.{VNum, Fixed}
use Rattle.tv_base.specs.Parts.{Text}
use Rattle.tv_base.specs.ErrorInPart.{InThen, InEach, ErrorInNumber, ErrorInBytes, ErrorInSized, ErrorInText}
use Rattle.tv_base.specs.ErrorInPart.{ErrorInTruth}
use Rattle.tv_format.specs.Tree.{Elements, Entries, element_count, entry_count}
use Rattle.tv_format.specs.Leaves.{form, store_code, last_code, scale}
use Rattle.tv_format.specs.Version.{Version, V1, V2, V3, Scale, plain, thousands, date_scale, entry_total}
use Rattle.tv_format.specs.Encoding.{TokenEncoding, Key, EncodesElements, EncodesEntries, EncodesPair}
use Rattle.tv_format.specs.declared.leaf_type.Form.{Form}
use Rattle.tv_format.specs.declared.leaf_type.Form.TheVariants as forms
use Rattle.tv_format.specs.declared.leaf_type.LeafType.{LeafType}

-- Why bytes are refused: they are corrupt, or in a key's place stands a value of another type, here named by
-- its code.
pub data Refusal : Type 0 where
  corrupted : Cause → Refusal
  no_text_key : ℕ → Refusal

-- bytes that are corrupt, among refusals
pub data Corrupt (F : List ℕ → Cause → Type 0) (whole : List ℕ) : Refusal → Type 0 where
  corrupt : {c : Cause} → F whole c → Corrupt F whole (corrupted c)

abbrev pub ErrorInToken : List ℕ → Cause → Type 0
ErrorInToken =
    InThen ErrorInNumber VNum (λ _.
    InThen ErrorInNumber VNum (λ _.
    InThen ErrorInNumber VNum (λ _.
    InThen ErrorInText Text (λ _. ErrorInNumber))))

abbrev pub ErrorInTokenized : List ℕ → Cause → Type 0
ErrorInTokenized = InThen ErrorInText Text (λ _. InThen ErrorInNumber VNum
    (λ n. InEach ErrorInToken TokenEncoding n))

-- microseconds whose nanoseconds don't fit
pub record IsOutside (number : ℤ) : Type 0 where
  pub fits : FitsSigned w64 number
  pub outside : (number <ℤ negsuc 9223372036854774) ⊎ (pos 9223372036854775 <ℤ number)

pub data ErrorInMicroseconds (whole : List ℕ) : Cause → Type 0 where
  date_ends : length whole < 8 → ErrorInMicroseconds whole UnexpectedEnd
  date_range : (z : ℤ) (prefix rest : List ℕ) → whole ≡ prefix ++ rest → Fixed 8 prefix (cast_unsigned w64 z)
      → IsOutside z → ErrorInMicroseconds whole DateRange

abbrev pub ErrorInScaled : Scale → List ℕ → Cause → Type 0
ErrorInScaled plain = ErrorInBytes 8
ErrorInScaled thousands = ErrorInMicroseconds

abbrev pub ErrorInDate : List ℕ → Version → Cause → Type 0
ErrorInDate whole version cause = ErrorInScaled (date_scale version) whole cause

-- after the code of extensions: there is no other code, it is that of none, or the text with its tokens is
-- malformed
pub data ErrorInExtension (whole : List ℕ) : Cause → Type 0 where
  no_extension : whole ≡ [] → ErrorInExtension whole UnexpectedEnd
  other_extension : {b : ℕ} (rest : List ℕ) → whole ≡ b ∷ rest → b ≢ 0
      → ErrorInExtension whole (UnknownExtCode b)
  in_tokenized : {c : Cause} (rest : List ℕ) → whole ≡ 0 ∷ rest → ErrorInTokenized rest c
      → ErrorInExtension whole c

abbrev pub ErrorInContent : Scale → Form → List ℕ → Cause → Type 0
ErrorInContent s forms.Nothing = λ whole c. ⊥
ErrorInContent s forms.Truth = ErrorInTruth
ErrorInContent s forms.Unsigned = ErrorInBytes 8
ErrorInContent s forms.Signed = ErrorInScaled s
ErrorInContent s forms.Wide = ErrorInBytes 16
ErrorInContent s forms.Text = ErrorInText
ErrorInContent s forms.Bytes = ErrorInSized
ErrorInContent s forms.Tokens = ErrorInExtension

-- of what a leaf of a type holds
abbrev pub ErrorInBody : Version → LeafType → List ℕ → Cause → Type 0
ErrorInBody version leaf_type = ErrorInContent (scale version leaf_type) (form leaf_type)

-- after the code of a leaf
pub record ErrorInLeaf (version : Version) (whole : List ℕ) (code : ℕ) (cause : Cause) : Type 0 where
  pub of_type : LeafType
  pub coded : store_code of_type ≡ code
  pub error : ErrorInBody version of_type whole cause

-- in a key's place, of versions 1 and 2
pub data ErrorInCodedKey : List ℕ → Refusal → Type 0 where
  key_ends : ErrorInCodedKey [] (corrupted UnexpectedEnd)
  key_unknown : {b : ℕ} {rest : List ℕ} → last_code < b
      → ErrorInCodedKey (b ∷ rest) (corrupted (UnknownTypeCode b))
  key_float : {rest : List ℕ} → ErrorInCodedKey (6 ∷ rest) (corrupted FloatCode)
  -- a value of a type that isn't a text
  key_other : {b : ℕ} {rest : List ℕ} → 0 < b → b ≤ last_code → b ≢ 6 → b ≢ 7
      → ErrorInCodedKey (b ∷ rest) (no_text_key b)
  key_no_extension : ErrorInCodedKey (7 ∷ []) (corrupted UnexpectedEnd)
  key_tokenized : {rest : List ℕ} → ErrorInCodedKey (7 ∷ 0 ∷ rest) (no_text_key 7)
  key_other_extension : {b : ℕ} {rest : List ℕ} → b ≢ 0
      → ErrorInCodedKey (7 ∷ b ∷ rest) (corrupted (UnknownExtCode b))
  in_key : {c : Cause} {rest : List ℕ} → ErrorInText rest c → ErrorInCodedKey (0 ∷ rest) (corrupted c)

-- in a key's place
abbrev pub ErrorInKey : Version → List ℕ → Refusal → Type 0
ErrorInKey V1 = ErrorInCodedKey
ErrorInKey V2 = ErrorInCodedKey
ErrorInKey V3 = Corrupt ErrorInText

-- `Legacy` says what encodes a legacy object after code 8, and `ErrorInLegacy` what is wrong with bytes that
-- encode none.
module _ (Legacy : List ℕ → Entries → Type 0) (ErrorInLegacy : List ℕ → Cause → Type 0) (v : Version) where
  pub data ErrorInValue : List ℕ → Refusal → Type 0 where
    value_ends : ErrorInValue [] (corrupted UnexpectedEnd)
    unknown_code : {b : ℕ} {rest : List ℕ} → last_code < b
        → ErrorInValue (b ∷ rest) (corrupted (UnknownTypeCode b))
    float_code : {rest : List ℕ} → ErrorInValue (6 ∷ rest) (corrupted FloatCode)
    in_leaf : {code : ℕ} {rest : List ℕ} {c : Cause} → ErrorInLeaf v rest code c
        → ErrorInValue (code ∷ rest) (corrupted c)
    in_legacy : {rest : List ℕ} {c : Cause} → ErrorInLegacy rest c → ErrorInValue (8 ∷ rest) (corrupted c)
    -- of an array: the count, or an element
    in_count : {whole : List ℕ} {c : Cause} → ErrorInNumber whole c → ErrorInValue (12 ∷ whole) (corrupted c)
    in_element : {whole : List ℕ} {r : Refusal} (n : ℕ) (ts : Elements) (count prefix rest : List ℕ)
        → whole ≡ count ++ (prefix ++ rest) → VNum count n → EncodesElements Legacy v prefix ts
        → element_count ts < n
        → ErrorInValue rest r → ErrorInValue (12 ∷ whole) r
    -- of an object: the count, a key, or a value after its key
    in_entry_count : {whole : List ℕ} {c : Cause} → ErrorInNumber whole c
        → ErrorInValue (13 ∷ whole) (corrupted c)
    odd_count : {whole : List ℕ} (n : ℕ) (count rest : List ℕ) → whole ≡ count ++ rest → VNum count n
        → ((m : ℕ) → entry_total v m ≢ n)
        → ErrorInValue (13 ∷ whole) (corrupted OddObject)
    in_entry_key : {whole : List ℕ} {r : Refusal} (n : ℕ) (es : Entries) (count prefix rest : List ℕ)
        → whole ≡ count ++ (prefix ++ rest) → VNum count (entry_total v n) → EncodesEntries Legacy v prefix es
        → entry_count es < n
        → ErrorInKey v rest r → ErrorInValue (13 ∷ whole) r
    in_entry : {whole : List ℕ} {r : Refusal} (n : ℕ) (es : Entries) (k count prefix key rest : List ℕ)
        → whole ≡ count ++ (prefix ++ (key ++ rest)) → VNum count (entry_total v n)
        → EncodesEntries Legacy v prefix es → entry_count es < n
        → Key v key k → ErrorInValue rest r → ErrorInValue (13 ∷ whole) r

  -- of a pair: its field, or its value
  abbrev pub ErrorInPair : List ℕ → Refusal → Type 0
  ErrorInPair = InThen (Corrupt (ErrorInBytes 4)) (Fixed 4) (λ _. ErrorInValue)

  -- of a document: the number of its pairs, or one of them
  abbrev pub ErrorInDocument : List ℕ → Refusal → Type 0
  ErrorInDocument = InThen (Corrupt ErrorInNumber) VNum (λ n. InEach ErrorInPair (EncodesPair Legacy v) n)

-- no error of a legacy object
abbrev pub NoErrorInLegacy : List ℕ → Cause → Type 0
NoErrorInLegacy whole cause = ⊥
