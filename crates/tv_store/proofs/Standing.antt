-- An error of bytes stands whatever follows them, unless it is that they end too early. So just one beginning of the bytes shows it.
use Rattle.std.proofs.Common.{◌≡◌, ◌≢◌, ◌⊎◌, ℕ, zero, suc, List, [], ◌∷◌, ◌++◌, refl, sym, ap, ◌∙◌, inl, inr, append_assoc}
use Rattle.tv_base.specs.declared.cause.Cause.{Cause}
use Rattle.tv_base.specs.declared.cause.Cause.TheVariants.{UnexpectedEnd}
use Rattle.tv_base.specs.ErrorInPart.{InThen, InEach, ErrorInNumber, number_ends, number_large, ErrorInBytes, bytes_end, ErrorInTruth, truth_ends, truth_large, ErrorInSized, ErrorInText, in_sized, no_text}
use Rattle.tv_base.specs.Number.{VNum, Fixed}
use Rattle.tv_base.specs.Parts.{Text}
use Rattle.tv_base.specs.ReadsAs.{Shows}
use Rattle.tv_base.proofs.Agrees.{empty, ends, ends_in}
use Rattle.tv_format.specs.declared.leaf_type.Form.{Form}
use Rattle.tv_format.specs.declared.leaf_type.Form.TheVariants as forms
use Rattle.tv_format.specs.Encoding.{EncodesPair, TokenEncoding}
use Rattle.tv_format.specs.InputError.{Refusal, corrupted, no_text_key, Corrupt, corrupt, ErrorInToken, ErrorInTokenized, ErrorInMicroseconds, date_ends, date_range, ErrorInScaled, ErrorInExtension, no_extension, other_extension, in_tokenized, ErrorInContent, ErrorInCodedKey, key_ends, key_unknown, key_float, key_other, key_no_extension, key_tokenized, key_other_extension, in_key, ErrorInKey, value_ends, unknown_code, float_code, in_leaf, in_legacy, in_count, in_element, in_entry_count, odd_count, in_entry_key, in_entry, ErrorInPair}
use Rattle.tv_format.specs.Leaves.{form, scale}
use Rattle.tv_format.specs.Version.{Version, V1, V2, V3, Scale, plain, thousands}
use Rattle.tv_reader.specs.Legacy.{Legacy, ErrorInLegacy, only_blanks, not_closed, no_brace, no_object, not_whole}
use Rattle.tv_reader.specs.Trees.{NoValue}
use Rattle.tv_store.specs.Documents.{NoDocument}

pub record Stands {C : Type 0} (end : C) (HasError : List ℕ → C → Type 0) : Type 0 where
  pub longer : (whole more : List ℕ) (error : C) → error ≢ end → HasError whole error → HasError (whole ++ more) error

-- ---- parts

-- what follows a part follows what is left after it
behind : (whole prefix rest more : List ℕ) → whole ≡ prefix ++ rest → whole ++ more ≡ prefix ++ (rest ++ more)
behind whole prefix rest more joined = ap (λ (l : List ℕ). l ++ more) joined ∙ append_assoc prefix rest more

stands_then : {C A : Type 0} {end : C} {F : List ℕ → C → Type 0} {R : List ℕ → A → Type 0} {G : A → List ℕ → C → Type 0} → Stands end F → ((x : A) → Stands end (G x)) → Stands end (InThen F R G)
stands_then f g = record {
  longer = λ whole more error other h. elim h [
    | inl k ↦ inl (f.longer whole more error other k)
    | inr k ↦ inr (k.0, record { prefix = k.1.prefix; rest = k.1.rest ++ more; joined = behind whole k.1.prefix k.1.rest more k.1.joined; first = k.1.first; second = (g k.0).longer k.1.rest more error other k.1.second })
  ];
}

stands_each : {C A : Type 0} {end : C} {F : List ℕ → C → Type 0} (R : List ℕ → A → Type 0) → Stands end F → (n : ℕ) → Stands end (InEach F R n)
stands_each R f zero = record { longer = λ whole more error other h. absurd h }
stands_each {F = F} R f (suc n) = stands_then {R = R} {G = λ _. InEach F R n} f (λ _. stands_each R f n)

corrupt_longer : {F : List ℕ → Cause → Type 0} → Stands UnexpectedEnd F → (whole more : List ℕ) (r : Refusal) → r ≢ corrupted UnexpectedEnd → Corrupt F whole r → Corrupt F (whole ++ more) r
corrupt_longer f whole more _ other (corrupt {c = c} h) = corrupt (f.longer whole more c (λ is. other (ap corrupted is)) h)

stands_corrupt : {F : List ℕ → Cause → Type 0} → Stands UnexpectedEnd F → Stands (corrupted UnexpectedEnd) (Corrupt F)
stands_corrupt f = record { longer = corrupt_longer f }

number_longer : (whole more : List ℕ) (c : Cause) → c ≢ UnexpectedEnd → ErrorInNumber whole c → ErrorInNumber (whole ++ more) c
number_longer whole more _ other (number_ends few small) = absurd (other refl)
number_longer whole more _ other (number_large prefix rest b joined many small differs also) = number_large prefix (rest ++ more) b (behind whole prefix (b ∷ rest) more joined) many small differs also

stands_number : Stands UnexpectedEnd ErrorInNumber
stands_number = record { longer = number_longer }

bytes_longer : (n : ℕ) (whole more : List ℕ) (c : Cause) → c ≢ UnexpectedEnd → ErrorInBytes n whole c → ErrorInBytes n (whole ++ more) c
bytes_longer n whole more _ other (bytes_end few) = absurd (other refl)

stands_bytes : (n : ℕ) → Stands UnexpectedEnd (ErrorInBytes n)
stands_bytes n = record { longer = bytes_longer n }

truth_longer : (whole more : List ℕ) (c : Cause) → c ≢ UnexpectedEnd → ErrorInTruth whole c → ErrorInTruth (whole ++ more) c
truth_longer whole more _ other (truth_ends none) = absurd (other refl)
truth_longer whole more _ other (truth_large b rest is large) = truth_large b (rest ++ more) (ap (λ (l : List ℕ). l ++ more) is) large

stands_sized : Stands UnexpectedEnd ErrorInSized
stands_sized = stands_then {R = VNum} {G = ErrorInBytes} stands_number stands_bytes

text_longer : (whole more : List ℕ) (c : Cause) → c ≢ UnexpectedEnd → ErrorInText whole c → ErrorInText (whole ++ more) c
text_longer whole more c other (in_sized h) = in_sized (stands_sized.longer whole more c other h)
text_longer whole more _ other (no_text content prefix rest joined sized none) = no_text content prefix (rest ++ more) (behind whole prefix rest more joined) sized none

stands_text : Stands UnexpectedEnd ErrorInText
stands_text = record { longer = text_longer }

-- ---- leaves

stands_token : Stands UnexpectedEnd ErrorInToken
stands_token = stands_then {R = VNum} stands_number (λ _. stands_then {R = VNum} stands_number (λ _. stands_then {R = VNum} stands_number (λ _. stands_then {R = Text} stands_text (λ _. stands_number))))

stands_tokenized : Stands UnexpectedEnd ErrorInTokenized
stands_tokenized = stands_then {R = Text} stands_text (λ _. stands_then {R = VNum} stands_number (λ n. stands_each TokenEncoding stands_token n))

microseconds_longer : (whole more : List ℕ) (c : Cause) → c ≢ UnexpectedEnd → ErrorInMicroseconds whole c → ErrorInMicroseconds (whole ++ more) c
microseconds_longer whole more _ other (date_ends few) = absurd (other refl)
microseconds_longer whole more _ other (date_range z prefix rest joined fixed outside) = date_range z prefix (rest ++ more) (behind whole prefix rest more joined) fixed outside

scaled_longer : (s : Scale) (whole more : List ℕ) (c : Cause) → c ≢ UnexpectedEnd → ErrorInScaled s whole c → ErrorInScaled s (whole ++ more) c
scaled_longer plain whole more c other h = bytes_longer 8 whole more c other h
scaled_longer thousands whole more c other h = microseconds_longer whole more c other h

extension_longer : (whole more : List ℕ) (c : Cause) → c ≢ UnexpectedEnd → ErrorInExtension whole c → ErrorInExtension (whole ++ more) c
extension_longer whole more _ other (no_extension none) = absurd (other refl)
extension_longer whole more _ other (other_extension rest is differs) = other_extension (rest ++ more) (ap (λ (l : List ℕ). l ++ more) is) differs
extension_longer whole more c other (in_tokenized rest is h) = in_tokenized (rest ++ more) (ap (λ (l : List ℕ). l ++ more) is) (stands_tokenized.longer rest more c other h)

content_longer : (s : Scale) (f : Form) (whole more : List ℕ) (c : Cause) → c ≢ UnexpectedEnd → ErrorInContent s f whole c → ErrorInContent s f (whole ++ more) c
content_longer s forms.Nothing whole more c other h = absurd h
content_longer s forms.Truth whole more c other h = truth_longer whole more c other h
content_longer s forms.Unsigned whole more c other h = bytes_longer 8 whole more c other h
content_longer s forms.Signed whole more c other h = scaled_longer s whole more c other h
content_longer s forms.Wide whole more c other h = bytes_longer 16 whole more c other h
content_longer s forms.Text whole more c other h = text_longer whole more c other h
content_longer s forms.Bytes whole more c other h = stands_sized.longer whole more c other h
content_longer s forms.Tokens whole more c other h = extension_longer whole more c other h

coded_key_longer : (whole more : List ℕ) (r : Refusal) → r ≢ corrupted UnexpectedEnd → ErrorInCodedKey whole r → ErrorInCodedKey (whole ++ more) r
coded_key_longer _ more _ other key_ends = absurd (other refl)
coded_key_longer _ more _ other (key_unknown unknown) = key_unknown unknown
coded_key_longer _ more _ other key_float = key_float
coded_key_longer _ more _ other (key_other some known not_float not_extension) = key_other some known not_float not_extension
coded_key_longer _ more _ other key_no_extension = absurd (other refl)
coded_key_longer _ more _ other key_tokenized = key_tokenized
coded_key_longer _ more _ other (key_other_extension differs) = key_other_extension differs
coded_key_longer _ more _ other (in_key {c = c} {rest = rest} h) = in_key (text_longer rest more c (λ is. other (ap corrupted is)) h)

key_longer : (v : Version) (whole more : List ℕ) (r : Refusal) → r ≢ corrupted UnexpectedEnd → ErrorInKey v whole r → ErrorInKey v (whole ++ more) r
key_longer V1 whole more r other h = coded_key_longer whole more r other h
key_longer V2 whole more r other h = coded_key_longer whole more r other h
key_longer V3 whole more r other h = corrupt_longer stands_text whole more r other h

-- ---- values and documents

legacy_longer : (whole more : List ℕ) (c : Cause) → c ≢ UnexpectedEnd → ErrorInLegacy whole c → ErrorInLegacy (whole ++ more) c
legacy_longer whole more _ other (only_blanks blank) = absurd (other refl)
legacy_longer whole more _ other (not_closed blanks rest joined blank never) = absurd (other refl)
legacy_longer whole more _ other (no_brace blanks rest b joined blank ink differs) = no_brace blanks (rest ++ more) b (behind whole blanks (b ∷ rest) more joined) blank ink differs
legacy_longer whole more _ other (no_object prefix rest slice joined cut none) = no_object prefix (rest ++ more) slice (behind whole prefix rest more joined) cut none
legacy_longer whole more _ other (not_whole prefix rest slice members joined cut reads none) = not_whole prefix (rest ++ more) slice members (behind whole prefix rest more joined) cut reads none

-- what follows two parts
behind_two : (whole a b rest more : List ℕ) → whole ≡ a ++ (b ++ rest) → whole ++ more ≡ a ++ (b ++ (rest ++ more))
behind_two whole a b rest more joined = behind whole a (b ++ rest) more joined ∙ ap (λ (l : List ℕ). a ++ l) (append_assoc b rest more)

behind_three : (whole a b d rest more : List ℕ) → whole ≡ a ++ (b ++ (d ++ rest)) → whole ++ more ≡ a ++ (b ++ (d ++ (rest ++ more)))
behind_three whole a b d rest more joined = behind_two whole a b (d ++ rest) more joined ∙ ap (λ (l : List ℕ). a ++ (b ++ l)) (append_assoc d rest more)

value_longer : (v : Version) (whole more : List ℕ) (r : Refusal) → r ≢ corrupted UnexpectedEnd → NoValue v whole r → NoValue v (whole ++ more) r
value_longer v _ more _ other value_ends = absurd (other refl)
value_longer v _ more _ other (unknown_code unknown) = unknown_code unknown
value_longer v _ more _ other float_code = float_code
value_longer v _ more _ other (in_leaf {rest = rest} {c = c} h) =
    in_leaf (record { of_type = h.of_type; coded = h.coded; error = content_longer (scale v h.of_type) (form h.of_type) rest more c (λ is. other (ap corrupted is)) h.error })
value_longer v _ more _ other (in_legacy {rest = rest} {c = c} h) = in_legacy (legacy_longer rest more c (λ is. other (ap corrupted is)) h)
value_longer v _ more _ other (in_count {whole = whole} {c = c} h) = in_count (number_longer whole more c (λ is. other (ap corrupted is)) h)
value_longer v _ more r other (in_element {whole = whole} n ts count prefix rest joined counted encoded less h) =
    in_element n ts count prefix (rest ++ more) (behind_two whole count prefix rest more joined) counted encoded less (value_longer v rest more r other h)
value_longer v _ more _ other (in_entry_count {whole = whole} {c = c} h) = in_entry_count (number_longer whole more c (λ is. other (ap corrupted is)) h)
value_longer v _ more _ other (odd_count {whole = whole} n count rest joined counted odd) = odd_count n count (rest ++ more) (behind whole count rest more joined) counted odd
value_longer v _ more r other (in_entry_key {whole = whole} n es count prefix rest joined counted encoded less h) =
    in_entry_key n es count prefix (rest ++ more) (behind_two whole count prefix rest more joined) counted encoded less (key_longer v rest more r other h)
value_longer v _ more r other (in_entry {whole = whole} n es k count prefix key rest joined counted encoded less keyed h) =
    in_entry n es k count prefix key (rest ++ more) (behind_three whole count prefix key rest more joined) counted encoded less keyed (value_longer v rest more r other h)

pub stands_value : (v : Version) → Stands (corrupted UnexpectedEnd) (NoValue v)
stands_value v = record { longer = value_longer v }

stands_pair : (v : Version) → Stands (corrupted UnexpectedEnd) (ErrorInPair Legacy ErrorInLegacy v)
stands_pair v = stands_then {R = Fixed 4} (stands_corrupt (stands_bytes 4)) (λ _. stands_value v)

pub stands_document : (v : Version) → Stands (corrupted UnexpectedEnd) (NoDocument v)
stands_document v = stands_then {R = VNum} (stands_corrupt stands_number) (λ n. stands_each (EncodesPair Legacy v) (stands_pair v) n)

-- ---- just one beginning shows it

-- one of two beginnings of the same bytes begins the other
pub data Cut (a b x y : List ℕ) : Type 0 where
  shorter : (m : List ℕ) → b ≡ a ++ m → x ≡ m ++ y → Cut a b x y
  longer_one : (m : List ℕ) → a ≡ b ++ m → y ≡ m ++ x → Cut a b x y

cut_more : (n m : ℕ) (a b x y : List ℕ) → n ∷ (a ++ x) ≡ m ∷ (b ++ y) → Cut a b x y → Cut (n ∷ a) (m ∷ b) x y
cut_more n m a b x y same (shorter more is left) = let first : m ≡ n = cc in shorter more (ap (λ (k : ℕ). k ∷ b) first ∙ ap (λ (l : List ℕ). n ∷ l) is) left
cut_more n m a b x y same (longer_one more is left) = let first : n ≡ m = cc in longer_one more (ap (λ (k : ℕ). k ∷ a) first ∙ ap (λ (l : List ℕ). m ∷ l) is) left

pub cut : (a b x y : List ℕ) → a ++ x ≡ b ++ y → Cut a b x y
cut [] b x y same = shorter b refl same
cut (n ∷ a) [] x y same = longer_one (n ∷ a) refl (sym same)
cut (n ∷ a) (m ∷ b) x y same = let rest : a ++ x ≡ b ++ y = cc in cut_more n m a b x y same (cut a b x y rest)

pub is_end : (r : Refusal) → (r ≡ corrupted UnexpectedEnd) ⊎ (r ≢ corrupted UnexpectedEnd)
is_end (corrupted UnexpectedEnd) = inl refl
is_end (corrupted _) = inr (λ is. absurd (cc))
is_end (no_text_key code) = inr (λ is. absurd (cc))

module _ {HasError : List ℕ → Refusal → Type 0} (stands : Stands (corrupted UnexpectedEnd) HasError) (one : (bytes : List ℕ) (r s : Refusal) → HasError bytes r → HasError bytes s → r ≡ s) where
  -- no more was taken
  none_more : (r : Refusal) → r ≢ corrupted UnexpectedEnd → (old a left : List ℕ) → HasError a r → (s : Shows (corrupted UnexpectedEnd) HasError old left r) (m : List ℕ) → s.taken ≡ a ++ m → m ≡ []
  none_more r other old a left here s m is = elim (ends m) [
    | empty none ↦ none
    | ends_in start byte last ↦
        let before : s.taken ≡ (a ++ start) ++ byte ∷ [] = is ∙ ap (λ (l : List ℕ). a ++ l) last ∙ sym (append_assoc a start (byte ∷ [])) in
        absurd (other (one (a ++ start) r (corrupted UnexpectedEnd) (stands.longer a start r other here) (s.early other (a ++ start) byte before)))
  ]

  -- two readers that show the same error leave the same bytes
  pub left_alike : (r : Refusal) (old left other : List ℕ) → Shows (corrupted UnexpectedEnd) HasError old left r → Shows (corrupted UnexpectedEnd) HasError old other r → left ≡ other
  left_alike r old left other s t = elim (is_end r) [
    | inl is ↦ s.all is ∙ sym (t.all is)
    | inr apart ↦ by_cut apart (cut s.taken t.taken left other (sym s.joined ∙ t.joined))
  ]
    where
      by_cut : r ≢ corrupted UnexpectedEnd → Cut s.taken t.taken left other → left ≡ other
      by_cut apart (shorter m is rest) = rest ∙ ap (λ (l : List ℕ). l ++ other) (none_more r apart old s.taken other s.shown t m is)
      by_cut apart (longer_one m is rest) = sym (rest ∙ ap (λ (l : List ℕ). l ++ left) (none_more r apart old t.taken left t.shown s m is))
