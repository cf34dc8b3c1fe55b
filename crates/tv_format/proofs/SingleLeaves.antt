-- A leaf, a key or a field is malformed in one way only.
use Rattle.std.proofs.Common.{◌≡◌, ℕ, List, [], ◌∷◌, length, refl, sym, ◌∙◌, ap, subst, arith, length-append}
use Rattle.tv_base.specs.declared.cause.Cause.{Cause}
use Rattle.tv_base.specs.declared.cause.Cause.TheVariants.{UnknownTypeCode, UnknownExtCode}
use Rattle.tv_base.specs.Number.{VNum}
use Rattle.tv_base.specs.Parts.{Text}
use Rattle.tv_base.specs.ErrorInPart.{InThen, InEach, ErrorInNumber, ErrorInText, ErrorInTruth, truth_ends, truth_large}
use Rattle.tv_base.proofs.Numbers.{one_number, length-fixed}
use Rattle.tv_base.proofs.Texts.{one_text}
use Rattle.tv_base.proofs.Excluding.{excludes_number}
use Rattle.tv_base.proofs.ExcludingParts.{excludes_text}
use Rattle.tv_base.proofs.Single.{Single, single_then, single_each, single_number, single_bytes, single_sized, single_text}
use Rattle.tv_format.specs.Encoding.{TokenEncoding}
use Rattle.tv_format.specs.Leaves.{form, scale}
use Rattle.tv_format.specs.LeavesLaws.{one_code}
use Rattle.tv_format.specs.Version.{Version, V1, V2, V3, Scale, plain, thousands}
use Rattle.tv_format.specs.declared.leaf_type.Form.{Form}
use Rattle.tv_format.specs.declared.leaf_type.Form.TheVariants as forms
use Rattle.tv_format.specs.InputError.{ErrorInToken, ErrorInTokenized, ErrorInMicroseconds, date_ends, date_range, ErrorInScaled, ErrorInExtension, no_extension, other_extension, in_tokenized, ErrorInContent, ErrorInBody, ErrorInLeaf, Refusal, corrupted, no_text_key, Corrupt, corrupt, ErrorInCodedKey, ErrorInKey, key_ends, key_unknown, key_float, key_other, key_no_extension, key_tokenized, key_other_extension, in_key}
use Rattle.tv_format.specs.TokensLaws.{one_token}
use Rattle.tv_format.proofs.ExcludingLeaves.{excludes_token}

single_token : Single ErrorInToken
single_token =
    single_then {R = VNum} {G = λ _. InThen ErrorInNumber VNum (λ _. InThen ErrorInNumber VNum (λ _. InThen ErrorInText Text (λ _. ErrorInNumber)))} single_number excludes_number one_number
    (λ _. single_then {R = VNum} {G = λ _. InThen ErrorInNumber VNum (λ _. InThen ErrorInText Text (λ _. ErrorInNumber))} single_number excludes_number one_number
    (λ _. single_then {R = VNum} {G = λ _. InThen ErrorInText Text (λ _. ErrorInNumber)} single_number excludes_number one_number
    (λ _. single_then {R = Text} {G = λ _. ErrorInNumber} single_text excludes_text one_text
    (λ _. single_number))))

single_tokenized : Single ErrorInTokenized
single_tokenized =
    single_then {R = Text} {G = λ _. InThen ErrorInNumber VNum (λ n. InEach ErrorInToken TokenEncoding n)} single_text excludes_text one_text
    (λ _. single_then {R = VNum} {G = λ n. InEach ErrorInToken TokenEncoding n} single_number excludes_number one_number
    (λ n. single_each {R = TokenEncoding} single_token excludes_token one_token n))

micros_single : (whole : List ℕ) (c d : Cause) → ErrorInMicroseconds whole c → ErrorInMicroseconds whole d → c ≡ d
micros_single whole c d (date_ends h) (date_ends k) = refl
micros_single whole c d (date_range y prefix rest joined q o) (date_range z f r e k p) = refl
micros_single whole c d (date_ends h) (date_range y prefix rest joined q o) = absurd (omega (arith, ap length joined, length-append prefix rest, length-fixed q))
micros_single whole c d (date_range y prefix rest joined q o) (date_ends h) = absurd (omega (arith, ap length joined, length-append prefix rest, length-fixed q))

no_head : {b : ℕ} {rest whole : List ℕ} → whole ≡ [] → whole ≡ b ∷ rest → ⊥
no_head e f = let g = sym e ∙ f in cc

heads : {a b : ℕ} {x y whole : List ℕ} → whole ≡ a ∷ x → whole ≡ b ∷ y → (a ≡ b) × (x ≡ y)
heads e f = let g = sym e ∙ f in (cc, cc)

leaf_same : (F : List ℕ → Cause → Type 0) → Single F → {whole other : List ℕ} {c d : Cause} → F whole c → F other d → whole ≡ other → c ≡ d
leaf_same F f {whole} {other} {c} {d} h k e = f.single whole c d h (subst (λ l. F l d) (sym e) k)

extension_single : (whole : List ℕ) (c d : Cause) → ErrorInExtension whole c → ErrorInExtension whole d → c ≡ d
extension_single whole c d (no_extension h) (no_extension k) = refl
extension_single whole c d (no_extension h) (other_extension rest k ne) = absurd (no_head h k)
extension_single whole c d (no_extension h) (in_tokenized rest k f) = absurd (no_head h k)
extension_single whole c d (other_extension rest h ne) (no_extension k) = absurd (no_head k h)
extension_single whole c d (other_extension rest h ne) (other_extension r k n) = ap UnknownExtCode (heads h k).0
extension_single whole c d (other_extension rest h ne) (in_tokenized r k f) = absurd (ne (heads h k).0)
extension_single whole c d (in_tokenized rest h f) (no_extension k) = absurd (no_head k h)
extension_single whole c d (in_tokenized rest h f) (other_extension r k ne) = absurd (ne (sym (heads h k).0))
extension_single whole c d (in_tokenized rest h f) (in_tokenized r k g) = leaf_same ErrorInTokenized single_tokenized f g (heads h k).1

truth_single : (whole : List ℕ) (c d : Cause) → ErrorInTruth whole c → ErrorInTruth whole d → c ≡ d
truth_single whole c d (truth_ends h) (truth_ends k) = refl
truth_single whole c d (truth_ends h) (truth_large b rest k l) = absurd (no_head h k)
truth_single whole c d (truth_large b rest h l) (truth_ends k) = absurd (no_head k h)
truth_single whole c d (truth_large b rest h l) (truth_large n r k m) = refl

single_scaled : (s : Scale) → Single (ErrorInScaled s)
single_scaled plain = single_bytes 8
single_scaled thousands = record { single = micros_single }

single_content : (s : Scale) (f : Form) → Single (ErrorInContent s f)
single_content s forms.Nothing = record { single = λ whole c d h k. absurd h }
single_content s forms.Truth = record { single = truth_single }
single_content s forms.Unsigned = single_bytes 8
single_content s forms.Signed = single_scaled s
single_content s forms.Wide = single_bytes 16
single_content s forms.Text = single_text
single_content s forms.Bytes = single_sized
single_content s forms.Tokens = record { single = extension_single }

pub leaf_single : (v : Version) {whole other : List ℕ} {code same : ℕ} {c d : Cause} → ErrorInLeaf v whole code c → ErrorInLeaf v other same d → code ≡ same → whole ≡ other → c ≡ d
leaf_single v {other = other} {d = d} f g s e =
    let is : g.of_type ≡ f.of_type = one_code g.of_type f.of_type (g.coded ∙ sym s ∙ sym f.coded) in
    leaf_same (ErrorInBody v f.of_type) (single_content (scale v f.of_type) (form f.of_type)) f.error (subst (λ t. ErrorInBody v t other d) is g.error) e

-- ---- keys

coded_key_single : {whole other : List ℕ} {r s : Refusal} → ErrorInCodedKey whole r → ErrorInCodedKey other s → whole ≡ other → r ≡ s
coded_key_single key_ends key_ends e = refl
coded_key_single (key_unknown h) (key_unknown k) e = ap (λ b. corrupted (UnknownTypeCode b)) (heads refl e).0
coded_key_single key_float key_float e = refl
coded_key_single (key_other a b c d) (key_other i j k l) e = ap no_text_key (heads refl e).0
coded_key_single key_no_extension key_no_extension e = refl
coded_key_single key_tokenized key_tokenized e = refl
coded_key_single (key_other_extension h) (key_other_extension k) e = ap (λ b. corrupted (UnknownExtCode b)) (heads refl (heads refl e).1).0
coded_key_single (in_key h) (in_key k) e = ap corrupted (leaf_same ErrorInText single_text h k (heads refl e).1)
coded_key_single key_ends _ e = absurd cc
coded_key_single _ key_ends e = absurd cc
coded_key_single key_no_extension key_tokenized e = absurd cc
coded_key_single key_no_extension (key_other_extension k) e = absurd cc
coded_key_single key_tokenized key_no_extension e = absurd cc
coded_key_single (key_other_extension k) key_no_extension e = absurd cc
coded_key_single key_tokenized (key_other_extension k) e = absurd (k (sym (heads refl (heads refl e).1).0))
coded_key_single (key_other_extension k) key_tokenized e = absurd (k (heads refl (heads refl e).1).0)
coded_key_single (key_other a b c d) key_float e = absurd (c (heads refl e).0)
coded_key_single key_float (key_other a b c d) e = absurd (c (sym (heads refl e).0))
coded_key_single (key_other a b c d) key_no_extension e = absurd (d (heads refl e).0)
coded_key_single key_no_extension (key_other a b c d) e = absurd (d (sym (heads refl e).0))
coded_key_single (key_other a b c d) key_tokenized e = absurd (d (heads refl e).0)
coded_key_single key_tokenized (key_other a b c d) e = absurd (d (sym (heads refl e).0))
coded_key_single (key_other a b c d) (key_other_extension k) e = absurd (d (heads refl e).0)
coded_key_single (key_other_extension k) (key_other a b c d) e = absurd (d (sym (heads refl e).0))
coded_key_single (key_unknown h) key_float e = absurd (omega (arith, h, (heads refl e).0))
coded_key_single key_float (key_unknown h) e = absurd (omega (arith, h, (heads refl e).0))
coded_key_single (key_unknown h) (key_other a b c d) e = absurd (omega (arith, h, (heads refl e).0))
coded_key_single (key_other a b c d) (key_unknown h) e = absurd (omega (arith, h, (heads refl e).0))
coded_key_single (key_unknown h) key_no_extension e = absurd (omega (arith, h, (heads refl e).0))
coded_key_single key_no_extension (key_unknown h) e = absurd (omega (arith, h, (heads refl e).0))
coded_key_single (key_unknown h) key_tokenized e = absurd (omega (arith, h, (heads refl e).0))
coded_key_single key_tokenized (key_unknown h) e = absurd (omega (arith, h, (heads refl e).0))
coded_key_single (key_unknown h) (key_other_extension k) e = absurd (omega (arith, h, (heads refl e).0))
coded_key_single (key_other_extension k) (key_unknown h) e = absurd (omega (arith, h, (heads refl e).0))
coded_key_single (key_unknown h) (in_key k) e = absurd (omega (arith, h, (heads refl e).0))
coded_key_single (in_key k) (key_unknown h) e = absurd (omega (arith, h, (heads refl e).0))
coded_key_single (key_other a b c d) (in_key k) e = absurd (omega (arith, a, (heads refl e).0))
coded_key_single (in_key k) (key_other a b c d) e = absurd (omega (arith, a, (heads refl e).0))
coded_key_single _ _ e = absurd (omega (arith, (heads refl e).0))

corrupt_single : (F : List ℕ → Cause → Type 0) → Single F → (whole : List ℕ) (r s : Refusal) → Corrupt F whole r → Corrupt F whole s → r ≡ s
corrupt_single F f whole r s (corrupt {c = c} h) (corrupt {c = d} k) = ap corrupted (f.single whole c d h k)

pub single_corrupt : (F : List ℕ → Cause → Type 0) → Single F → Single (Corrupt F)
single_corrupt F f = record { single = corrupt_single F f }

pub key_single : (v : Version) (whole : List ℕ) (r s : Refusal) → ErrorInKey v whole r → ErrorInKey v whole s → r ≡ s
key_single V1 whole r s h k = coded_key_single h k refl
key_single V2 whole r s h k = coded_key_single h k refl
key_single V3 whole r s h k = corrupt_single ErrorInText single_text whole r s h k
