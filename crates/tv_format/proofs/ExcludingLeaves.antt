-- Where a leaf or a key is malformed, no prefix of the bytes encodes one.
use Rattle.std.proofs.Common.{◌≡◌, ℕ, ◌<◌, Bool, true, false, List, [], ◌∷◌, ◌++◌, length, refl, sym, ◌∙◌, ap, subst, arith, inl, inr, length-append}
use Rattle.std.specs.Prelude.{ℤ, pos, negsuc, ◌≤ℤ◌}
use Rattle.std.specs.Int.{w64, cast_unsigned}
use Rattle.std.proofs.lemmas.Int.{ints}
use Rattle.tv_base.specs.declared.cause.Cause.{Cause}
use Rattle.tv_format.specs.Content.{Content, no_content, truth_content, unsigned_content, signed_content, wide_content, text_content, bytes_content, tokens_content, form_of}
use Rattle.tv_format.specs.Leaves.{type_of, content, scale}
use Rattle.tv_format.specs.LeavesLaws.{one_code, form_of_content, IsLeafCode, leaf_coded}
use Rattle.tv_format.specs.Tree.{Token, Leaf}
use Rattle.tv_base.specs.Number.{VNum, Fixed, Truth, Signed}
use Rattle.tv_format.specs.Version.{Version, V1, V2, V3, Scale, plain, thousands, Scaled, Microseconds}
use Rattle.tv_format.specs.Encoding.{TokenEncoding, Tokenized, leaf_code, ContentBody, LeafBody, Key}
use Rattle.tv_format.specs.InputError.{ErrorInToken, ErrorInTokenized, IsOutside, ErrorInMicroseconds, date_ends, date_range, ErrorInScaled, ErrorInExtension, no_extension, other_extension, in_tokenized, ErrorInContent, ErrorInBody, ErrorInLeaf, Refusal, Corrupt, corrupt, ErrorInCodedKey, ErrorInKey, key_ends, key_unknown, key_float, key_other, key_no_extension, key_tokenized, key_other_extension, in_key}
use Rattle.tv_base.proofs.Numbers.{one_number, agree_fixed, length-fixed}
use Rattle.tv_format.proofs.Leaves.{fits_microseconds}
use Rattle.tv_format.specs.TokensLaws.{one_token}
use Rattle.tv_base.proofs.Texts.{one_text, same_signed}
use Rattle.tv_base.proofs.ExcludingParts.{excludes_bytes, excludes_sized, excludes_text, behind_head, behind_some}
use Rattle.tv_base.proofs.Excluding.{Excludes, excludes_then, excludes_each, excludes_number}
use Rattle.tv_base.specs.Parts.{Behind, Text}
use Rattle.tv_base.specs.ErrorInPart.{InEach, ErrorInNumber, ErrorInBytes, ErrorInText, ErrorInTruth, truth_ends, truth_large}

pub excludes_token : (t : Token) → Excludes ErrorInToken (λ b. TokenEncoding b t)
excludes_token t =
    excludes_then ErrorInNumber VNum _ t.offset_from (excludes_number t.offset_from) one_number
    (excludes_then ErrorInNumber VNum _ t.offset_to (excludes_number t.offset_to) one_number
    (excludes_then ErrorInNumber VNum _ t.position (excludes_number t.position) one_number
    (excludes_then ErrorInText Text _ t.text (excludes_text t.text) one_text
    (excludes_number t.position_length))))

excludes_tokenized : (t : List ℕ) (ts : List Token) → Excludes ErrorInTokenized (λ b. Tokenized b t ts)
excludes_tokenized t ts =
    excludes_then ErrorInText Text _ t (excludes_text t) one_text
    (excludes_then ErrorInNumber VNum (λ n. InEach ErrorInToken TokenEncoding n) (length ts) (excludes_number (length ts)) one_number
    (excludes_each ErrorInToken TokenEncoding excludes_token one_token (length ts) ts refl))

outside : (z : ℤ) → IsOutside z → negsuc 9223372036854774 ≤ℤ z → z ≤ℤ pos 9223372036854775 → ⊥
outside z o p q = elim o.outside [ inl h ↦ omega (arith, ints) | inr h ↦ omega (arith, ints) ]

micros_excludes : (z : ℤ) (whole a x : List ℕ) (c : Cause) → ErrorInMicroseconds whole c → Microseconds a z → whole ≡ a ++ x → ⊥
micros_excludes z whole a x c (date_ends h) p e = omega (arith, ap length e, length-append a x, length-fixed p.encoded)
micros_excludes z whole a x c (date_range y prefix rest joined q o) p e =
    let same = (agree_fixed 8 (cast_unsigned w64 y) (cast_unsigned w64 p.microseconds)).agree prefix a rest x q p.encoded (sym joined ∙ e) in
    let is : y ≡ p.microseconds = same_signed y p.microseconds o.fits (fits_microseconds p.microseconds p.from p.to) same.1 in
    outside p.microseconds (subst IsOutside is o) p.from p.to

excludes_eight : (n : ℕ) → Excludes (ErrorInBytes 8) (λ b. Fixed 8 b n)
excludes_eight n = excludes_bytes 8 (λ b. Fixed 8 b n) (λ b q. length-fixed q)

scaled_excludes : (s : Scale) (z : ℤ) (whole a x : List ℕ) (c : Cause) → ErrorInScaled s whole c → Scaled s a z → whole ≡ a ++ x → ⊥
scaled_excludes plain z whole a x c f p e = (excludes_bytes 8 (λ b. Signed b z) (λ b q. length-fixed q.encoded)).excludes whole a x c f p e
scaled_excludes thousands z whole a x c f p e = micros_excludes z whole a x c f p e

truth_excludes : (b : Bool) (n : ℕ) (rest a x : List ℕ) → Truth a b → n ∷ rest ≡ a ++ x → 1 < n → ⊥
truth_excludes true n rest a x p e l = let f : n ∷ rest ≡ (1 ∷ []) ++ x = e ∙ ap (λ z. z ++ x) p in let h : n ≡ 1 = cc in omega arith
truth_excludes false n rest a x p e l = let f : n ∷ rest ≡ (0 ∷ []) ++ x = e ∙ ap (λ z. z ++ x) p in let h : n ≡ 0 = cc in omega arith

truth_some : (b : Bool) (whole a x : List ℕ) → whole ≡ [] → Truth a b → whole ≡ a ++ x → ⊥
truth_some true whole a x n p e = let f : [] ≡ (1 ∷ []) ++ x = sym n ∙ e ∙ ap (λ z. z ++ x) p in cc
truth_some false whole a x n p e = let f : [] ≡ (0 ∷ []) ++ x = sym n ∙ e ∙ ap (λ z. z ++ x) p in cc

truth_error_excludes : (b : Bool) (whole a x : List ℕ) (c : Cause) → ErrorInTruth whole c → Truth a b → whole ≡ a ++ x → ⊥
truth_error_excludes b whole a x c (truth_ends h) p e = truth_some b whole a x h p e
truth_error_excludes b whole a x c (truth_large n rest h l) p e = truth_excludes b n rest a x p (sym h ∙ e) l

extension_excludes : (t : List ℕ) (ts : List Token) (whole a x : List ℕ) (c : Cause) → ErrorInExtension whole c → Behind 0 (λ b. Tokenized b t ts) a → whole ≡ a ++ x → ⊥
extension_excludes t ts whole a x c (no_extension h) p e = behind_some 0 whole a x h p e
extension_excludes t ts whole a x c (other_extension {b = b} rest h ne) p e = ne (behind_head b 0 rest a x p (sym h ∙ e)).0
extension_excludes t ts whole a x c (in_tokenized rest h f) p e = (excludes_tokenized t ts).excludes rest p.body x c f p.encoded (behind_head 0 0 rest a x p (sym h ∙ e)).1

content_excludes : (s : Scale) (h : Content) (whole a x : List ℕ) (c : Cause) → ErrorInContent s (form_of h) whole c → ContentBody s a h → whole ≡ a ++ x → ⊥
content_excludes s no_content whole a x c f p e = f
content_excludes s (truth_content b) whole a x c f p e = truth_error_excludes b whole a x c f p e
content_excludes s (unsigned_content n) whole a x c f p e = (excludes_eight n).excludes whole a x c f p e
content_excludes s (signed_content z) whole a x c f p e = scaled_excludes s z whole a x c f p e
content_excludes s (wide_content n) whole a x c f p e = (excludes_bytes 16 (λ b. Fixed 16 b n) (λ b q. length-fixed q)).excludes whole a x c f p e
content_excludes s (text_content t) whole a x c f p e = (excludes_text t).excludes whole a x c f p e
content_excludes s (bytes_content bs) whole a x c f p e = (excludes_sized bs).excludes whole a x c f p e
content_excludes s (tokens_content t ts) whole a x c f p e = extension_excludes t ts whole a x c f p e

pub leaf_excludes : (v : Version) {whole : List ℕ} {code : ℕ} {c : Cause} → ErrorInLeaf v whole code c → (l : Leaf) → code ≡ leaf_code l
    → (a x : List ℕ) → LeafBody v a l → whole ≡ a ++ x → ⊥
leaf_excludes v {whole} {c = c} f l k a x p e =
    let same : f.of_type ≡ type_of l = one_code f.of_type (type_of l) (f.coded ∙ k) in
    let error : ErrorInBody v (type_of l) whole c = subst (λ t. ErrorInBody v t whole c) same f.error in
    content_excludes (scale v (type_of l)) (content l) whole a x c (subst (λ t. ErrorInContent (scale v (type_of l)) t whole c) (sym (form_of_content l)) error) p e

-- no error of a leaf stands after the code of an array, an object or a legacy object, or that of floating-point numbers
pub leaf_error_code : {v : Version} {whole : List ℕ} {code : ℕ} {c : Cause} → ErrorInLeaf v whole code c → IsLeafCode code
leaf_error_code f = subst IsLeafCode f.coded (leaf_coded f.of_type)

coded_key_excludes : {whole : List ℕ} {r : Refusal} → ErrorInCodedKey whole r → (k a x : List ℕ) → Behind 0 (λ b. Text b k) a → whole ≡ a ++ x → ⊥
coded_key_excludes key_ends k a x p e = behind_some 0 [] a x refl p e
coded_key_excludes (key_unknown {b = b} {rest = rest} h) k a x p e = omega (arith, (behind_head b 0 rest a x p e).0)
coded_key_excludes (key_float {rest = rest}) k a x p e = omega (arith, (behind_head 6 0 rest a x p e).0)
coded_key_excludes (key_other {b = b} {rest = rest} some small float extension) k a x p e = omega (arith, (behind_head b 0 rest a x p e).0)
coded_key_excludes key_no_extension k a x p e = omega (arith, (behind_head 7 0 [] a x p e).0)
coded_key_excludes (key_tokenized {rest = rest}) k a x p e = omega (arith, (behind_head 7 0 (0 ∷ rest) a x p e).0)
coded_key_excludes (key_other_extension {b = b} {rest = rest} h) k a x p e = omega (arith, (behind_head 7 0 (b ∷ rest) a x p e).0)
coded_key_excludes (in_key {c = c} {rest = rest} h) k a x p e = (excludes_text k).excludes rest p.body x c h p.encoded (behind_head 0 0 rest a x p e).1

-- what is excluded among causes is excluded among refusals
pub excludes_corrupt : {F : List ℕ → Cause → Type 0} {P : List ℕ → Type 0} → Excludes F P → Excludes (Corrupt F) P
excludes_corrupt {F} {P} h = record { excludes = corrupt_excludes }
  where
    corrupt_excludes : (whole a x : List ℕ) (r : Refusal) → Corrupt F whole r → P a → whole ≡ a ++ x → ⊥
    corrupt_excludes whole a x r (corrupt {c = c} f) p e = h.excludes whole a x c f p e

pub key_excludes : (v : Version) (whole : List ℕ) (r : Refusal) → ErrorInKey v whole r → (k a x : List ℕ) → Key v a k → whole ≡ a ++ x → ⊥
key_excludes V1 whole r f k a x p e = coded_key_excludes f k a x p e
key_excludes V2 whole r f k a x p e = coded_key_excludes f k a x p e
key_excludes V3 whole r f k a x p e = (excludes_corrupt (excludes_text k)).excludes whole a x r f p e
