-- Leaves have one reading.
use Rattle.std.proofs.Common.{◌≡◌, ℕ, Bool, true, false, List, [], ◌∷◌, ◌++◌, refl, sym, ◌∙◌, ap, subst, arith}
use Rattle.std.specs.Prelude.{ℤ, pos, negsuc, ◌*ℤ◌, ◌≤ℤ◌, FitsSigned}
use Rattle.std.specs.Int.{w64, cast_unsigned}
use Rattle.std.proofs.lemmas.Int.{ints}
use Rattle.tv_format.specs.Content.{Content, no_content, truth_content, unsigned_content, signed_content, wide_content, text_content, bytes_content, tokens_content, form_of}
use Rattle.tv_format.specs.Leaves.{type_of, content, form, scale}
use Rattle.tv_format.specs.LeavesLaws.{one_leaf, form_of_content, one_code}
use Rattle.tv_format.specs.Tree.{Token, Leaf, tokenized}
use Rattle.tv_format.specs.Version.{Version, V1, V2, V3, Scale, plain, thousands, Scaled, Microseconds, entry_total}
use Rattle.tv_base.specs.Number.{Truth}
use Rattle.tv_format.specs.Encoding.{TokenEncoding, Tokenized, leaf_code, ContentBody, LeafBody, Key}
use Rattle.tv_format.specs.TokensLaws.{one_token}
use Rattle.tv_base.proofs.Agreement.{Agree, agree_map, agree_empty, agree_then, agree_behind}
use Rattle.tv_base.proofs.Numbers.{agree_counted, agree_fixed}
use Rattle.tv_base.proofs.Texts.{agree_sized, agree_text, same_signed, agree_signed}

agree_truth : (s t : Bool) → Agree (λ b. Truth b s) (λ b. Truth b t) (s ≡ t)
agree_truth false false = record { agree = λ a b x y p q e. (p ∙ sym q, refl) }
agree_truth true true = record { agree = λ a b x y p q e. (p ∙ sym q, refl) }
agree_truth false true = record { agree = λ a b x y p q e. let f : (0 ∷ []) ++ x ≡ (1 ∷ []) ++ y = ap (λ z. z ++ x) (sym p) ∙ e ∙ ap (λ z. z ++ y) q in absurd (cc) }
agree_truth true false = record { agree = λ a b x y p q e. let f : (1 ∷ []) ++ x ≡ (0 ∷ []) ++ y = ap (λ z. z ++ x) (sym p) ∙ e ∙ ap (λ z. z ++ y) q in absurd (cc) }

pub fits_microseconds : (m : ℤ) → negsuc 9223372036854774 ≤ℤ m → m ≤ℤ pos 9223372036854775 → FitsSigned w64 m
fits_microseconds (pos n) p q = record { sfits = omega (arith, ints) }
fits_microseconds (negsuc n) p q = record { sfits = omega (arith, ints) }

agree_microseconds : (s t : ℤ) → Agree (λ b. Microseconds b s) (λ b. Microseconds b t) (s ≡ t)
agree_microseconds s t = record {
  agree = λ a b x y p q e.
      let r = (agree_fixed 8 (cast_unsigned w64 p.microseconds) (cast_unsigned w64 q.microseconds)).agree a b x y p.encoded q.encoded e in
      let same = same_signed p.microseconds q.microseconds (fits_microseconds p.microseconds p.from p.to) (fits_microseconds q.microseconds q.from q.to) r.1 in
      (r.0, p.same ∙ ap (λ m. m *ℤ pos 1000) same ∙ sym q.same);
}

agree_scaled : (s : Scale) (y z : ℤ) → Agree (λ b. Scaled s b y) (λ b. Scaled s b z) (y ≡ z)
agree_scaled plain y z = agree_signed y z
agree_scaled thousands y z = agree_microseconds y z

pub agree_tokenized : (s t : List ℕ) (ss ts : List Token) → Agree (λ b. Tokenized b s ss) (λ b. Tokenized b t ts) (tokenized s ss ≡ tokenized t ts)
agree_tokenized s t ss ts = agree_map (λ e. λ i. tokenized (e.0 i) (e.1 i)) (agree_then (agree_text s t) (λ _. agree_counted {R = TokenEncoding} one_token ss ts))

agree_content : (s : Scale) (h i : Content) → form_of h ≡ form_of i → Agree (λ b. ContentBody s b h) (λ b. ContentBody s b i) (h ≡ i)
agree_content s no_content no_content e = agree_map (λ _. refl) agree_empty
agree_content s (truth_content a) (truth_content b) e = agree_map (ap truth_content) (agree_truth a b)
agree_content s (unsigned_content m) (unsigned_content n) e = agree_map (ap unsigned_content) (agree_fixed 8 m n)
agree_content s (signed_content y) (signed_content z) e = agree_map (ap signed_content) (agree_scaled s y z)
agree_content s (wide_content m) (wide_content n) e = agree_map (ap wide_content) (agree_fixed 16 m n)
agree_content s (text_content a) (text_content b) e = agree_map (ap text_content) (agree_text a b)
agree_content s (bytes_content a) (bytes_content b) e = agree_map (ap bytes_content) (agree_sized a b)
agree_content s (tokens_content t ts) (tokens_content u us) e = agree_behind (λ _. agree_map (ap content) (agree_tokenized t u ts us))
agree_content s _ _ e = absurd (cc)

pub agree_leaf : (v : Version) (s t : Leaf) → leaf_code s ≡ leaf_code t → Agree (λ b. LeafBody v b s) (λ b. LeafBody v b t) (s ≡ t)
agree_leaf v s t e =
    let same : type_of s ≡ type_of t = one_code (type_of s) (type_of t) e in
    let forms : form_of (content s) ≡ form_of (content t) = form_of_content s ∙ ap form same ∙ sym (form_of_content t) in
    agree_map (one_leaf s t same)
    (subst (λ k. Agree (λ b. ContentBody (scale v (type_of s)) b (content s)) (λ b. ContentBody (scale v k) b (content t)) (content s ≡ content t)) same
    (agree_content (scale v (type_of s)) (content s) (content t) forms))

pub agree_key : (v : Version) (s t : List ℕ) → Agree (λ b. Key v b s) (λ b. Key v b t) (s ≡ t)
agree_key V1 s t = agree_behind (λ _. agree_text s t)
agree_key V2 s t = agree_behind (λ _. agree_text s t)
agree_key V3 s t = agree_text s t

-- a total is that of one number of entries
pub total_same : (v : Version) (m n : ℕ) → entry_total v m ≡ entry_total v n → m ≡ n
total_same V1 m n e = omega arith
total_same V2 m n e = omega arith
total_same V3 m n e = e
