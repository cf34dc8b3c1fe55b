-- How the parts of a text with its tokens are passed over.
use Rattle.std.proofs.Common.{◌≡◌, ℕ, zero, suc, ◌+◌, ◌<◌, List, [], ◌∷◌, ◌++◌, length, Result, Ok, Err, refl, sym, ap, subst, ◌∙◌, arith, inl, inr, append_assoc, length-append}
use Rattle.std.proofs.lemmas.List.{append-nil}
use Rattle.tv_base.specs.declared.cause.Cause.{Cause}
use Rattle.tv_base.specs.declared.cause.Cause.TheVariants.{UnexpectedEnd}
use Rattle.tv_base.specs.ErrorInPart.{InThen, InEach, ErrorInNumber, number_ends, ErrorInText, in_sized}
use Rattle.tv_base.specs.Number.{VNum}
use Rattle.tv_base.specs.Parts.{Then, Each, Text}
use Rattle.tv_base.specs.Source.{Failures}
use Rattle.tv_base.proofs.Single.{single_number, single_text}
use Rattle.tv_format.specs.Encoding.{TokenEncoding}
use Rattle.tv_format.specs.InputError.{Refusal, corrupted, Corrupt, corrupt, ErrorInToken, ErrorInTokenized, in_tokenized}
use Rattle.tv_format.specs.Tree.{Token, leaf, tokenized}
use Rattle.tv_format.specs.Version.{Version}
use Rattle.tv_format.specs.declared.leaf_type.LeafType.TheVariants as leaves
use Rattle.tv_reader.specs.Finds.{FindsIf}
use Rattle.tv_reader.specs.Trees.{NoValue}
use Rattle.tv_reader.specs.declared.error.DeserializeError.{DeserializeError}
use Rattle.tv_reader.proofs.BehindKinds.{held_error}
use Rattle.tv_reader.proofs.Finding.{finds_fails}
use Rattle.tv_reading.specs.Skip.{IsNumberEncoding, IsTextEncoding, IsTextAndNumber, IsTokenEncoding, AreTokenEncodings, ErrorInTextAndNumber, ErrorInTokens, AreCounted, ErrorInCounted, IsTokenizedEncoding, IsValueEncoding}
use Rattle.tv_reading.proofs.Passing.{end, finds_after}
use Rattle.tv_reader.specs.Error.{StoreMayStopRoomy}
use Rattle.tv_reader.proofs.TreeSteps.{no_rest}

-- ---- one part, and what is after it

-- the end is the only error of no bytes
abbrev pub EndsFirst : (List ℕ → Cause → Type 0) → Type 0
EndsFirst G = (c : Cause) → G [] c → c ≡ UnexpectedEnd

in_later : {A : Type 0} (F : List ℕ → Cause → Type 0) (R : List ℕ → A → Type 0) (G : List ℕ → Cause → Type 0) (x : A) (a w : List ℕ) (r : Refusal) → R a x → Corrupt G w r → Corrupt (InThen F R (λ _. G)) (a ++ w) r
in_later F R G x a w _ p (corrupt f) = corrupt (inr (x, record { prefix = a; rest = w; joined = refl; first = p; second = f }))

ends_corrupt : (G : List ℕ → Cause → Type 0) → EndsFirst G → (r : Refusal) → Corrupt G [] r → r ≡ end
ends_corrupt G ended _ (corrupt {c} f) = ap corrupted (ended c f)

pub part_then : {S X Y A : Type 0} {May : DeserializeError → ℕ → Type 0} {is_known : S → Type 0} {left : S → List ℕ} {failures : S → Failures} {old mid new : S} {i j k : ℕ} {x : X} {result : Result Y DeserializeError} {I : List ℕ → Refusal → Type 0}
    (F : List ℕ → Cause → Type 0) (R : List ℕ → A → Type 0) (G : List ℕ → Cause → Type 0) (More : List ℕ → Type 0) → EndsFirst G
    → FindsIf May is_known left failures old i mid j (Ok x) (λ b _. (z : A) × R b z) I → FindsIf StoreMayStopRoomy is_known left failures mid j new k result (λ b _. More b) (Corrupt G)
    → FindsIf StoreMayStopRoomy is_known left failures old i new k result (λ b _. Then (λ a. (z : A) × R a z) More b) (Corrupt (InThen F R (λ _. G)))
part_then F R G More ended p h =
    finds_after (λ b _. Then (λ a. (z : _) × R a z) More b) (Corrupt (InThen F R (λ _. G))) (ends_corrupt G ended)
    (λ a b y q s. record { prefix = a; rest = b; joined = refl; first = q; second = s }) (λ a w r q f. in_later F R G q.0 a w r q.1 f) p h

in_first : {A : Type 0} (F : List ℕ → Cause → Type 0) (R : List ℕ → A → Type 0) (G : List ℕ → Cause → Type 0) (w : List ℕ) (r : Refusal) → Corrupt F w r → Corrupt (InThen F R (λ _. G)) w r
in_first F R G w _ (corrupt f) = corrupt (inl f)

pub part_fails : {S X Y A : Type 0} {is_known : S → Type 0} {left : S → List ℕ} {failures : S → Failures} {old new : S} {i k : ℕ} {e : DeserializeError} {B : List ℕ → X → Type 0}
    (F : List ℕ → Cause → Type 0) (R : List ℕ → A → Type 0) (G : List ℕ → Cause → Type 0) (C : List ℕ → Y → Type 0)
    → FindsIf {X = X} StoreMayStopRoomy is_known left failures old i new k (Err e) B (Corrupt F) → FindsIf {X = Y} StoreMayStopRoomy is_known left failures old i new k (Err e) C (Corrupt (InThen F R (λ _. G)))
part_fails F R G C h = finds_fails C (Corrupt (InThen F R (λ _. G))) (in_first F R G) h

-- ---- errors of no bytes

number_ends_first : EndsFirst ErrorInNumber
number_ends_first c f = single_number.single [] c UnexpectedEnd f (number_ends (omega arith) tt)

text_ends_first : EndsFirst ErrorInText
text_ends_first c f = single_text.single [] c UnexpectedEnd f (in_sized (inl (number_ends (omega arith) tt)))

then_ends_first : {A : Type 0} (F : List ℕ → Cause → Type 0) (R : List ℕ → A → Type 0) (G : A → List ℕ → Cause → Type 0) → EndsFirst F → ((x : A) → EndsFirst (G x)) → EndsFirst (InThen F R G)
then_ends_first F R G f g c h = elim h [
  | inl p ↦ f c p
  | inr q ↦ g q.0 c (subst (λ l. G q.0 l c) (no_rest q.1.prefix q.1.rest q.1.joined) q.1.second)
]

pub text_and_number_ends_first : EndsFirst ErrorInTextAndNumber
text_and_number_ends_first = then_ends_first ErrorInText Text (λ _. ErrorInNumber) text_ends_first (λ _. number_ends_first)

pub two_end_first : EndsFirst (InThen ErrorInNumber VNum (λ _. ErrorInTextAndNumber))
two_end_first = then_ends_first ErrorInNumber VNum (λ _. ErrorInTextAndNumber) number_ends_first (λ _. text_and_number_ends_first)

pub three_end_first : EndsFirst (InThen ErrorInNumber VNum (λ _. InThen ErrorInNumber VNum (λ _. ErrorInTextAndNumber)))
three_end_first = then_ends_first ErrorInNumber VNum (λ _. InThen ErrorInNumber VNum (λ _. ErrorInTextAndNumber)) number_ends_first (λ _. two_end_first)

pub number_first : EndsFirst ErrorInNumber
number_first = number_ends_first

token_ends_first : EndsFirst ErrorInToken
token_ends_first = then_ends_first ErrorInNumber VNum (λ _. InThen ErrorInNumber VNum (λ _. InThen ErrorInNumber VNum (λ _. ErrorInTextAndNumber))) number_ends_first (λ _. three_end_first)

tokens_end_first : (n : ℕ) → EndsFirst (ErrorInTokens n)
tokens_end_first zero c h = absurd h
tokens_end_first (suc n) c h = then_ends_first ErrorInToken TokenEncoding (λ _. ErrorInTokens n) token_ends_first (λ _. tokens_end_first n) c h

pub tokens_ended : (n : ℕ) (r : Refusal) → Corrupt (ErrorInTokens n) [] r → r ≡ end
tokens_ended n r f = ends_corrupt (ErrorInTokens n) (tokens_end_first n) r f

pub token_ended : (r : Refusal) → Corrupt ErrorInToken [] r → r ≡ end
token_ended r f = ends_corrupt ErrorInToken token_ends_first r f

pub counted_ends_first : EndsFirst ErrorInCounted
counted_ends_first = then_ends_first ErrorInNumber VNum ErrorInTokens number_ends_first tokens_end_first

-- ---- tokens

pub is_token : (b : List ℕ) → Then IsNumberEncoding (Then IsNumberEncoding (Then IsNumberEncoding IsTextAndNumber)) b → IsTokenEncoding b
is_token b p =
    let q = p.second in
    let s = q.second in
    let t = s.second in (
      record { offset_from = p.first.0; offset_to = q.first.0; position = s.first.0; text = t.first.0; position_length = t.second.0 },
      record {
        prefix = p.prefix;
        rest = p.rest;
        joined = p.joined;
        first = p.first.1;
        second = record {
          prefix = q.prefix;
          rest = q.rest;
          joined = q.joined;
          first = q.first.1;
          second = record {
            prefix = s.prefix;
            rest = s.rest;
            joined = s.joined;
            first = s.first.1;
            second = record { prefix = t.prefix; rest = t.rest; joined = t.joined; first = t.first.1; second = t.second.1 };
          };
        };
      },
    )

pub no_tokens : AreTokenEncodings 0 []
no_tokens = record { tokens = []; many = refl; encoded = refl }

each_push : (xs : List Token) (x : Token) (a b : List ℕ) → Each TokenEncoding a xs → TokenEncoding b x → Each TokenEncoding (a ++ b) (xs ++ x ∷ [])
each_push [] x a b p q = record { prefix = b; rest = []; joined = ap (λ (l : List ℕ). l ++ b) p ∙ sym (append-nil b); first = q; second = refl }
each_push (y ∷ ys) x a b p q = record {
  prefix = p.prefix;
  rest = p.rest ++ b;
  joined = ap (λ (l : List ℕ). l ++ b) p.joined ∙ append_assoc p.prefix p.rest b;
  first = p.first;
  second = each_push ys x p.rest b p.second q;
}

pub more_tokens : (m : ℕ) (a b : List ℕ) → AreTokenEncodings m a → IsTokenEncoding b → AreTokenEncodings (m + 1) (a ++ b)
more_tokens m a b p q =
    record { tokens = p.tokens ++ q.0 ∷ []; many = omega (arith, length-append p.tokens (q.0 ∷ []), p.many); encoded = each_push p.tokens q.0 a b p.encoded q.1 }

each_fails : (xs : List Token) (n : ℕ) (a w : List ℕ) (c : Cause) → length xs < n → Each TokenEncoding a xs → ErrorInToken w c → InEach ErrorInToken TokenEncoding n (a ++ w) c
each_fails xs zero a w c less p f = absurd (omega (arith, less))
each_fails [] (suc n) a w c less p f = inl (subst (λ (l : List ℕ). ErrorInToken (l ++ w) c) (sym p) f)
each_fails (x ∷ xs) (suc n) a w c less p f = inr (
  x,
  record {
    prefix = p.prefix;
    rest = p.rest ++ w;
    joined = ap (λ (l : List ℕ). l ++ w) p.joined ∙ append_assoc p.prefix p.rest w;
    first = p.first;
    second = each_fails xs n p.rest w c (omega (arith, less)) p.second f;
  },
)

pub tokens_fail : (m n : ℕ) (a w : List ℕ) (r : Refusal) → m < n → AreTokenEncodings m a → Corrupt ErrorInToken w r → Corrupt (ErrorInTokens n) (a ++ w) r
tokens_fail m n a w _ less p (corrupt {c} f) = corrupt (each_fails p.tokens n a w c (omega (arith, less, p.many)) p.encoded f)

pub counted_tokens : (n : ℕ) (a b : List ℕ) → VNum a n → AreTokenEncodings n b → AreCounted (a ++ b)
counted_tokens n a b number p = (p.tokens, record { prefix = a; rest = b; joined = refl; first = subst (VNum a) (sym p.many) number; second = p.encoded })

pub counted_fail : (n : ℕ) (a w : List ℕ) (r : Refusal) → VNum a n → Corrupt (ErrorInTokens n) w r → Corrupt ErrorInCounted (a ++ w) r
counted_fail n a w _ number (corrupt f) = corrupt (inr (n, record { prefix = a; rest = w; joined = refl; first = number; second = f }))

pub is_tokenized : (b : List ℕ) → Then IsTextEncoding AreCounted b → IsTokenizedEncoding b
is_tokenized b p = (p.first.0, p.second.0, record { prefix = p.prefix; rest = p.rest; joined = p.joined; first = p.first.1; second = p.second.1 })

-- ---- as a value

pub tokenized_is_value : (v : Version) (a : List ℕ) → IsTokenizedEncoding a → IsValueEncoding v (7 ∷ 0 ∷ a)
tokenized_is_value v a t = (leaf (tokenized t.0 t.1), record { body = 0 ∷ a; joined = refl; encoded = record { body = a; joined = refl; encoded = t.2 } })

pub tokenized_no_value : (v : Version) (w : List ℕ) (r : Refusal) → Corrupt ErrorInTokenized w r → NoValue v (7 ∷ 0 ∷ w) r
tokenized_no_value v w _ (corrupt f) = held_error leaves.PreTokStr (in_tokenized w refl f)
