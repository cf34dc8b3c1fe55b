-- Where one part isn't encoded, what begins with it isn't.
use Rattle.std.proofs.Common.{◌≡◌, ℕ, ◌<◌, List, [], ◌∷◌, ◌++◌, length, IsUtf8, refl, sym, ◌∙◌, ap, subst, arith, append_assoc, length-append}
use Rattle.std.specs.Prelude.{Option, Some, None, IfNone}
use Rattle.std.proofs.lemmas.List.{append_cancel_left}
use Rattle.tv_base.specs.Number.{VNum}
use Rattle.tv_base.specs.Parts.{OneReading, Begins, Then, Sized, Text, Each, Counted}
use Rattle.tv_base.proofs.Numbers.{one_number}
use Rattle.tv_base.proofs.Texts.{one_sized}
use Rattle.tv_value.specs.InPlace.{NoPrefix, NoTokens}
use Rattle.tv_format.specs.Encoding.{TokenEncoding}
use Rattle.tv_format.specs.TokensLaws.{one_token}
use Rattle.tv_format.specs.Tree.{Token}

pub if_none : {A : Type 0} {P : Type 0} (r : Option A) → P → IfNone r P
if_none None p = p
if_none (Some x) p = tt

-- the first part is nowhere, or is there, and the next part is nowhere after it
pub first_none : {A : Type 0} {Q : List ℕ → Type 0} (R : List ℕ → A → Type 0) (whole : List ℕ) → ((x : A) → NoPrefix (λ b. R b x) whole) → (y : A) → NoPrefix (Then (λ b. R b y) Q) whole
first_none R whole h y = record { none = λ prefix rest e p. (h y).none p.prefix (p.rest ++ rest) (e ∙ ap (λ z. z ++ rest) p.joined ∙ append_assoc p.prefix p.rest rest) p.first }

pub second_none : {A : Type 0} {Q : List ℕ → Type 0} (R : List ℕ → A → Type 0) → OneReading R → (x : A) (whole behind : List ℕ) → Begins (λ b. R b x) whole behind → NoPrefix Q behind
    → (y : A) → NoPrefix (Then (λ b. R b y) Q) whole
second_none R one x whole behind b h y = record {
  none = λ prefix rest e p.
      let cut : b.prefix ++ behind ≡ p.prefix ++ (p.rest ++ rest) = sym b.joined ∙ e ∙ ap (λ z. z ++ rest) p.joined ∙ append_assoc p.prefix p.rest rest in
      let same = one b.prefix p.prefix behind (p.rest ++ rest) x y b.encoded p.first cut in
      h.none p.rest rest (append_cancel_left p.prefix _ _ (ap (λ z. z ++ behind) (sym same.0) ∙ cut)) p.second;
}

-- no text stands where its length doesn't, where there are fewer bytes after the length, and where they are no UTF-8
pub text_none : (whole : List ℕ) → ((n : ℕ) → NoPrefix (λ b. VNum b n) whole) → (content : List ℕ) → NoPrefix (λ b. Text b content) whole
text_none whole h content = record {
  none = λ prefix rest e p.
      (h (length content)).none p.sized.size (content ++ rest) (e ∙ ap (λ z. z ++ rest) p.sized.joined ∙ append_assoc p.sized.size content rest) p.sized.number;
}

pub text_ends : (whole behind : List ℕ) (n : ℕ) → Begins (λ b. VNum b n) whole behind → length behind < n → (content : List ℕ) → NoPrefix (λ b. Text b content) whole
text_ends whole behind n b few content = record {
  none = λ prefix rest e p.
      let cut : b.prefix ++ behind ≡ p.sized.size ++ (content ++ rest) = sym b.joined ∙ e ∙ ap (λ z. z ++ rest) p.sized.joined ∙ append_assoc p.sized.size content rest in
      let same = one_number b.prefix p.sized.size behind (content ++ rest) n (length content) b.encoded p.sized.number cut in
      omega (arith, same.1, ap length same.0, ap length cut, length-append b.prefix behind, length-append p.sized.size (content ++ rest), length-append content rest);
}

pub text_wrong : (whole behind content : List ℕ) → Begins (λ b. Sized b content) whole behind → ¬ IsUtf8 content → (other : List ℕ) → NoPrefix (λ b. Text b other) whole
text_wrong whole behind content b wrong other = record {
  none = λ prefix rest e p.
      let same = one_sized b.prefix prefix behind rest content other b.encoded p.sized (sym b.joined ∙ e) in
      wrong (subst IsUtf8 (sym same.1) p.utf8);
}

-- after fewer tokens than there should be stands none
pub token_missing : (done : List Token) (whole rest : List ℕ) → Begins (λ b. Each TokenEncoding b done) whole rest → ((t : Token) → NoPrefix (λ b. TokenEncoding b t) rest)
    → (all : List Token) → length done < length all → NoPrefix (λ b. Each TokenEncoding b all) whole
token_missing done whole rest b none [] fewer = absurd (omega arith)
token_missing [] whole rest b none (t ∷ ts) fewer =
    first_none TokenEncoding whole (subst (λ z. (x : Token) → NoPrefix (λ s. TokenEncoding s x) z) (sym (b.joined ∙ ap (λ z. z ++ rest) b.encoded)) none) t
token_missing (d ∷ ds) whole rest b none (t ∷ ts) fewer =
    let parts = b.encoded in
    let behind = parts.rest ++ rest in
    let first : Begins (λ s. TokenEncoding s d) whole behind =
    record { prefix = parts.prefix; joined = b.joined ∙ ap (λ z. z ++ rest) parts.joined ∙ append_assoc parts.prefix parts.rest rest; encoded = parts.first } in
    let others : Begins (λ s. Each TokenEncoding s ds) behind rest = record { prefix = parts.rest; joined = refl; encoded = parts.second } in
    second_none TokenEncoding one_token d whole behind first (token_missing ds behind rest others none ts (omega arith)) t

-- after a number stand fewer tokens than that
pub counted_none : (whole behind : List ℕ) (count : ℕ) → Begins (λ b. VNum b count) whole behind → NoTokens count behind → (tokens : List Token)
    → NoPrefix (λ b. Counted TokenEncoding b tokens) whole
counted_none whole behind count b h tokens = record {
  none = λ prefix rest e p.
      let cut : b.prefix ++ behind ≡ p.prefix ++ (p.rest ++ rest) = sym b.joined ∙ e ∙ ap (λ z. z ++ rest) p.joined ∙ append_assoc p.prefix p.rest rest in
      let same = one_number b.prefix p.prefix behind (p.rest ++ rest) count (length tokens) b.encoded p.first cut in
      (h tokens (sym same.1)).none p.rest rest (append_cancel_left p.prefix _ _ (ap (λ z. z ++ behind) (sym same.0) ∙ cut)) p.second;
}
