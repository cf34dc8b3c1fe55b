-- The first token that is left, and the others.
use Rattle.std.proofs.Common.{◌≡◌, ℕ, ◌+◌, ◌-◌, ◌<◌, List, [], ◌∷◌, ◌++◌, length, map, refl, sym, ◌∙◌, ap, subst, arith, append_assoc}
use Rattle.std.proofs.Math.Logic.{∥∥₁_elim, ∥∥₁_map}
use Rattle.std.proofs.lemmas.List.{append_cancel_left, nil_from_length}
use Rattle.std.specs.Coded.{coded_list}
use mathlib.Core.HLevel.{⊥_prop}
use base.Stored.{Coded-set}
use Rattle.tv_base.specs.Parts.{Begins, Each}
use Rattle.tv_value.specs.declared.tokenizer.Token as tokenizer
use Rattle.tv_value.specs.HeldTokens.{token_of, AreHeld, HeldTokens}
use Rattle.tv_value.specs.InPlace.{NoPrefix}
use Rattle.tv_format.specs.Short.{AreTokens}
use Rattle.tv_format.specs.Encoding.{TokenEncoding}
use Rattle.tv_format.specs.TokensLaws.{one_token}
use Rattle.tv_format.specs.Tree.{Token}
use Rattle.tv_format.specs.TreeCode.{coded_token}
use Rattle.tv_value.proofs.Kept.{same_tokens}

-- the tokens are this first one and those that are still held
pub record Goes (kept : List tokenizer.Token) (encoded : List ℕ) (count : ℕ) (first : Token) (tokens : List Token) : Type 0 where
  pub others : List Token
  pub is : tokens ≡ first ∷ others
  pub left : ∥ AreHeld kept encoded count others ∥₁

valid_others : (t : Token) (ts : List Token) → AreTokens (t ∷ ts) → AreTokens ts
valid_others t ts v = record { count = omega (arith, v.count); each = v.each.1 }

-- where the first is kept
kept_first : (t : tokenizer.Token) (kept : List tokenizer.Token) (encoded : List ℕ) (count : ℕ) (x : Token) (xs : List Token) → AreHeld (t ∷ kept) encoded count (x ∷ xs)
    → (x ≡ token_of t) × AreHeld kept encoded count xs
kept_first t kept encoded count x xs p =
    let joined : x ∷ xs ≡ token_of t ∷ (map token_of kept ++ p.others) = p.joined in
    let first : x ≡ token_of t = cc in
    let rest : xs ≡ map token_of kept ++ p.others = cc in
    (first, record { others = p.others; joined = rest; counted = p.counted; behind = p.behind; begins = p.begins; valid = valid_others x xs p.valid })

kept_some : (t : tokenizer.Token) (kept : List tokenizer.Token) (encoded : List ℕ) (count : ℕ) → AreHeld (t ∷ kept) encoded count [] → ⊥
kept_some t kept encoded count p = let joined : [] ≡ token_of t ∷ (map token_of kept ++ p.others) = p.joined in absurd (cc)

goes : (t : tokenizer.Token) (kept : List tokenizer.Token) (encoded : List ℕ) (count : ℕ) (tokens : List Token) → ∥ AreHeld (t ∷ kept) encoded count tokens ∥₁
    → Goes kept encoded count (token_of t) tokens
goes t kept encoded count [] h = absurd (∥∥₁_elim h ⊥_prop (kept_some t kept encoded count))
goes t kept encoded count (x ∷ xs) h =
    let set = Coded-set coded_token x (token_of t) in
    let first : x ≡ token_of t = ∥∥₁_elim h set (λ p. (kept_first t kept encoded count x xs p).0) in
    record { others = xs; is = ap (λ z. z ∷ xs) first; left = ∥∥₁_map h (λ p. (kept_first t kept encoded count x xs p).1) }

pub goes_kept : (all kept : List tokenizer.Token) (t : tokenizer.Token) (encoded : List ℕ) (count : ℕ) (held : HeldTokens all encoded count) → all ≡ t ∷ kept
    → Goes kept encoded count (token_of t) held.0
goes_kept all kept t encoded count held e = goes t kept encoded count held.0 (subst (λ z. ∥ AreHeld z encoded count held.0 ∥₁) e held.1)

-- where none is kept
encoded_first : (encoded behind : List ℕ) (count : ℕ) (t x : Token) (xs : List Token) → Begins (λ b. TokenEncoding b t) encoded behind → AreHeld [] encoded count (x ∷ xs)
    → (x ≡ t) × AreHeld [] behind (count - 1) xs
encoded_first encoded behind count t x xs b p =
    let begins = subst (λ z. Begins (λ s. Each TokenEncoding s z) encoded p.behind) (sym p.joined) p.begins in
    let parts = begins.encoded in
    let cut : b.prefix ++ behind ≡ parts.prefix ++ (parts.rest ++ p.behind) =
    sym b.joined ∙ begins.joined ∙ ap (λ z. z ++ p.behind) parts.joined ∙ append_assoc parts.prefix parts.rest p.behind in
    let same = one_token b.prefix parts.prefix behind (parts.rest ++ p.behind) t x b.encoded parts.first cut in
    let rest : behind ≡ parts.rest ++ p.behind = append_cancel_left parts.prefix _ _ (ap (λ z. z ++ behind) (sym same.0) ∙ cut) in
    let many : length xs + 1 ≡ count = omega (arith, ap length p.joined, p.counted) in (
      sym same.1,
      record {
        others = xs;
        joined = refl;
        counted = omega arith;
        behind = p.behind;
        begins = record { prefix = parts.rest; joined = rest; encoded = parts.second };
        valid = valid_others x xs p.valid;
      },
    )

encoded_some : (encoded : List ℕ) (count : ℕ) → 0 < count → AreHeld [] encoded count [] → ⊥
encoded_some encoded count some p = omega (arith, ap length p.joined, p.counted)

encoded_goes : (encoded behind : List ℕ) (count : ℕ) (t : Token) (tokens : List Token) → 0 < count → Begins (λ b. TokenEncoding b t) encoded behind → ∥ AreHeld [] encoded count tokens ∥₁
    → Goes [] behind (count - 1) t tokens
encoded_goes encoded behind count t [] some b h = absurd (∥∥₁_elim h ⊥_prop (encoded_some encoded count some))
encoded_goes encoded behind count t (x ∷ xs) some b h =
    let set = Coded-set coded_token x t in
    let first : x ≡ t = ∥∥₁_elim h set (λ p. (encoded_first encoded behind count t x xs b p).0) in
    record { others = xs; is = ap (λ z. z ∷ xs) first; left = ∥∥₁_map h (λ p. (encoded_first encoded behind count t x xs b p).1) }

pub goes_encoded : (kept : List tokenizer.Token) (encoded behind : List ℕ) (count : ℕ) (t : Token) (held : HeldTokens kept encoded count) → length kept ≡ 0 → 0 < count
    → Begins (λ b. TokenEncoding b t) encoded behind → Goes kept behind (count - 1) t held.0
goes_encoded kept encoded behind count t held e some b =
    let none = nil_from_length kept e in
    let h = encoded_goes encoded behind count t held.0 some b (subst (λ z. ∥ AreHeld z encoded count held.0 ∥₁) none held.1) in
    subst (λ z. Goes z behind (count - 1) t held.0) (sym none) h

-- a token that is left is encoded there
encoded_there : (encoded : List ℕ) (count : ℕ) (tokens : List Token) → 0 < count → AreHeld [] encoded count tokens → ((t : Token) → NoPrefix (λ b. TokenEncoding b t) encoded) → ⊥
encoded_there encoded count [] some p none = encoded_some encoded count some p
encoded_there encoded count (x ∷ xs) some p none =
    let begins = subst (λ z. Begins (λ s. Each TokenEncoding s z) encoded p.behind) (sym p.joined) p.begins in
    let parts = begins.encoded in
    (none x).none parts.prefix (parts.rest ++ p.behind) (begins.joined ∙ ap (λ z. z ++ p.behind) parts.joined ∙ append_assoc parts.prefix parts.rest p.behind) parts.first

pub never_ends : (kept : List tokenizer.Token) (encoded : List ℕ) (count : ℕ) (held : HeldTokens kept encoded count) → length kept ≡ 0 → 0 < count
    → ((t : Token) → NoPrefix (λ b. TokenEncoding b t) encoded) → ⊥
never_ends kept encoded count held e some none =
    ∥∥₁_elim held.1 ⊥_prop (λ p. encoded_there encoded count held.0 some (subst (λ z. AreHeld z encoded count held.0) (nil_from_length kept e) p) none)

-- where none is kept and none is encoded
no_others : (encoded : List ℕ) (tokens : List Token) → AreHeld [] encoded 0 tokens → tokens ≡ []
no_others encoded [] p = refl
no_others encoded (x ∷ xs) p = absurd (omega (arith, ap length p.joined, p.counted))

pub ends : (kept : List tokenizer.Token) (encoded : List ℕ) (count : ℕ) (held : HeldTokens kept encoded count) → length kept ≡ 0 → count ≡ 0 → held.0 ≡ []
ends kept encoded count held e none =
    let at = subst (λ n. ∥ AreHeld [] encoded n held.0 ∥₁) none (subst (λ z. ∥ AreHeld z encoded count held.0 ∥₁) (nil_from_length kept e) held.1) in
    ∥∥₁_elim at (Coded-set (coded_list coded_token) held.0 []) (no_others encoded held.0)

-- what is left after the first
pub goes_on : {kept : List tokenizer.Token} {encoded : List ℕ} {count : ℕ} {first : Token} {tokens : List Token} → Goes kept encoded count first tokens → (y : HeldTokens kept encoded count)
    → tokens ≡ first ∷ y.0
goes_on {kept} {encoded} {count} {first} g y = g.is ∙ ap (λ z. first ∷ z) (same_tokens kept encoded count (g.others, g.left) y)

pub goes_down : {kept : List tokenizer.Token} {encoded : List ℕ} {count : ℕ} {first : Token} {tokens : List Token} → Goes kept encoded count first tokens → (y : HeldTokens kept encoded count)
    → length y.0 < length tokens
goes_down g y = omega (arith, ap length (goes_on g y))
