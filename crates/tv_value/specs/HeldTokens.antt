-- Tokens that are left to be taken: some are kept as they are, and after them this many are encoded in bytes.
use Rattle.std.specs.Prelude.{◌≡◌, ℕ, List, ◌++◌, length, map}
use Rattle.std.specs.String.{string_bytes}
use Rattle.std.specs.Coded.{coded_list}
use Rattle.std.proofs.Common.{ap, sym, ◌∙◌}
use Rattle.std.proofs.Math.Logic.{∥∥₁_elim, ∥∥₁_prop}
use mathlib.Core.HLevel.{Σ_prop_path}
use base.Stored.{Coded-set}
use Rattle.tv_base.specs.Parts.{Begins, Each}
use Rattle.tv_base.proofs.Agreement.{agree_each}
use Rattle.tv_value.specs.declared.tokenizer.Token as tokenizer
use Rattle.tv_format.specs.Short.{AreTokens}
use Rattle.tv_format.specs.Encoding.{TokenEncoding}
use Rattle.tv_format.specs.TokensLaws.{one_token}
use Rattle.tv_format.specs.Tree.{Token}
use Rattle.tv_format.specs.TreeCode.{coded_token}

-- a token that is kept
abbrev pub token_of : tokenizer.Token → Token
token_of t = record {
  offset_from = t.offset_from;
  offset_to = t.offset_to;
  position = t.position;
  text = string_bytes t.text;
  position_length = t.position_length;
}

-- the tokens, each of which has a valid encoding
pub record AreHeld (kept : List tokenizer.Token) (encoded : List ℕ) (count : ℕ)
    (tokens : List Token) : Type 0 where
  pub others : List Token
  pub joined : tokens ≡ map token_of kept ++ others
  pub counted : length others ≡ count
  pub behind : List ℕ
  pub begins : Begins (λ b. Each TokenEncoding b others) encoded behind
  pub valid : AreTokens tokens

abbrev pub HeldTokens : List tokenizer.Token → List ℕ → ℕ → Type 0
HeldTokens kept encoded count = (tokens : List Token) × ∥ AreHeld kept encoded count tokens ∥₁

one_list : (kept : List tokenizer.Token) (encoded : List ℕ) (count : ℕ) (s t : List Token)
    → AreHeld kept encoded count s → AreHeld kept encoded count t → s ≡ t
one_list kept encoded count tokens t p q =
    let many : length p.others ≡ length q.others = p.counted ∙ sym q.counted in
    let whole : p.begins.prefix ++ p.behind ≡ q.begins.prefix ++ q.behind =
    sym p.begins.joined ∙ q.begins.joined in
    let same = (agree_each {R = TokenEncoding} one_token p.others q.others many).agree p.begins.prefix
    q.begins.prefix p.behind q.behind p.begins.encoded q.begins.encoded whole in
    p.joined ∙ ap (λ z. map token_of kept ++ z) same.1 ∙ sym q.joined

-- there is one such list
pub HeldTokens-prop : (kept : List tokenizer.Token) (encoded : List ℕ) (count : ℕ)
    → IsProp (HeldTokens kept encoded count)
HeldTokens-prop kept encoded count x y =
    let code = coded_list coded_token in
    Σ_prop_path (λ t. ∥∥₁_prop)
    (∥∥₁_elim x.1 (Coded-set code x.0 y.0) (λ p. ∥∥₁_elim y.1 (Coded-set code x.0 y.0)
    (λ q. one_list kept encoded count x.0 y.0 p q)))
