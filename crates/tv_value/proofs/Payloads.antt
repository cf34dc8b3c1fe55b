-- Tokens that are encoded are held, and each has an encoding.
use Rattle.std.proofs.Common.{◌≡◌, ℕ, ◌+◌, ◌-◌, ◌<◌, ◌≤◌, ◌^◌, List, [], ◌∷◌, length, take, refl, sym, ◌∙◌, ap, subst, arith, length-append}
use Rattle.std.proofs.Math.Seq.{take-append_seam}
use Rattle.std.specs.List.{AllByRecursion}
use Rattle.tv_base.specs.Number.{VNum}
use Rattle.tv_base.specs.Parts.{Begins, Then, Text, Each}
use Rattle.tv_base.proofs.Excluding.{groups_some}
use Rattle.tv_value.specs.HeldTokens.{AreHeld, HeldTokens}
use Rattle.tv_value.specs.InPlace.{BeginsTokens}
use Rattle.tv_format.specs.Short.{IsText, IsToken}
use Rattle.tv_format.specs.Encoding.{TokenEncoding, Tokenized}
use Rattle.tv_format.specs.Tree.{Token}
use Rattle.tv_value.proofs.Kept.{same_tokens}
use Rattle.tv_format.proofs.Prefixes.{begins_length, begins_then}

-- what follows a prefix has no more bytes
pub begins_fewer : {P : List ℕ → Type 0} (whole rest : List ℕ) → Begins P whole rest → length whole < 2 ^ 63 → length rest < 2 ^ 63
begins_fewer whole rest p few = omega (arith, begins_length whole rest p)

text_short : (b content : List ℕ) → Text b content → length b < 2 ^ 63 → IsText content
text_short b content p few = record { size = omega (arith, ap length p.sized.joined, length-append p.sized.size content); utf8 = p.utf8 }

-- the two parts take the bytes of the whole
lengths : {P Q : List ℕ → Type 0} (whole : List ℕ) (p : Then P Q whole) → length whole ≡ length p.prefix + length p.rest
lengths whole p = ap length p.joined ∙ length-append p.prefix p.rest

token_valid : (b : List ℕ) (t : Token) → TokenEncoding b t → length b < 2 ^ 63 → IsToken t
token_valid b t p few =
    let behind_from = p.second in
    let behind_to = behind_from.second in
    let behind_position = behind_to.second in
    let fewer : length behind_position.prefix < 2 ^ 63 = omega (arith, lengths b p, lengths p.rest behind_from, lengths behind_from.rest behind_to, lengths behind_to.rest behind_position) in
    record {
      offset_from = p.first.fits;
      offset_to = behind_from.first.fits;
      position = behind_to.first.fits;
      text = text_short behind_position.prefix t.text behind_position.first fewer;
      position_length = behind_position.second.fits;
    }

-- a token takes a byte at least
tokens_fewer : (b : List ℕ) (ts : List Token) → Each TokenEncoding b ts → length ts ≤ length b
tokens_fewer b [] p = omega arith
tokens_fewer b (t ∷ ts) p =
    let some = groups_some p.first.first.groups in
    omega (arith, some, lengths b p, lengths p.prefix p.first, tokens_fewer p.rest ts p.second)

tokens_valid : (b : List ℕ) (ts : List Token) → Each TokenEncoding b ts → length b < 2 ^ 63 → AllByRecursion IsToken ts
tokens_valid b [] p few = tt
tokens_valid b (t ∷ ts) p few =
    let first : length p.prefix < 2 ^ 63 = omega (arith, lengths b p) in
    let others : length p.rest < 2 ^ 63 = omega (arith, lengths b p) in
    (token_valid p.prefix t p.first first, tokens_valid p.rest ts p.second others)

pub all_encoded : (encoded rest : List ℕ) (count : ℕ) → length encoded < 2 ^ 63 → (b : BeginsTokens count encoded rest) → AreHeld [] encoded count b.tokens
all_encoded encoded rest count few b =
    let fewer : length b.begins.prefix < 2 ^ 63 = omega (arith, ap length b.begins.joined, length-append b.begins.prefix rest) in
    record {
      others = b.tokens;
      joined = refl;
      counted = b.counted;
      behind = rest;
      begins = b.begins;
      valid = record { count = omega (arith, tokens_fewer b.begins.prefix b.tokens b.begins.encoded); each = tokens_valid b.begins.prefix b.tokens b.begins.encoded fewer };
    }

pub encoded_only : (encoded rest : List ℕ) (count : ℕ) → length encoded < 2 ^ 63 → (b : BeginsTokens count encoded rest) → (y : HeldTokens [] encoded count) → y.0 ≡ b.tokens
encoded_only encoded rest count few b y = same_tokens [] encoded count y (b.tokens, ∣ all_encoded encoded rest count few b ∣₁)

-- the text, the count and the tokens are the payload
payload : (bytes behind_text encoded rest content : List ℕ) (count : ℕ) → Begins (λ b. Text b content) bytes behind_text → Begins (λ b. VNum b count) behind_text encoded
    → (b : BeginsTokens count encoded rest) → Begins (λ s. Tokenized s content b.tokens) bytes rest
payload bytes behind_text encoded rest content count p q b =
    let number = subst (λ n. Begins (λ s. VNum s n) behind_text encoded) (sym b.counted) q in
    begins_then bytes behind_text rest p (begins_then behind_text encoded rest number b.begins)

-- the prefix, by its length
prefix_of : {P : List ℕ → Type 0} (bytes rest : List ℕ) (n : ℕ) → Begins P bytes rest → n ≡ length bytes - length rest → (n ≤ length bytes) × P (take n bytes)
prefix_of {P} bytes rest n p e =
    let len : length p.prefix ≡ n = omega (arith, e, ap length p.joined, length-append p.prefix rest) in
    let same : p.prefix ≡ take n bytes = sym (take-append_seam p.prefix rest) ∙ (λ i. take (len i) (sym p.joined i)) in
    (omega (arith, e), subst P same p.encoded)

pub payload_found : (bytes behind_text encoded rest content : List ℕ) (count n : ℕ) → Begins (λ b. Text b content) bytes behind_text → Begins (λ b. VNum b count) behind_text encoded
    → (b : BeginsTokens count encoded rest) → n ≡ length bytes - length rest → length bytes < 2 ^ 63
    → (y : HeldTokens [] encoded count) → (n ≤ length bytes) × Tokenized (take n bytes) content y.0
payload_found bytes behind_text encoded rest content count n p q b e few y =
    let fewer = begins_fewer behind_text encoded q (begins_fewer bytes behind_text p few) in
    let whole = prefix_of {P = λ s. Tokenized s content b.tokens} bytes rest n (payload bytes behind_text encoded rest content count p q b) e in
    (whole.0, subst (λ ts. Tokenized (take n bytes) content ts) (sym (encoded_only encoded rest count fewer b y)) whole.1)
