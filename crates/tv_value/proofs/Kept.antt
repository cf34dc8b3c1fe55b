-- Tokens that are kept are held, and each has an encoding.
use Rattle.std.proofs.Common.{◌≡◌, ℕ, ◌<◌, ◌^◌, List, [], ◌∷◌, length, map, refl, sym, ap, arith}
use Rattle.std.proofs.lemmas.List.{append-nil, length-map}
use Rattle.std.proofs.lemmas.Str.{IsUtf8-had}
use Rattle.std.specs.List.{AllByRecursion}
use Rattle.std.specs.String.{string_bytes}
use Rattle.std.specs.declared.alloc.Global.{Global}
use Rattle.std.specs.declared.string.String.{String}
use Rattle.tv_value.specs.declared.tokenizer.Token as tokenizer
use Rattle.tv_value.specs.HeldTokens.{token_of, AreHeld, HeldTokens, HeldTokens-prop}
use Rattle.tv_format.specs.Short.{IsText, IsToken}

pub string_text : (s : String Global) → IsText (string_bytes s)
string_text s = record { size = omega (arith, s.bytes.ok, s.bytes.small); utf8 = IsUtf8-had (string_bytes s) s.ok }

kept_token : (t : tokenizer.Token) → IsToken (token_of t)
kept_token t = record { offset_from = t.fits.0; offset_to = t.fits.1; position = t.fits.2; text = string_text t.text; position_length = t.fits.3 }

each_kept : (ts : List tokenizer.Token) → AllByRecursion IsToken (map token_of ts)
each_kept [] = tt
each_kept (t ∷ ts) = (kept_token t, each_kept ts)

-- there is one list of tokens that are left
pub same_tokens : (kept : List tokenizer.Token) (encoded : List ℕ) (count : ℕ) (x y : HeldTokens kept encoded count) → x.0 ≡ y.0
same_tokens kept encoded count x y = ap (λ p. p.0) (HeldTokens-prop kept encoded count x y)

pub all_kept : (kept : List tokenizer.Token) → length kept < 2 ^ 63 → AreHeld kept [] 0 (map token_of kept)
all_kept kept few = record {
  others = [];
  joined = sym (append-nil (map token_of kept));
  counted = refl;
  behind = [];
  begins = record { prefix = []; joined = refl; encoded = refl };
  valid = record { count = omega (arith, length-map kept token_of); each = each_kept kept };
}

pub kept_only : (kept : List tokenizer.Token) → length kept < 2 ^ 63 → (y : HeldTokens kept [] 0) → y.0 ≡ map token_of kept
kept_only kept few y = same_tokens kept [] 0 y (map token_of kept, ∣ all_kept kept few ∣₁)
