-- How parts that begin the bytes make larger ones.
use Rattle.std.proofs.Common.{◌≡◌, ℕ, zero, suc, ◌+◌, ◌%◌, ◌<◌, ◌≤◌, List, [], ◌∷◌, ◌++◌, length, take, drop, get_or, IsUtf8, refl, sym, ◌∙◌, ap, subst, arith, append_assoc, length-append}
use Rattle.std.proofs.lemmas.List.{append-nil, take-append-drop, length-take-le}
use Rattle.tv_base.specs.Number.{VNum, Groups, last}
use Rattle.tv_base.specs.Parts.{Begins, Then, Each, Behind, Sized, Text}

pub begins_behind : {P : List ℕ → Type 0} (k : ℕ) (rest after : List ℕ) → Begins P rest after → Begins (Behind k P) (k ∷ rest) after
begins_behind k rest after h = record {
  prefix = k ∷ h.prefix;
  joined = ap (λ z. k ∷ z) h.joined;
  encoded = record { body = h.prefix; joined = refl; encoded = h.encoded };
}

pub begins_then : {P Q : List ℕ → Type 0} (whole rest after : List ℕ) → Begins P whole rest → Begins Q rest after → Begins (Then P Q) whole after
begins_then whole rest after p q = record {
  prefix = p.prefix ++ q.prefix;
  joined = p.joined ∙ ap (λ z. p.prefix ++ z) q.joined ∙ sym (append_assoc p.prefix q.prefix after);
  encoded = record { prefix = p.prefix; rest = q.prefix; joined = refl; first = p.encoded; second = q.encoded };
}

pub begins_nothing : {P : List ℕ → Type 0} (rest : List ℕ) → P [] → Begins P rest rest
begins_nothing rest p = record { prefix = []; joined = refl; encoded = p }

-- a number of one byte
pub begins_small : (byte : ℕ) (rest : List ℕ) → 128 ≤ byte → byte < 256 → Begins (λ b. VNum b (byte % 128)) (byte ∷ rest) rest
begins_small byte rest high small =
    let same : byte % 128 + 128 ≡ byte = omega arith in
    record {
      prefix = byte ∷ [];
      joined = refl;
      encoded = record { groups = subst (λ z. Groups (z ∷ []) (byte % 128)) same (last (omega arith)); at_most_ten = omega arith; fits = omega arith };
    }

pub begins_length : {P : List ℕ → Type 0} (whole rest : List ℕ) → Begins P whole rest → length rest ≤ length whole
begins_length whole rest p = omega (arith, ap length p.joined, length-append p.prefix rest)

-- bytes that are cut after this many
pub begins_cut : (P : List ℕ → Type 0) (k : ℕ) (bytes prefix rest : List ℕ) → prefix ≡ take k bytes → rest ≡ drop k bytes → P prefix → Begins P bytes rest
begins_cut P k bytes prefix rest p q s = record { prefix = prefix; joined = sym (take-append-drop k bytes) ∙ (λ i. sym p i ++ sym q i); encoded = s }

pub small_take : (n : ℕ) (bs : List ℕ) → ((i : ℕ) → get_or bs i 0 < 256) → (i : ℕ) → get_or (take n bs) i 0 < 256
small_take zero bs small i = omega arith
small_take (suc n) [] small i = omega arith
small_take (suc n) (b ∷ bs) small zero = small 0
small_take (suc n) (b ∷ bs) small (suc i) = small_take n bs (λ j. small (suc j)) i

-- this many bytes after the number
pub sized_found : (bytes rest content behind : List ℕ) (n : ℕ) → Begins (λ b. VNum b n) bytes rest → n ≤ length rest → content ≡ take n rest → behind ≡ drop n rest
    → Begins (λ b. Sized b content) bytes behind
sized_found bytes rest content behind n p l is after = record {
  prefix = p.prefix ++ content;
  joined = p.joined ∙ ap (λ z. p.prefix ++ z) (sym (take-append-drop n rest) ∙ (λ i. sym is i ++ sym after i)) ∙ sym (append_assoc p.prefix content behind);
  encoded = record { size = p.prefix; joined = refl; number = subst (λ m. VNum p.prefix m) (sym (ap length is ∙ length-take-le n rest l)) p.encoded };
}

pub text_found : (bytes rest content : List ℕ) → Begins (λ b. Sized b content) bytes rest → IsUtf8 content → Begins (λ b. Text b content) bytes rest
text_found bytes rest content p u = record { prefix = p.prefix; joined = p.joined; encoded = record { sized = p.encoded; utf8 = u } }

pub each_push : {A : Type 0} (R : List ℕ → A → Type 0) (xs : List A) (x : A) (a b : List ℕ) → Each R a xs → R b x → Each R (a ++ b) (xs ++ x ∷ [])
each_push R [] x a b p q = record { prefix = b; rest = []; joined = ap (λ z. z ++ b) p ∙ sym (append-nil b); first = q; second = refl }
each_push R (y ∷ xs) x a b p q = record {
  prefix = p.prefix;
  rest = p.rest ++ b;
  joined = ap (λ z. z ++ b) p.joined ∙ append_assoc p.prefix p.rest b;
  first = p.first;
  second = each_push R xs x p.rest b p.second q;
}

-- one item more
pub begins_item : {A : Type 0} (R : List ℕ → A → Type 0) (xs : List A) (x : A) (whole rest after : List ℕ) → Begins (λ b. Each R b xs) whole rest → Begins (λ b. R b x) rest after
    → Begins (λ b. Each R b (xs ++ x ∷ [])) whole after
begins_item R xs x whole rest after p q = record {
  prefix = p.prefix ++ q.prefix;
  joined = p.joined ∙ ap (λ z. p.prefix ++ z) q.joined ∙ sym (append_assoc p.prefix q.prefix after);
  encoded = each_push R xs x p.prefix q.prefix p.encoded q.encoded;
}
