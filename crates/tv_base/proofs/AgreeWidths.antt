-- Bytes of a known number, and numbers of a fixed width, agree with their grammar.
use Rattle.std.proofs.Common.{◌≡◌, ℕ, ◌+◌, ◌*◌, ◌^◌, ◌<◌, List, [], ◌∷◌, ◌++◌, length, take, drop, Result, Ok, Err, refl, sym, ap, subst, ◌∙◌, arith, inl, inr, take_at, drop_at, length-append, length-take, take-append-drop}
use Rattle.std.proofs.lemmas.Bool.{cases_lt}
use Rattle.std.proofs.lemmas.List.{append-nil}
use Rattle.std.specs.Prelude.{ℤ, FitsSigned}
use Rattle.std.specs.Int.{Width, w32, w64, w128, byte_len, from_le_bytes, cast_signed, cast_unsigned}
use Rattle.std.proofs.lemmas.Int.{of_z-to_z, to_z-of_z}
use mir.ValLaws.{to_z-Fits}
use Rattle.tv_base.specs.declared.cause.Cause.{Cause}
use Rattle.tv_base.specs.declared.cause.Cause.TheVariants.{UnexpectedEnd}
use Rattle.tv_base.specs.Source.{AllBytes}
use Rattle.tv_base.specs.Number.{Fixed, no_bytes, low_byte, Signed}
use Rattle.tv_base.specs.ErrorInPart.{ErrorInBytes, bytes_end}
use Rattle.tv_base.specs.Reading.{bytes_at, more_at, u8_at, number_at, i64_at}
use Rattle.tv_base.proofs.Chunks.{short, long}
use Rattle.tv_base.proofs.Numbers.{length-fixed, fixed_fits}
use Rattle.tv_base.proofs.Widths.{fixed_4, fixed_8, fixed_16, from_4, from_8, from_16}
use Rattle.tv_base.proofs.SmallBytes.{first_byte, small_at}
use Rattle.tv_base.proofs.Agrees.{Agrees, Shown, agrees_too, made, ok_is, err_is, no_ok, same_start}

-- these bytes, of which there are n
abbrev pub AreBytes : ℕ → List ℕ → List ℕ → Type 0
AreBytes n bytes content = (length bytes ≡ n) × (content ≡ bytes)

-- one byte, which a code is
abbrev pub IsCode : List ℕ → ℕ → Type 0
IsCode bytes code = bytes ≡ code ∷ []

pub bytes_error : (n : ℕ) (bytes : List ℕ) (c : Cause) → ErrorInBytes n bytes c → (c ≡ UnexpectedEnd) × (length bytes < n)
bytes_error n bytes c (bytes_end h) = (refl, h)

end_error : (n : ℕ) (bytes : List ℕ) (c : Cause) → c ≡ UnexpectedEnd → length bytes < n → ErrorInBytes n bytes c
end_error n bytes c e h = subst (ErrorInBytes n bytes) (sym e) (bytes_end h)

-- at the end of the bytes all are taken
pub ended_shown : {Y : Type 0} (reading : List ℕ → Result (Y × List ℕ) (Cause × List ℕ)) (bytes rest : List ℕ) (c : Cause) → reading bytes ≡ Err (UnexpectedEnd, []) → reading bytes ≡ Err (c, rest) → Shown UnexpectedEnd reading bytes rest c
ended_shown {Y} reading bytes rest c ended e =
    let q = err_is (Y × List ℕ) (UnexpectedEnd, []) (c, rest) (sym ended ∙ e) in
    let none : rest ≡ [] = sym (ap (λ z. z.1) q) in
    let is : UnexpectedEnd ≡ c = ap (λ z. z.0) q in
    record {
      prefix = bytes;
      joined = sym (append-nil bytes) ∙ ap (λ (l : List ℕ). bytes ++ l) (sym none);
      alone = ended ∙ ap (λ z. Err (z, [])) is;
      all = λ same. none;
      early = λ other. absurd (other (sym is));
    }

pub bytes_agree : (n : ℕ) → Agrees UnexpectedEnd (bytes_at n) (AreBytes n) (ErrorInBytes n)
bytes_agree n = record {
  sound = λ bytes x small e. elim (cases_lt (length bytes) n) [
    | inl lt ↦ absurd (no_ok _ _ (sym (short n bytes lt) ∙ e))
    | inr le ↦ let q = ok_is (Cause × List ℕ) (take n bytes, drop n bytes) x (sym (long n bytes le) ∙ e) in
        (take n bytes, (omega (arith, length-take n bytes), sym (ap (λ z. z.0) q)), sym (take-append-drop n bytes) ∙ ap (λ (l : List ℕ). take n bytes ++ l) (ap (λ z. z.1) q))
  ];
  complete = λ prefix xs rest p. long n (prefix ++ rest) (omega (arith, length-append prefix rest, p.0)) ∙ ap (λ (l : List ℕ). Ok (l, drop n (prefix ++ rest))) (take_at prefix rest n p.0 ∙ sym p.1) ∙ ap (λ (l : List ℕ). Ok (xs, l)) (drop_at prefix rest n p.0);
  refused = λ bytes c rest small e. elim (cases_lt (length bytes) n) [
    | inl lt ↦ end_error n bytes c (sym (ap (λ z. z.0) (err_is (List ℕ × List ℕ) (UnexpectedEnd, []) (c, rest) (sym (short n bytes lt) ∙ e)))) lt
    | inr le ↦ absurd (no_ok (c, rest) (take n bytes, drop n bytes) (sym e ∙ long n bytes le))
  ];
  before = λ prefix xs p start byte last. short n start (omega (arith, p.0, ap length last, length-append start (byte ∷ [])));
  shown = λ bytes c rest small e. elim (cases_lt (length bytes) n) [
    | inl lt ↦ ended_shown (bytes_at n) bytes rest c (short n bytes lt) e
    | inr le ↦ absurd (no_ok (c, rest) (take n bytes, drop n bytes) (sym e ∙ long n bytes le))
  ];
}

-- the next n bytes, after those that are there
pub more_agrees : (prefix : List ℕ) (n : ℕ) → Agrees UnexpectedEnd (more_at prefix n) (λ bytes whole. (content : List ℕ) × AreBytes n bytes content × (whole ≡ prefix ++ content)) (ErrorInBytes n)
more_agrees prefix n = made (λ content. prefix ++ content) (bytes_agree n)

no_byte : (start : List ℕ) (byte b : ℕ) → b ∷ [] ≡ start ++ byte ∷ [] → u8_at start ≡ Err (UnexpectedEnd, [])
unfolding u8_at
no_byte start byte b e = ap u8_at (same_start start [] byte b (sym e))

pub code_agrees : Agrees UnexpectedEnd u8_at IsCode (ErrorInBytes 1)
unfolding u8_at
code_agrees = record {
  sound = elim [
    | [] ↦ λ x small e. absurd cc
    | byte ∷ rest ↦ λ x small e. let q = ok_is (Cause × List ℕ) (byte, rest) x e in (byte ∷ [], ap (λ (b : ℕ). b ∷ []) (ap (λ z. z.0) q), ap (λ (l : List ℕ). byte ∷ l) (ap (λ z. z.1) q))
  ];
  complete = λ prefix byte rest p. ap (λ (l : List ℕ). u8_at (l ++ rest)) p;
  refused = elim [
    | [] ↦ λ c rest small e. end_error 1 [] c (sym (ap (λ z. z.0) (err_is (ℕ × List ℕ) (UnexpectedEnd, []) (c, rest) e))) (omega arith)
    | byte ∷ rest ↦ λ c left small e. absurd cc
  ];
  before = λ prefix b p start byte last. no_byte start byte b (sym p ∙ last);
  shown = elim [
    | [] ↦ λ c rest small e. ended_shown u8_at [] rest c refl e
    | byte ∷ rest ↦ λ c left small e. absurd cc
  ];
}

one_fixed : (bytes : List ℕ) (b : ℕ) → AllBytes bytes → IsCode bytes b → Fixed 1 bytes b
one_fixed bytes b small e =
    let below = first_byte b [] (subst AllBytes e small) in
    let is : b + 256 * 0 ≡ b = omega arith in
    subst (λ (l : List ℕ). Fixed 1 l b) (sym e) (subst (Fixed 1 (b ∷ [])) is (low_byte below no_bytes))

fixed_one : (bytes : List ℕ) (n : ℕ) → Fixed 1 bytes n → IsCode bytes n
fixed_one _ _ (low_byte {b = b} below no_bytes) = let is : b ≡ b + 256 * 0 = omega arith in ap (λ (c : ℕ). c ∷ []) is

pub u8_agrees : Agrees UnexpectedEnd u8_at (Fixed 1) (ErrorInBytes 1)
u8_agrees = agrees_too (λ bytes. refl) one_fixed fixed_one (λ bytes c small h. h) code_agrees

number_agrees : (w : Width) → Agrees UnexpectedEnd (number_at w) (λ bytes n. (prefix : List ℕ) × AreBytes (byte_len w) bytes prefix × (n ≡ from_le_bytes w prefix)) (ErrorInBytes (byte_len w))
unfolding number_at
number_agrees w = made (from_le_bytes w) (bytes_agree (byte_len w))

pub u32_agrees : Agrees UnexpectedEnd (number_at w32) (Fixed 4) (ErrorInBytes 4)
u32_agrees = agrees_too (λ bytes. refl)
    (λ bytes n small p. subst (Fixed 4 bytes) (sym (p.2 ∙ ap (from_le_bytes w32) p.1.1)) (fixed_4 bytes p.1.0 (small_at bytes small)))
    (λ bytes n h. (bytes, (length-fixed h, refl), sym (from_4 bytes n h)))
    (λ bytes c small h. h)
    (number_agrees w32)

pub u64_agrees : Agrees UnexpectedEnd (number_at w64) (Fixed 8) (ErrorInBytes 8)
u64_agrees = agrees_too (λ bytes. refl)
    (λ bytes n small p. subst (Fixed 8 bytes) (sym (p.2 ∙ ap (from_le_bytes w64) p.1.1)) (fixed_8 bytes p.1.0 (small_at bytes small)))
    (λ bytes n h. (bytes, (length-fixed h, refl), sym (from_8 bytes n h)))
    (λ bytes c small h. h)
    (number_agrees w64)

pub u128_agrees : Agrees UnexpectedEnd (number_at w128) (Fixed 16) (ErrorInBytes 16)
u128_agrees = agrees_too (λ bytes. refl)
    (λ bytes n small p. subst (Fixed 16 bytes) (sym (p.2 ∙ ap (from_le_bytes w128) p.1.1)) (fixed_16 bytes p.1.0 (small_at bytes small)))
    (λ bytes n h. (bytes, (length-fixed h, refl), sym (from_16 bytes n h)))
    (λ bytes c small h. h)
    (number_agrees w128)

-- the signed number that has these bits
pub signed_to : (bytes : List ℕ) (n : ℕ) (z : ℤ) → Fixed 8 bytes n → z ≡ cast_signed w64 n → Signed bytes z
signed_to bytes n z h e =
    let small : n < 2 ^ 64 = fixed_fits h in
    record {
      fits = subst (FitsSigned w64) (sym e) (to_z-Fits w64 n (record { fits = small }));
      encoded = subst (Fixed 8 bytes) (sym (ap (cast_unsigned w64) e ∙ of_z-to_z w64 n small)) h;
    }

pub i64_agrees : Agrees UnexpectedEnd i64_at Signed (ErrorInBytes 8)
unfolding i64_at
i64_agrees = agrees_too (λ bytes. refl)
    (λ bytes z small p. signed_to bytes p.0 z p.1 p.2)
    (λ bytes z h. (cast_unsigned w64 z, h.encoded, sym (to_z-of_z w64 z h.fits)))
    (λ bytes c small h. h)
    (made (cast_signed w64) u64_agrees)
