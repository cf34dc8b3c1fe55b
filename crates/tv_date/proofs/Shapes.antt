-- What is read has the shape.
use Rattle.std.proofs.Common.{◌≡◌, ℕ, zero, suc, ◌+◌, ◌-◌, ◌*◌, ◌/◌, ◌%◌, ◌^◌, ◌<◌, ◌≤◌, List, [], ◌∷◌, ◌++◌, Bool, true, false, cond, ◌&&◌, ◌||◌, ◌==◌, min, take, drop, length, Option, Some, None, option_and_then, ◌⊎◌, inl, inr, sym, ap, ◌∙◌, refl, arith, subst}
use Rattle.std.proofs.lemmas.Bool.Decides.{nat_tests}
use Rattle.std.proofs.lemmas.Bool.{and_parts}
use Rattle.std.specs.Char.{is_ascii_digit, digit_value}
use Rattle.std.specs.List.{prefix_len}
use Rattle.std.specs.Str.Parse.{AllDigits, IsNumeral}
use Rattle.std.proofs.lemmas.List.Folds.{length-prefix_len}
use Rattle.std.proofs.lemmas.List.{take-append-drop}
use Rattle.jiff_fmt.specs.Text.{pad2, pad4}
use Rattle.tv_date.specs.declared.rfc3339.DateFields.{DateFields}
use Rattle.tv_date.specs.Rfc3339.{two_digits, four_digits, after, after_t, date, time, if_last, hours_and_minutes, offset, fraction, nanoseconds, fields}
use Rattle.jiff_fmt.specs.Reader.{fraction_value}
use Rattle.tv_date.specs.Shape.{IsDateText, IsTimeText, IsZone, IsFraction, HasShape}

digit_range : (c : ℕ) → is_ascii_digit c ≡ true → (48 ≤ c) × (c ≤ 57)
digit_range c h = grind (arith, nat_tests)

pub bind_some : {A B : Type 0} (f : A → Option B) (o : Option A) (y : B) → option_and_then f o ≡ Some y → (x : A) × (o ≡ Some x) × (f x ≡ Some y)
bind_some f None y e = absurd (cc)
bind_some f (Some x) y e = (x, refl, e)

unsome : {A : Type 0} (a b : A) → Some a ≡ Some b → a ≡ b
unsome a b e = cc

encoded_two : (high low n : ℕ) (rest r : List ℕ) → (48 ≤ high) × (high ≤ 57) → (48 ≤ low) × (low ≤ 57) → (high - 48) * 10 + (low - 48) ≡ n → rest ≡ r → (n < 100) × (high ∷ low ∷ rest ≡ pad2 n ++ r)
encoded_two high low n rest r h l is same =
    let tens : high ≡ 48 + n / 10 = omega arith in
    let ones : low ≡ 48 + n % 10 = omega arith in
    (omega arith, ap (λ x. x ∷ low ∷ rest) tens ∙ ap (λ x. (48 + n / 10) ∷ x ∷ rest) ones ∙ ap (λ xs. (48 + n / 10) ∷ (48 + n % 10) ∷ xs) same)

two_at : (b : Bool) (high low : ℕ) (rest : List ℕ) (n : ℕ) (r : List ℕ) → (is_ascii_digit high && is_ascii_digit low) ≡ b
    → cond {A = Option (ℕ × List ℕ)} b (Some ((high - 48) * 10 + (low - 48), rest)) None ≡ Some (n, r) → (n < 100) × (high ∷ low ∷ rest ≡ pad2 n ++ r)
two_at true high low rest n r h e =
    let both = and_parts (is_ascii_digit high) (is_ascii_digit low) h in
    let same = unsome {A = ℕ × List ℕ} _ _ e in
    encoded_two high low n rest r (digit_range high both.0) (digit_range low both.1) (ap (λ (p : ℕ × List ℕ). p.0) same) (ap (λ (p : ℕ × List ℕ). p.1) same)
two_at false high low rest n r h e = absurd (cc)

two_takes : (t : List ℕ) (n : ℕ) (r : List ℕ) → two_digits t ≡ Some (n, r) → (n < 100) × (t ≡ pad2 n ++ r)
unfolding two_digits
two_takes [] n r e = absurd (cc)
two_takes (a ∷ []) n r e = absurd (cc)
two_takes (a ∷ b ∷ rest) n r e = two_at _ a b rest n r refl e

after_at : (b : Bool) (c byte : ℕ) (rest r : List ℕ) → (c == byte) ≡ b → cond {A = Option (List ℕ)} b (Some rest) None ≡ Some r → c ∷ rest ≡ byte ∷ r
after_at true c byte rest r h e = let is : c ≡ byte = grind (arith, nat_tests) in let same : rest ≡ r = unsome _ _ e in ap (λ x. x ∷ rest) is ∙ ap (λ xs. byte ∷ xs) same
after_at false c byte rest r h e = absurd (cc)

after_takes : (byte : ℕ) (t r : List ℕ) → after byte t ≡ Some r → t ≡ byte ∷ r
after_takes byte [] r e = absurd (cc)
after_takes byte (c ∷ rest) r e = after_at _ c byte rest r refl e

four_encoded : (a b : ℕ) → a < 100 → b < 100 → (a * 100 + b < 10000) × (pad2 a ++ pad2 b ≡ pad4 (a * 100 + b))
four_encoded a b h k =
    let high : a ≡ (a * 100 + b) / 100 = omega arith in
    let low : b ≡ (a * 100 + b) % 100 = omega arith in
    (omega arith, ap (λ x. pad2 x ++ pad2 b) high ∙ ap (λ x. pad2 ((a * 100 + b) / 100) ++ pad2 x) low)

four_takes : (t : List ℕ) (n : ℕ) (r : List ℕ) → four_digits t ≡ Some (n, r) → (n < 10000) × (t ≡ pad4 n ++ r)
unfolding four_digits
four_takes t n r e =
    let high = bind_some _ (two_digits t) (n, r) e in
    let low = bind_some _ (two_digits high.0.1) (n, r) high.2 in
    let a = two_takes t high.0.0 high.0.1 high.1 in
    let b = two_takes high.0.1 low.0.0 low.0.1 low.1 in
    let same = unsome {A = ℕ × List ℕ} _ _ low.2 in
    let four = four_encoded high.0.0 low.0.0 a.0 b.0 in
    subst (λ (p : ℕ × List ℕ). (p.0 < 10000) × (t ≡ pad4 p.0 ++ p.1)) same (four.0, a.1 ∙ ap (λ xs. pad2 high.0.0 ++ xs) b.1 ∙ ap (λ xs. xs ++ low.0.1) four.1)

pub date_takes : (t : List ℕ) (y m d : ℕ) (r : List ℕ) → date t ≡ Some ((y, m, d), r) → IsDateText t (y, m, d) r
unfolding date
date_takes t y m d r e =
    let year = bind_some _ (four_digits t) ((y, m, d), r) e in
    let a = bind_some _ (after 45 year.0.1) ((y, m, d), r) year.2 in
    let month = bind_some _ (two_digits a.0) ((y, m, d), r) a.2 in
    let b = bind_some _ (after 45 month.0.1) ((y, m, d), r) month.2 in
    let day = bind_some _ (two_digits b.0) ((y, m, d), r) b.2 in
    let same = unsome {A = (ℕ × ℕ × ℕ) × List ℕ} _ _ day.2 in
    let p = four_takes t year.0.0 year.0.1 year.1 in
    let q = two_takes a.0 month.0.0 month.0.1 month.1 in
    let s = two_takes b.0 day.0.0 day.0.1 day.1 in
    subst (λ (x : (ℕ × ℕ × ℕ) × List ℕ). IsDateText t x.0 x.1) same
    (p.0, q.0, s.0, p.1 ∙ ap (λ xs. pad4 year.0.0 ++ xs) (after_takes 45 year.0.1 a.0 a.1 ∙ ap (λ xs. 45 ∷ xs) (q.1 ∙ ap (λ xs. pad2 month.0.0 ++ xs) (after_takes 45 month.0.1 b.0 b.1 ∙ ap (λ xs. 45 ∷ xs) s.1))))

pub time_takes : (t : List ℕ) (h m s : ℕ) (r : List ℕ) → time t ≡ Some ((h, m, s), r) → IsTimeText t (h, m, s) r
unfolding time
time_takes t h m s r e =
    let hour = bind_some _ (two_digits t) ((h, m, s), r) e in
    let a = bind_some _ (after 58 hour.0.1) ((h, m, s), r) hour.2 in
    let minute = bind_some _ (two_digits a.0) ((h, m, s), r) a.2 in
    let b = bind_some _ (after 58 minute.0.1) ((h, m, s), r) minute.2 in
    let second = bind_some _ (two_digits b.0) ((h, m, s), r) b.2 in
    let same = unsome {A = (ℕ × ℕ × ℕ) × List ℕ} _ _ second.2 in
    let p = two_takes t hour.0.0 hour.0.1 hour.1 in
    let q = two_takes a.0 minute.0.0 minute.0.1 minute.1 in
    let u = two_takes b.0 second.0.0 second.0.1 second.1 in
    subst (λ (x : (ℕ × ℕ × ℕ) × List ℕ). IsTimeText t x.0 x.1) same
    (p.0, q.0, u.0, p.1 ∙ ap (λ xs. pad2 hour.0.0 ++ xs) (after_takes 58 hour.0.1 a.0 a.1 ∙ ap (λ xs. 58 ∷ xs) (q.1 ∙ ap (λ xs. pad2 minute.0.0 ++ xs) (after_takes 58 minute.0.1 b.0 b.1 ∙ ap (λ xs. 58 ∷ xs) u.1))))

if_last_takes : {A : Type 0} (x y : A) (t : List ℕ) → if_last x t ≡ Some y → (t ≡ []) × (x ≡ y)
if_last_takes x y [] e = (refl, unsome x y e)
if_last_takes x y (c ∷ t) e = absurd (cc)

hours_takes : (t : List ℕ) (h m : ℕ) → hours_and_minutes t ≡ Some (h, m) → (h < 100) × (m < 100) × (t ≡ pad2 h ++ 58 ∷ pad2 m)
unfolding hours_and_minutes
hours_takes t h m e =
    let hour = bind_some _ (two_digits t) (h, m) e in
    let a = bind_some _ (after 58 hour.0.1) (h, m) hour.2 in
    let minute = bind_some _ (two_digits a.0) (h, m) a.2 in
    let last = if_last_takes {A = ℕ × ℕ} _ _ minute.0.1 minute.2 in
    let p = two_takes t hour.0.0 hour.0.1 hour.1 in
    let q = two_takes a.0 minute.0.0 minute.0.1 minute.1 in
    let end : a.0 ≡ pad2 minute.0.0 = q.1 ∙ ap (λ xs. pad2 minute.0.0 ++ xs) last.0 in
    subst (λ (x : ℕ × ℕ). (x.0 < 100) × (x.1 < 100) × (t ≡ pad2 x.0 ++ 58 ∷ pad2 x.1)) last.1
    (p.0, q.0, p.1 ∙ ap (λ xs. pad2 hour.0.0 ++ xs) (after_takes 58 hour.0.1 a.0 a.1 ∙ ap (λ xs. 58 ∷ xs) end))

abbrev Zone : Type 0
Zone = Bool × ℕ × ℕ

abbrev with_sign : Bool → ℕ × ℕ → Option Zone
with_sign west o = Some (west, o.0, o.1)

abbrev signed : Bool → List ℕ → Option Zone
signed west rest = option_and_then (with_sign west) (hours_and_minutes rest)

signed_takes : (sign : ℕ) (west : Bool) (rest : List ℕ) (w : Bool) (h m : ℕ) → (((sign ≡ 43) × (west ≡ false)) ⊎ ((sign ≡ 45) × (west ≡ true)))
    → signed west rest ≡ Some (w, h, m) → IsZone (sign ∷ rest) w h m
signed_takes sign west rest w h m which e =
    let o = bind_some (with_sign west) (hours_and_minutes rest) (w, h, m) e in
    let same = unsome {A = Zone} _ _ o.2 in
    let p = hours_takes rest o.0.0 o.0.1 o.1 in
    subst (λ (x : Zone). IsZone (sign ∷ rest) x.0 x.1 x.2) same (inr (sign, which, p.0, p.1, ap (λ xs. sign ∷ xs) p.2))

zulu_takes : (c : ℕ) (rest : List ℕ) (w : Bool) (h m : ℕ) → ((c ≡ 90) ⊎ (c ≡ 122)) → if_last {A = Zone} (false, 0, 0) rest ≡ Some (w, h, m) → IsZone (c ∷ rest) w h m
zulu_takes c rest w h m which e =
    let last = if_last_takes {A = Zone} _ _ rest e in
    subst (λ (x : Zone). IsZone (c ∷ rest) x.0 x.1 x.2) last.1
    (inl (elim which [ inl z ↦ inl (ap (λ x. x ∷ rest) z ∙ ap (λ xs. 90 ∷ xs) last.0) | inr z ↦ inr (ap (λ x. x ∷ rest) z ∙ ap (λ xs. 122 ∷ xs) last.0) ], refl, refl, refl))

is_byte : (c n : ℕ) → (c == n) ≡ true → c ≡ n
is_byte c n h = grind (arith, nat_tests)

either_byte : (c m n : ℕ) → ((c == m) || (c == n)) ≡ true → (c ≡ m) ⊎ (c ≡ n)
either_byte c m n h = grind (arith, nat_tests)

minus_at : (b : Bool) (c : ℕ) (rest : List ℕ) (w : Bool) (h m : ℕ) → (c == 45) ≡ b → cond {A = Option Zone} b (signed true rest) None ≡ Some (w, h, m) → IsZone (c ∷ rest) w h m
minus_at true c rest w h m is e = signed_takes c true rest w h m (inr (is_byte c 45 is, refl)) e
minus_at false c rest w h m is e = absurd (cc)

plus_at : (b : Bool) (c : ℕ) (rest : List ℕ) (w : Bool) (h m : ℕ) → (c == 43) ≡ b → cond {A = Option Zone} b (signed false rest) (cond (c == 45) (signed true rest) None) ≡ Some (w, h, m) → IsZone (c ∷ rest) w h m
plus_at true c rest w h m is e = signed_takes c false rest w h m (inl (is_byte c 43 is, refl)) e
plus_at false c rest w h m is e = minus_at _ c rest w h m refl e

zulu_at : (b : Bool) (c : ℕ) (rest : List ℕ) (w : Bool) (h m : ℕ) → ((c == 90) || (c == 122)) ≡ b
    → cond {A = Option Zone} b (if_last (false, 0, 0) rest) (cond (c == 43) (signed false rest) (cond (c == 45) (signed true rest) None)) ≡ Some (w, h, m) → IsZone (c ∷ rest) w h m
zulu_at true c rest w h m is e = zulu_takes c rest w h m (either_byte c 90 122 is) e
zulu_at false c rest w h m is e = plus_at _ c rest w h m refl e

offset_takes : (t : List ℕ) (w : Bool) (h m : ℕ) → offset t ≡ Some (w, h, m) → IsZone t w h m
unfolding offset
offset_takes [] w h m e = absurd (cc)
offset_takes (c ∷ rest) w h m e = zulu_at _ c rest w h m refl e

pub fraction_value-cut : (k len : ℕ) (xs : List ℕ) → fraction_value k (take (min len k) xs) ≡ fraction_value k (take len xs)
unfolding fraction_value
fraction_value-cut zero len xs = refl
fraction_value-cut (suc k) zero xs = let none : min 0 (suc k) ≡ 0 = omega arith in ap (λ j. fraction_value (suc k) (take j xs)) none
fraction_value-cut (suc k) (suc len) [] = let more : min (suc len) (suc k) ≡ suc (min len k) = omega arith in ap (λ j. fraction_value (suc k) (take j [])) more
fraction_value-cut (suc k) (suc len) (x ∷ xs) =
    let more : min (suc len) (suc k) ≡ suc (min len k) = omega arith in
    ap (λ j. fraction_value (suc k) (take j (x ∷ xs))) more ∙ ap (λ v. (x - 48) * 10 ^ k + v) (fraction_value-cut k len xs)

digit_small : (c : ℕ) → is_ascii_digit c ≡ true → digit_value c < 10
digit_small c h = let range = digit_range c h in grind (arith, nat_tests)

digits_at : (b : Bool) (c : ℕ) (xs : List ℕ) → is_ascii_digit c ≡ b → AllDigits 10 (take (prefix_len is_ascii_digit xs) xs) → AllDigits 10 (take (cond b (1 + prefix_len is_ascii_digit xs) 0) (c ∷ xs))
digits_at true c xs h rest = let one : 1 + prefix_len is_ascii_digit xs ≡ suc (prefix_len is_ascii_digit xs) = omega arith in subst (λ n. AllDigits 10 (take n (c ∷ xs))) (sym one) (digit_small c h, rest)
digits_at false c xs h rest = tt

pub digits_taken : (xs : List ℕ) → AllDigits 10 (take (prefix_len is_ascii_digit xs) xs)
digits_taken [] = tt
digits_taken (c ∷ xs) = digits_at _ c xs refl (digits_taken xs)

nanoseconds_at : (b : Bool) (xs : List ℕ) (n : ℕ) (r : List ℕ) → (prefix_len is_ascii_digit xs == 0) ≡ b
    → cond {A = Option (ℕ × List ℕ)} b None (Some (fraction_value 9 (take (min (prefix_len is_ascii_digit xs) 9) xs), drop (prefix_len is_ascii_digit xs) xs)) ≡ Some (n, r)
    → (ds : List ℕ) × IsNumeral 10 ds × (n ≡ fraction_value 9 ds) × (xs ≡ ds ++ r)
nanoseconds_at true xs n r h e = absurd (cc)
nanoseconds_at false xs n r h e =
    let len = prefix_len is_ascii_digit xs in
    let ds = take len xs in
    let same = unsome {A = ℕ × List ℕ} _ _ e in
    let some : 0 < length ds = rw (length-prefix_len is_ascii_digit xs) (grind (arith, nat_tests)) in
    (ds, (some, digits_taken xs), sym (ap (λ (p : ℕ × List ℕ). p.0) same) ∙ fraction_value-cut 9 len xs, sym (take-append-drop len xs) ∙ ap (λ rest. ds ++ rest) (ap (λ (p : ℕ × List ℕ). p.1) same))

dot_at : (b : Bool) (c : ℕ) (rest : List ℕ) (n : ℕ) (r : List ℕ) → (c == 46) ≡ b → cond {A = Option (ℕ × List ℕ)} b (nanoseconds rest) (Some (0, c ∷ rest)) ≡ Some (n, r) → (f : List ℕ) × IsFraction f n × (c ∷ rest ≡ f ++ r)
unfolding nanoseconds
dot_at true c rest n r h e =
    let found = nanoseconds_at _ rest n r refl e in
    (46 ∷ found.0, inr (found.0, refl, found.1, found.2), ap (λ x. x ∷ rest) (is_byte c 46 h) ∙ ap (λ xs. 46 ∷ xs) found.3)
dot_at false c rest n r h e =
    let same = unsome {A = ℕ × List ℕ} _ _ e in
    ([], inl (refl, sym (ap (λ (p : ℕ × List ℕ). p.0) same)), ap (λ (p : ℕ × List ℕ). p.1) same)

fraction_takes : (t : List ℕ) (n : ℕ) (r : List ℕ) → fraction t ≡ Some (n, r) → (f : List ℕ) × IsFraction f n × (t ≡ f ++ r)
unfolding fraction
fraction_takes [] n r e = let same = unsome {A = ℕ × List ℕ} _ _ e in ([], inl (refl, sym (ap (λ (p : ℕ × List ℕ). p.0) same)), ap (λ (p : ℕ × List ℕ). p.1) same)
fraction_takes (c ∷ rest) n r e = dot_at _ c rest n r refl e

letter_at : (b : Bool) (c : ℕ) (rest r : List ℕ) → ((c == 84) || (c == 116)) ≡ b → cond {A = Option (List ℕ)} b (Some rest) None ≡ Some r → (letter : ℕ) × ((letter ≡ 84) ⊎ (letter ≡ 116)) × (c ∷ rest ≡ letter ∷ r)
letter_at true c rest r h e = (c, either_byte c 84 116 h, ap (λ xs. c ∷ xs) (unsome _ _ e))
letter_at false c rest r h e = absurd (cc)

after_t_takes : (t r : List ℕ) → after_t t ≡ Some r → (letter : ℕ) × ((letter ≡ 84) ⊎ (letter ≡ 116)) × (t ≡ letter ∷ r)
after_t_takes [] r e = absurd (cc)
after_t_takes (c ∷ rest) r e = letter_at _ c rest r refl e

-- what is read has the shape
pub fields_takes : (text : List ℕ) (s : DateFields) → fields text ≡ Some s → HasShape text s
unfolding fields
fields_takes text s e =
    let d = bind_some _ (date text) s e in
    let rest = bind_some _ (after_t d.0.1) s d.2 in
    let t = bind_some _ (time rest.0) s rest.2 in
    let f = bind_some _ (fraction t.0.1) s t.2 in
    let o = bind_some _ (offset f.0.1) s f.2 in
    let letter = after_t_takes d.0.1 rest.0 rest.1 in
    let day = date_takes text d.0.0.0 d.0.0.1 d.0.0.2 d.0.1 d.1 in
    let clock = time_takes rest.0 t.0.0.0 t.0.0.1 t.0.0.2 t.0.1 t.1 in
    let part = fraction_takes t.0.1 f.0.0 f.0.1 f.1 in
    let zone = offset_takes f.0.1 o.0.0 o.0.1 o.0.2 o.1 in
    subst (HasShape text) (unsome _ s o.2)
    (letter.0, rest.0, part.0, f.0.1, letter.1, subst (IsDateText text d.0.0) letter.2 day, subst (IsTimeText rest.0 t.0.0) part.2 clock, part.1, zone)
