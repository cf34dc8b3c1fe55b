-- What has the shape is read.
use Rattle.std.proofs.Common.{◌≡◌, ℕ, ◌+◌, ◌-◌, ◌*◌, ◌/◌, ◌%◌, ◌<◌, ◌≤◌, List, [], ◌∷◌, ◌++◌, Bool, true, false, ◌==◌, min, take, drop, length, Option, Some, option_and_then, ◌⊎◌, inl, inr, sym, ap, ap₂, ◌∙◌, refl, arith}
use Rattle.std.proofs.lemmas.Bool.Decides.{nat_tests}
use Rattle.std.specs.Char.{is_ascii_digit, digit_value}
use Rattle.std.specs.List.{prefix_len}
use Rattle.std.specs.Str.Parse.{AllDigits, IsNumeral}
use Rattle.std.proofs.lemmas.List.{take-append-le, take_all}
use Rattle.std.proofs.Math.Seq.{drop-append_seam}
use Rattle.jiff_fmt.specs.Text.{pad2, pad4}
use Rattle.tv_date.specs.declared.rfc3339.DateFields.{DateFields}
use Rattle.tv_date.specs.Rfc3339.{two_digits, four_digits, after_t, date, time, hours_and_minutes, offset, fraction, nanoseconds, fields}
use Rattle.jiff_fmt.specs.Reader.{fraction_value}
use Rattle.tv_date.specs.Shape.{IsDateText, IsTimeText, IsZone, IsFraction, HasShape}
use Rattle.tv_date.proofs.Shapes.{fraction_value-cut}

bind_again : {A B : Type 0} (f : A → Option B) (o : Option A) (x : A) → o ≡ Some x → option_and_then f o ≡ f x
bind_again f o x e = ap (option_and_then f) e

digit_test : (c : ℕ) → 48 ≤ c → c ≤ 57 → is_ascii_digit c ≡ true
digit_test c h k = grind (arith, nat_tests)

two_cells : (high low : ℕ) (r : List ℕ) → is_ascii_digit high ≡ true → is_ascii_digit low ≡ true → two_digits (high ∷ low ∷ r) ≡ Some ((high - 48) * 10 + (low - 48), r)
unfolding two_digits
two_cells high low r h l = rw (h, l)

two_again : (n : ℕ) (r : List ℕ) → n < 100 → two_digits (pad2 n ++ r) ≡ Some (n, r)
two_again n r h =
    let value : (48 + n / 10 - 48) * 10 + (48 + n % 10 - 48) ≡ n = omega arith in
    two_cells (48 + n / 10) (48 + n % 10) r (digit_test (48 + n / 10) (omega arith) (omega arith)) (digit_test (48 + n % 10) (omega arith) (omega arith))
    ∙ ap (λ (k : ℕ). Some (k, r)) value

four_again : (n : ℕ) (r : List ℕ) → n < 10000 → four_digits (pad4 n ++ r) ≡ Some (n, r)
unfolding four_digits
four_again n r h =
    let value : n / 100 * 100 + n % 100 ≡ n = omega arith in
    bind_again _ (two_digits (pad4 n ++ r)) (n / 100, pad2 (n % 100) ++ r) (two_again (n / 100) (pad2 (n % 100) ++ r) (omega arith))
    ∙ bind_again _ (two_digits (pad2 (n % 100) ++ r)) (n % 100, r) (two_again (n % 100) r (omega arith)) ∙ ap (λ (k : ℕ). Some (k, r)) value

date_again : (t : List ℕ) (d : ℕ × ℕ × ℕ) (r : List ℕ) → IsDateText t d r → date t ≡ Some (d, r)
unfolding date
date_again t d r h =
    let c = pad2 d.2 ++ r in
    let b = pad2 d.1 ++ 45 ∷ c in
    ap date h.3 ∙ bind_again _ (four_digits (pad4 d.0 ++ 45 ∷ b)) (d.0, 45 ∷ b) (four_again d.0 (45 ∷ b) h.0)
    ∙ bind_again _ (two_digits b) (d.1, 45 ∷ c) (two_again d.1 (45 ∷ c) h.1)
    ∙ bind_again _ (two_digits c) (d.2, r) (two_again d.2 r h.2)

time_again : (t : List ℕ) (d : ℕ × ℕ × ℕ) (r : List ℕ) → IsTimeText t d r → time t ≡ Some (d, r)
unfolding time
time_again t d r h =
    let c = pad2 d.2 ++ r in
    let b = pad2 d.1 ++ 58 ∷ c in
    ap time h.3 ∙ bind_again _ (two_digits (pad2 d.0 ++ 58 ∷ b)) (d.0, 58 ∷ b) (two_again d.0 (58 ∷ b) h.0)
    ∙ bind_again _ (two_digits b) (d.1, 58 ∷ c) (two_again d.1 (58 ∷ c) h.1)
    ∙ bind_again _ (two_digits c) (d.2, r) (two_again d.2 r h.2)

hours_again : (h m : ℕ) → h < 100 → m < 100 → hours_and_minutes (pad2 h ++ 58 ∷ pad2 m) ≡ Some (h, m)
unfolding hours_and_minutes
hours_again h m a b =
    bind_again _ (two_digits (pad2 h ++ 58 ∷ pad2 m)) (h, 58 ∷ pad2 m) (two_again h (58 ∷ pad2 m) a)
    ∙ bind_again _ (two_digits (pad2 m)) (m, []) (two_again m [] b)

signed_again : (text : List ℕ) (sign : ℕ) (w : Bool) (h m : ℕ) → (((sign ≡ 43) × (w ≡ false)) ⊎ ((sign ≡ 45) × (w ≡ true))) → h < 100 → m < 100 → text ≡ sign ∷ (pad2 h ++ 58 ∷ pad2 m) → offset text ≡ Some (w, h, m)
unfolding offset
signed_again text sign w h m (inl p) a b e = ap offset (e ∙ ap (λ x. x ∷ (pad2 h ++ 58 ∷ pad2 m)) p.0) ∙ bind_again _ (hours_and_minutes (pad2 h ++ 58 ∷ pad2 m)) (h, m) (hours_again h m a b) ∙ ap (λ (x : Bool). Some (x, h, m)) (sym p.1)
signed_again text sign w h m (inr p) a b e = ap offset (e ∙ ap (λ x. x ∷ (pad2 h ++ 58 ∷ pad2 m)) p.0) ∙ bind_again _ (hours_and_minutes (pad2 h ++ 58 ∷ pad2 m)) (h, m) (hours_again h m a b) ∙ ap (λ (x : Bool). Some (x, h, m)) (sym p.1)

zulu_again : (text : List ℕ) (w : Bool) (h m : ℕ) → ((text ≡ 90 ∷ []) ⊎ (text ≡ 122 ∷ [])) → w ≡ false → h ≡ 0 → m ≡ 0 → offset text ≡ Some (w, h, m)
unfolding offset
zulu_again text w h m (inl e) a b c = ap offset e ∙ rw (a, b, c)
zulu_again text w h m (inr e) a b c = ap offset e ∙ rw (a, b, c)

offset_again : (text : List ℕ) (w : Bool) (h m : ℕ) → IsZone text w h m → offset text ≡ Some (w, h, m)
offset_again text w h m (inl z) = zulu_again text w h m z.0 z.1 z.2 z.3
offset_again text w h m (inr z) = signed_again text z.0 w h m z.1 z.2 z.3 z.4

-- no digit stands first
abbrev NoDigit : List ℕ → Type 0
NoDigit zone = prefix_len is_ascii_digit zone ≡ 0

digit_test_small : (c : ℕ) → digit_value c < 10 → is_ascii_digit c ≡ true
digit_test_small c h = grind (arith, nat_tests)

digits_len : (ds zone : List ℕ) → AllDigits 10 ds → NoDigit zone → prefix_len is_ascii_digit (ds ++ zone) ≡ length ds
digits_len [] zone h none = none
digits_len (c ∷ ds) zone h none = let rest = digits_len ds zone h.1 none in rw (digit_test_small c h.0) (omega arith)

zone_start : (text : List ℕ) (w : Bool) (h m : ℕ) → IsZone text w h m → NoDigit text
zone_start text w h m (inl (inl e, a, b, c)) = ap (prefix_len is_ascii_digit) e
zone_start text w h m (inl (inr e, a, b, c)) = ap (prefix_len is_ascii_digit) e
zone_start text w h m (inr (sign, inl p, a, b, e)) = ap (prefix_len is_ascii_digit) (e ∙ ap (λ x. x ∷ (pad2 h ++ 58 ∷ pad2 m)) p.0)
zone_start text w h m (inr (sign, inr p, a, b, e)) = ap (prefix_len is_ascii_digit) (e ∙ ap (λ x. x ∷ (pad2 h ++ 58 ∷ pad2 m)) p.0)

no_fraction : (text : List ℕ) (w : Bool) (h m : ℕ) → IsZone text w h m → fraction text ≡ Some (0, text)
unfolding fraction
no_fraction text w h m (inl (inl e, a, b, c)) = ap fraction e ∙ ap (λ (x : List ℕ). Some (0, x)) (sym e)
no_fraction text w h m (inl (inr e, a, b, c)) = ap fraction e ∙ ap (λ (x : List ℕ). Some (0, x)) (sym e)
no_fraction text w h m (inr (sign, inl p, a, b, e)) = let is = e ∙ ap (λ x. x ∷ (pad2 h ++ 58 ∷ pad2 m)) p.0 in ap fraction is ∙ ap (λ (x : List ℕ). Some (0, x)) (sym is)
no_fraction text w h m (inr (sign, inr p, a, b, e)) = let is = e ∙ ap (λ x. x ∷ (pad2 h ++ 58 ∷ pad2 m)) p.0 in ap fraction is ∙ ap (λ (x : List ℕ). Some (0, x)) (sym is)

nanoseconds_again : (ds zone : List ℕ) → IsNumeral 10 ds → NoDigit zone → nanoseconds (ds ++ zone) ≡ Some (fraction_value 9 ds, zone)
unfolding nanoseconds
nanoseconds_again ds zone h none =
    let len = digits_len ds zone h.1 none in
    let some : (length ds == 0) ≡ false = grind (arith, nat_tests, h.0) in
    let value : fraction_value 9 (take (min (length ds) 9) (ds ++ zone)) ≡ fraction_value 9 ds =
    ap (fraction_value 9) (take-append-le (min (length ds) 9) ds zone (omega arith)) ∙ fraction_value-cut 9 (length ds) ds ∙ ap (fraction_value 9) (take_all (length ds) ds (omega arith)) in
    let rest : drop (length ds) (ds ++ zone) ≡ zone = drop-append_seam ds zone in
    rw (len, some) (ap₂ (λ (n : ℕ) (r : List ℕ). Some (n, r)) value rest)

fraction_again : (f zone : List ℕ) (n : ℕ) (w : Bool) (h m : ℕ) → IsFraction f n → IsZone zone w h m → fraction (f ++ zone) ≡ Some (n, zone)
unfolding fraction
fraction_again f zone n w h m (inl p) z = ap (λ xs. fraction (xs ++ zone)) p.0 ∙ no_fraction zone w h m z ∙ ap (λ (x : ℕ). Some (x, zone)) (sym p.1)
fraction_again f zone n w h m (inr p) z = ap (λ xs. fraction (xs ++ zone)) p.1 ∙ nanoseconds_again p.0 zone p.2 (zone_start zone w h m z) ∙ ap (λ (x : ℕ). Some (x, zone)) (sym p.3)

letter_again : (t r : List ℕ) (letter : ℕ) → ((letter ≡ 84) ⊎ (letter ≡ 116)) → t ≡ letter ∷ r → after_t t ≡ Some r
letter_again t r letter (inl l) e = ap after_t (e ∙ ap (λ x. x ∷ r) l)
letter_again t r letter (inr l) e = ap after_t (e ∙ ap (λ x. x ∷ r) l)

-- what has the shape is read
pub fields_again : (text : List ℕ) (s : DateFields) → HasShape text s → fields text ≡ Some s
unfolding fields
fields_again text s (letter, clock, part, zone, l, d, t, f, z) =
    bind_again _ (date text) ((s.year, s.month, s.day), letter ∷ clock) (date_again text (s.year, s.month, s.day) (letter ∷ clock) d)
    ∙ bind_again _ (after_t (letter ∷ clock)) clock (letter_again (letter ∷ clock) clock letter l refl)
    ∙ bind_again _ (time clock) ((s.hour, s.minute, s.second), part ++ zone) (time_again clock (s.hour, s.minute, s.second) (part ++ zone) t)
    ∙ bind_again _ (fraction (part ++ zone)) (s.fraction, zone) (fraction_again part zone s.fraction s.west s.offset_hour s.offset_minute f z)
    ∙ bind_again _ (offset zone) (s.west, s.offset_hour, s.offset_minute) (offset_again zone s.west s.offset_hour s.offset_minute z)
