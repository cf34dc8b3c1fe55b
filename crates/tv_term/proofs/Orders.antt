-- The order of bytes is the order of what they encode.
use Rattle.std.proofs.Common.{◌≡◌, ◌≢◌, ℕ, suc, zero, ◌+◌, ◌*◌, ◌/◌, ◌%◌, ◌^◌, ◌<◌, Bool, true, false, List, [], ◌∷◌, ◌++◌, length, refl, sym, ◌∙◌, ap, arith}
use Rattle.tv_base.proofs.Steps.{greater}
use Rattle.tv_base.proofs.Widths.{byte_is}
use Rattle.std.specs.Prelude.{ℤ, FitsSigned}
use Rattle.std.specs.Int.{to_be_bytes, bytes_high_first, w32, w64}
use Rattle.std.specs.Ordering.{nat_cmp, int_cmp, bool_cmp, ordering_then, is_eq}
use Rattle.std.specs.declared.cmp.Ordering.{Ordering}
use Rattle.std.specs.declared.cmp.Ordering.TheVariants.{Less, Equal, Greater}
use Rattle.std.specs.Cmp.Lexicographic.{slice_cmp}
use Rattle.std.proofs.Math.Arith.{mod-mul}
use Rattle.std.proofs.Math.Nat.{mul-le-mul_right, mod-lt, mod-eq_of_lt, pow-suc, pow-succ'}
use Rattle.std.proofs.lemmas.Cmp.{ranked, by_ranked, tied_itself, nat_list_cmp_total}
use Rattle.std.proofs.lemmas.Map.Text.{is_eq-slice_cmp}
use Rattle.std.proofs.lemmas.Slice.Eq.{bytes_eq-Decides}
use Rattle.std.proofs.lemmas.Bool.Decides.{nat_tests}
use Rattle.std.proofs.lemmas.Int.{ints}
use Rattle.tv_term.specs.FastValueLaws.{from_least-order, from_least-fits}
use Rattle.tv_term.specs.Key.{TermValue, Text, Unsigned, Signed, Truth, Date, Facet, Bytes, Address, Json, from_least, payload, Fits, value_cmp, coded_value, term, HasNoZero}

then_assoc : (a b c : Ordering) → ordering_then (ordering_then a b) c ≡ ordering_then a (ordering_then b c)
then_assoc Less b c = refl
then_assoc Equal b c = refl
then_assoc Greater b c = refl

-- prefixes of one length decide first
pub slice_cmp-append : (a b x y : List ℕ) → length a ≡ length b → slice_cmp nat_cmp (a ++ x) (b ++ y) ≡ ordering_then (slice_cmp nat_cmp a b) (slice_cmp nat_cmp x y)
slice_cmp-append [] [] x y e = refl
slice_cmp-append [] (d ∷ b) x y e = absurd (omega arith)
slice_cmp-append (c ∷ a) [] x y e = absurd (omega arith)
slice_cmp-append (c ∷ a) (d ∷ b) x y e =
    ap (ordering_then (nat_cmp c d)) (slice_cmp-append a b x y (omega arith)) ∙ sym (then_assoc (nat_cmp c d) (slice_cmp nat_cmp a b) (slice_cmp nat_cmp x y))

less : (a b : ℕ) → a < b → nat_cmp a b ≡ Less
less a b h = grind (arith, nat_tests)

-- the high digit decides first
digits : (b q r s t : ℕ) → r < b → t < b → ordering_then (nat_cmp q s) (nat_cmp r t) ≡ nat_cmp (q * b + r) (s * b + t)
digits b q r s t h k =
    by_ranked (q < s) (q ≡ s) (s < q) (nat_cmp q s) (ranked q s (nat_cmp q s) refl)
    (λ e below. rw e (sym (less (q * b + r) (s * b + t) (omega (arith, mul-le-mul_right b below)))))
    (λ e same. rw (e, same) (grind (arith, nat_tests)))
    (λ e above. rw e (sym (greater (q * b + r) (s * b + t) (omega (arith, mul-le-mul_right b above)))))

power-positive : (k : ℕ) → 0 < 256 ^ k
power-positive zero = omega arith
power-positive (suc k) = let h = power-positive k in rw (pow-suc 256 k) (omega arith)

-- the last bytes of a number, the highest first, are ordered as what they are worth
bytes-order : (k m n : ℕ) → slice_cmp nat_cmp (bytes_high_first k m) (bytes_high_first k n) ≡ nat_cmp (m % 256 ^ k) (n % 256 ^ k)
bytes-order zero m n = grind (arith, nat_tests)
bytes-order (suc k) m n =
    let low = power-positive k in
    let high : zero < 256 = omega arith in
    let split : (a : ℕ) → (a / 256 ^ k % 256) * 256 ^ k + a % 256 ^ k ≡ a % 256 ^ suc k = λ a. sym (rw (pow-succ' 256 k) (mod-mul a high low)) in
    rw (byte_is k m, byte_is k n, bytes-order k m n)
    (digits (256 ^ k) (m / 256 ^ k % 256) (m % 256 ^ k) (n / 256 ^ k % 256) (n % 256 ^ k) (mod-lt m low) (mod-lt n low)
    ∙ ap (λ a. nat_cmp a ((n / 256 ^ k % 256) * 256 ^ k + n % 256 ^ k)) (split m) ∙ ap (nat_cmp (m % 256 ^ suc k)) (split n))

-- numbers of k bytes
pub number-order : (k m n : ℕ) → m < 256 ^ k → n < 256 ^ k → slice_cmp nat_cmp (bytes_high_first k m) (bytes_high_first k n) ≡ nat_cmp m n
number-order k m n h j = bytes-order k m n ∙ rw (mod-eq_of_lt h, mod-eq_of_lt j) refl

positive : (n : ℕ) → n ≢ 0 → 0 < n
positive n h = omega arith

-- a list that ends at its first zero is no prefix of another
pub slice_cmp-zero : (p q x y : List ℕ) → HasNoZero p → HasNoZero q → slice_cmp nat_cmp (p ++ 0 ∷ x) (q ++ 0 ∷ y) ≡ ordering_then (slice_cmp nat_cmp p q) (slice_cmp nat_cmp x y)
slice_cmp-zero [] [] x y h k = refl
slice_cmp-zero [] (d ∷ q) x y h k = let p : 0 < d = positive d k.0 in rw (less 0 d p) refl
slice_cmp-zero (c ∷ p) [] x y h k = let q : 0 < c = positive c h.0 in rw (greater c 0 q) refl
slice_cmp-zero (c ∷ p) (d ∷ q) x y h k =
    ap (ordering_then (nat_cmp c d)) (slice_cmp-zero p q x y h.1 k.1) ∙ sym (then_assoc (nat_cmp c d) (slice_cmp nat_cmp p q) (slice_cmp nat_cmp x y))

least-order : (a b : ℤ) → FitsSigned w64 a → FitsSigned w64 b → slice_cmp nat_cmp (bytes_high_first 8 (from_least a)) (bytes_high_first 8 (from_least b)) ≡ int_cmp a b
least-order a b h k = number-order 8 (from_least a) (from_least b) (from_least-fits a h) (from_least-fits b k) ∙ sym (from_least-order a b h k)

truth-order : (a b : Bool) → slice_cmp nat_cmp (payload (Truth a)) (payload (Truth b)) ≡ bool_cmp a b
truth-order true true = refl
truth-order true false = refl
truth-order false true = refl
truth-order false false = refl

both : (a b c d : Ordering) → a ≡ b → c ≡ d → ordering_then a c ≡ ordering_then b d
both a b c d e f = rw (e, f) refl

-- values are ordered by their codes and, where these agree, as values of one type
pub coded-order : (a b : TermValue) → Fits a → Fits b → slice_cmp nat_cmp (coded_value a) (coded_value b) ≡ value_cmp a b
coded-order (Text a) (Text b) h k = refl
coded-order (Unsigned a) (Unsigned b) h k = number-order 8 a b h k
coded-order (Signed a) (Signed b) h k = least-order a b h k
coded-order (Truth a) (Truth b) h k = truth-order a b
coded-order (Date a) (Date b) h k = least-order a b h k
coded-order (Facet a) (Facet b) h k = refl
coded-order (Bytes a) (Bytes b) h k = refl
coded-order (Address a) (Address b) h k = number-order 16 a b h k
coded-order (Json p a) (Json q b) h k =
    slice_cmp-zero p q (coded_value a) (coded_value b) h.0 k.0 ∙ ap (ordering_then (slice_cmp nat_cmp p q)) (coded-order a b h.1 k.1)
coded-order a b h k = refl

pub field-order : (f g : ℕ) → f < 2 ^ 32 → g < 2 ^ 32 → (x y : List ℕ) → slice_cmp nat_cmp (to_be_bytes w32 f ++ x) (to_be_bytes w32 g ++ y) ≡ ordering_then (nat_cmp f g) (slice_cmp nat_cmp x y)
field-order f g h k x y =
    slice_cmp-append (to_be_bytes w32 f) (to_be_bytes w32 g) x y refl
    ∙ both (slice_cmp nat_cmp (to_be_bytes w32 f) (to_be_bytes w32 g)) (nat_cmp f g) (slice_cmp nat_cmp x y) (slice_cmp nat_cmp x y) (number-order 4 f g h k) refl

pub term-order : (f g : ℕ) (a b : TermValue) → f < 2 ^ 32 → g < 2 ^ 32 → Fits a → Fits b → slice_cmp nat_cmp (term f a) (term g b) ≡ ordering_then (nat_cmp f g) (value_cmp a b)
term-order f g a b hf hg ha hb =
    field-order f g hf hg (coded_value a) (coded_value b) ∙ ap (ordering_then (nat_cmp f g)) (coded-order a b ha hb)

nat_same : (a b : ℕ) → nat_cmp a b ≡ Equal → a ≡ b
nat_same a b e = grind (arith, nat_tests)

int_same : (a b : ℤ) → int_cmp a b ≡ Equal → a ≡ b
int_same a b e = grind (arith, ints)

bool_same : (a b : Bool) → bool_cmp a b ≡ Equal → a ≡ b
bool_same true true e = refl
bool_same true false e = cc
bool_same false true e = cc
bool_same false false e = refl

bytes_same : (a b : List ℕ) → slice_cmp nat_cmp a b ≡ Equal → a ≡ b
bytes_same a b e = (bytes_eq-Decides a b).0 (sym (is_eq-slice_cmp a b) ∙ ap is_eq e)

then_Equal : (a b : Ordering) → ordering_then a b ≡ Equal → (a ≡ Equal) × (b ≡ Equal)
then_Equal Less b e = cc
then_Equal Equal b e = (refl, e)
then_Equal Greater b e = cc

pub value_cmp-Equal : (a b : TermValue) → value_cmp a b ≡ Equal → a ≡ b
value_cmp-Equal (Text a) (Text b) e = ap Text (bytes_same a b e)
value_cmp-Equal (Unsigned a) (Unsigned b) e = ap Unsigned (nat_same a b e)
value_cmp-Equal (Signed a) (Signed b) e = ap Signed (int_same a b e)
value_cmp-Equal (Truth a) (Truth b) e = ap Truth (bool_same a b e)
value_cmp-Equal (Date a) (Date b) e = ap Date (int_same a b e)
value_cmp-Equal (Facet a) (Facet b) e = ap Facet (bytes_same a b e)
value_cmp-Equal (Bytes a) (Bytes b) e = ap Bytes (bytes_same a b e)
value_cmp-Equal (Address a) (Address b) e = ap Address (nat_same a b e)
value_cmp-Equal (Json p a) (Json q b) e =
    let parts = then_Equal (slice_cmp nat_cmp p q) (value_cmp a b) e in
    let path = bytes_same p q parts.0 in
    let value = value_cmp-Equal a b parts.1 in cc
value_cmp-Equal a b e = cc

pub equal-keys : (f g : ℕ) (a b : TermValue) → f < 2 ^ 32 → g < 2 ^ 32 → Fits a → Fits b → term f a ≡ term g b → (f ≡ g) × (a ≡ b)
equal-keys f g a b hf hg ha hb e =
    let tied : slice_cmp nat_cmp (term f a) (term g b) ≡ Equal = ap (slice_cmp nat_cmp (term f a)) (sym e) ∙ tied_itself nat_list_cmp_total (term f a) in
    let parts = then_Equal (nat_cmp f g) (value_cmp a b) (sym (term-order f g a b hf hg ha hb) ∙ tied) in
    (nat_same f g parts.0, value_cmp-Equal a b parts.1)
