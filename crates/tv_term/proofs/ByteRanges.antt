-- Byte strings that begin with some bytes stand one after the other in the order of bytes.
use Rattle.std.proofs.Common.{◌≡◌, ◌≢◌, ℕ, suc, ◌+◌, ◌<◌, ◌≤◌, ◌↔◌, Bool, true, false, cond, ◌&&◌, List, [], ◌∷◌, ◌++◌, length, drop, get_or, length-drop, append_assoc, append-nil, IsTrue, Option, Some, None, eqb, ltb, refl, sym, ◌∙◌, ap, arith}
use Rattle.std.specs.Ordering.{is_le, is_lt, nat_cmp}
use Rattle.std.specs.declared.cmp.Ordering.{Ordering}
use Rattle.std.specs.Cmp.Lexicographic.{slice_cmp}
use Rattle.std.proofs.lemmas.Bool.Decides.{nat_tests}
use Rattle.std.proofs.lemmas.Cmp.{same_from_slice_cmp}
use Rattle.std.proofs.lemmas.List.{get_or-drop}
use Rattle.std.proofs.Math.Seq.{get_or-append_seam}
use Rattle.std.specs.Global.{Vec}
use Rattle.std.specs.List.{IsLastAndRest}
use Rattle.std.proofs.lemmas.Bool.{and_from, and_parts}
use Rattle.tv_base.specs.Sink.{IsPrefix}
use Rattle.tv_term.specs.Range.{EndsPrefix, IsFrom, IsInRange}

-- the three tests, by recursion over both lists
abbrev upto : List ℕ → List ℕ → Bool
upto [] ys = true
upto (x ∷ xs) [] = false
upto (x ∷ xs) (y ∷ ys) = cond (eqb x y) (upto xs ys) (ltb x y)

abbrev below : List ℕ → List ℕ → Bool
below [] [] = false
below [] (y ∷ ys) = true
below (x ∷ xs) [] = false
below (x ∷ xs) (y ∷ ys) = cond (eqb x y) (below xs ys) (ltb x y)

abbrev begins : List ℕ → List ℕ → Bool
begins [] ys = true
begins (x ∷ xs) [] = false
begins (x ∷ xs) (y ∷ ys) = cond (eqb x y) (begins xs ys) false

is_upto : (xs ys : List ℕ) (o : Ordering) → o ≡ slice_cmp nat_cmp xs ys → is_le o ≡ upto xs ys
is_upto = same_from_slice_cmp nat_cmp is_le upto refl (λ _ _. refl) (λ _ _. refl) (λ x y xs ys o h. grind (arith, nat_tests))

is_below : (xs ys : List ℕ) (o : Ordering) → o ≡ slice_cmp nat_cmp xs ys → is_lt o ≡ below xs ys
is_below = same_from_slice_cmp nat_cmp is_lt below refl (λ _ _. refl) (λ _ _. refl) (λ x y xs ys o h. grind (arith, nat_tests))

same : (x y : ℕ) → eqb x y ≡ true → x ≡ y
same x y e = grind (arith, nat_tests)

begins_itself : (p rest : List ℕ) → begins p (p ++ rest) ≡ true
begins_itself [] rest = refl
begins_itself (x ∷ p) rest = let e : eqb x x ≡ true = grind (arith, nat_tests) in rw e (begins_itself p rest)

-- each of them is 255, the largest byte
abbrev pub AreLargest : List ℕ → Type 0
AreLargest t = (k : ℕ) → k < length t → get_or t k 0 ≡ 255

-- each of them is a byte
abbrev pub AreBytes : List ℕ → Type 0
AreBytes b = (k : ℕ) → k < length b → get_or b k 0 < 256

largest_first : (x : ℕ) (t : List ℕ) → AreLargest (x ∷ t) → x ≡ 255
largest_first x t h = h 0 (omega arith)

largest_rest : (x : ℕ) (t : List ℕ) → AreLargest (x ∷ t) → AreLargest t
largest_rest x t h k below_end = h (suc k) (omega arith)

byte_first : (x : ℕ) (t : List ℕ) → AreBytes (x ∷ t) → x < 256
byte_first x t h = h 0 (omega arith)

bytes_rest : (x : ℕ) (t : List ℕ) → AreBytes (x ∷ t) → AreBytes t
bytes_rest x t h k below_end = h (suc k) (omega arith)

-- nothing but what begins with the largest bytes is above them
largest-upto : (t b : List ℕ) → AreLargest t → AreBytes b → upto t b ≡ begins t b
largest-upto [] b h k = refl
largest-upto (x ∷ t) [] h k = refl
largest-upto (x ∷ t) (y ∷ b) h k =
    let first = largest_first x t h in
    let byte = byte_first y b k in
    let rest = largest-upto t b (largest_rest x t h) (bytes_rest y b k) in
    grind (arith, nat_tests)

no_below : (b : List ℕ) → below b [] ≡ false
no_below [] = refl
no_below (y ∷ b) = refl

step : (x y : ℕ) (u g n : Bool) → u ≡ g → n ≡ false → (cond (eqb x y) u (ltb x y) && cond (eqb y (x + 1)) n (ltb y (x + 1))) ≡ cond (eqb x y) g false
step x y u g n same_rest none = grind (arith, nat_tests)

-- what begins with a byte and the largest ones is from there on, and below the next byte
first-within : (x : ℕ) (t b : List ℕ) → AreLargest t → AreBytes b → (upto (x ∷ t) b && below b ((x + 1) ∷ [])) ≡ begins (x ∷ t) b
first-within x t [] h k = refl
first-within x t (y ∷ b) h k = step x y (upto t b) (begins t b) (below b []) (largest-upto t b h (bytes_rest y b k)) (no_below b)

deeper : (c y : ℕ) (u l g : Bool) → (u && l) ≡ g → (cond (eqb c y) u (ltb c y) && cond (eqb y c) l (ltb y c)) ≡ cond (eqb c y) g false
deeper c y u l g rest = grind (arith, nat_tests)

-- the same after other bytes
all-within : (q : List ℕ) (x : ℕ) (t b : List ℕ) → AreLargest t → AreBytes b → (upto (q ++ x ∷ t) b && below b (q ++ (x + 1) ∷ [])) ≡ begins (q ++ x ∷ t) b
all-within [] x t b h k = first-within x t b h k
all-within (c ∷ q) x t [] h k = refl
all-within (c ∷ q) x t (y ∷ b) h k =
    deeper c y (upto (q ++ x ∷ t) b) (below b (q ++ (x + 1) ∷ [])) (begins (q ++ x ∷ t) b) (all-within q x t b h (bytes_rest y b k))

begins-prefix : (p b : List ℕ) → IsPrefix p b → begins p b ≡ true
begins-prefix p b h = ap (begins p) h.1 ∙ begins_itself p h.0

prefix-begins : (p b : List ℕ) → begins p b ≡ true → IsPrefix p b
prefix-begins [] b h = (b, refl)
prefix-begins (x ∷ p) [] h = cc
prefix-begins (x ∷ p) (y ∷ b) h =
    let first : x ≡ y = grind (arith, nat_tests) in
    let rest : begins p b ≡ true = grind (arith, nat_tests) in
    let more = prefix-begins p b rest in
    (more.0, ap (λ z. z ∷ b) (sym first) ∙ ap (λ z. x ∷ z) more.1)

within : (p end bytes : List ℕ) → (upto p bytes && below bytes end) ≡ begins p bytes → (IsFrom p bytes × IsTrue (is_lt (slice_cmp nat_cmp bytes end))) ↔ IsPrefix p bytes
within p end bytes same_tests =
    let from = is_upto p bytes (slice_cmp nat_cmp p bytes) refl in
    let under = is_below bytes end (slice_cmp nat_cmp bytes end) refl in (
      (λ w. prefix-begins p bytes (sym same_tests ∙ and_from (upto p bytes) (below bytes end) (sym from ∙ w.0) (sym under ∙ w.1))),
      (λ h. let tests = same_tests ∙ begins-prefix p bytes h in
          (from ∙ (and_parts (upto p bytes) (below bytes end) tests).0, under ∙ (and_parts (upto p bytes) (below bytes end) tests).1)),
    )

-- the end of the range of a prefix: it without the largest bytes at its end, and the last one more
pub ends-some : (p q t : List ℕ) (x : ℕ) (end : Vec ℕ) → p ≡ q ++ x ∷ t → AreLargest t → end.items ≡ q ++ (x + 1) ∷ [] → EndsPrefix p (Some end)
ends-some p q t x end is largest end_is bytes are =
    let all = all-within q x t bytes largest (λ k inside. are k 0 inside) in
    within p end.items bytes (ap (λ e. upto p bytes && below bytes e) end_is ∙ ap (λ z. upto z bytes && below bytes (q ++ (x + 1) ∷ [])) is ∙ all ∙ ap (λ z. begins z bytes) (sym is))

-- where all bytes are the largest there is none
pub ends-none : (p : List ℕ) → AreLargest p → EndsPrefix p None
ends-none p largest bytes are =
    let from = is_upto p bytes (slice_cmp nat_cmp p bytes) refl in
    let all = largest-upto p bytes largest (λ k inside. are k 0 inside) in
    ((λ w. prefix-begins p bytes (sym all ∙ sym from ∙ w.0)), (λ h. (from ∙ all ∙ begins-prefix p bytes h, tt)))

-- after those that are left all are the largest
pub dropped : (n : ℕ) (p : List ℕ) → ((k : ℕ) → n ≤ k → k < length p → get_or p k 0 ≡ 255) → AreLargest (drop n p)
dropped n p h k inside = get_or-drop n p k 0 ∙ h (n + k) (omega arith) (omega (arith, length-drop n p))

-- the same where nothing is left
pub all-dropped : (n : ℕ) (p : List ℕ) → n ≡ 0 → ((k : ℕ) → n ≤ k → k < length p → get_or p k 0 ≡ 255) → AreLargest p
all-dropped n p none h k inside = h k (omega arith) inside

joined_front : (p kept rest front : List ℕ) (last : ℕ) → p ≡ kept ++ rest → IsLastAndRest kept last front → p ≡ front ++ last ∷ rest
joined_front p kept rest front last is ends = is ∙ ap (λ z. z ++ rest) ends.0 ∙ append_assoc front (last ∷ []) rest

-- the last of those that are left is below the largest
pub last_left : (p kept rest front : List ℕ) (last n : ℕ) → p ≡ kept ++ rest → length kept ≡ n → IsLastAndRest kept last front → (0 < n → (k : ℕ) → k + 1 ≡ n → get_or p k 0 < 255) → last < 255
last_left p kept rest front last n is len ends h =
    let at = ap (λ z. get_or z (length front) 0) (joined_front p kept rest front last is ends) ∙ get_or-append_seam front last rest 0 in
    let small = h (omega arith) (length front) (omega arith) in omega (arith, at, small)

pub ends-kept : (p kept rest front : List ℕ) (last : ℕ) (end : Vec ℕ) → p ≡ kept ++ rest → IsLastAndRest kept last front → AreLargest rest → end.items ≡ front ++ (last + 1) ∷ [] → EndsPrefix p (Some end)
ends-kept p kept rest front last end is ends largest end_is =
    ends-some p front rest last end (joined_front p kept rest front last is ends) largest end_is

-- above a byte string are those from it with a zero after it on
next-upto : (p b : List ℕ) → upto (p ++ 0 ∷ []) b ≡ below p b
next-upto [] [] = refl
next-upto [] (y ∷ b) = grind (arith, nat_tests)
next-upto (x ∷ p) [] = refl
next-upto (x ∷ p) (y ∷ b) = ap (λ t. cond (eqb x y) t (ltb x y)) (next-upto p b)

not_below_itself : (p : List ℕ) → below p p ≡ false
not_below_itself [] = refl
not_below_itself (x ∷ p) = let e : eqb x x ≡ true = grind (arith, nat_tests) in rw e (not_below_itself p)

longer-below : (p rest : List ℕ) → rest ≢ [] → below p (p ++ rest) ≡ true
longer-below [] [] h = absurd (h refl)
longer-below [] (y ∷ rest) h = refl
longer-below (x ∷ p) rest h = let e : eqb x x ≡ true = grind (arith, nat_tests) in rw e (longer-below p rest h)

below-upto : (p b : List ℕ) → below p b ≡ true → upto p b ≡ true
below-upto [] b h = refl
below-upto (x ∷ p) [] h = h
below-upto (x ∷ p) (y ∷ b) h = below_first x y (below p b) (upto p b) (below-upto p b) h
  where
    below_first : (x y : ℕ) (l u : Bool) → (l ≡ true → u ≡ true) → cond (eqb x y) l (ltb x y) ≡ true → cond (eqb x y) u (ltb x y) ≡ true
    below_first x y l u rest h = grind (arith, nat_tests)

false_is_true : false ≡ true → ⊥
false_is_true e = cc

-- those that begin with the bytes and are longer
pub longer-within : (p : List ℕ) (end : Option (Vec ℕ)) (bytes : List ℕ) → (IsInRange p end bytes ↔ IsPrefix p bytes) → IsInRange (p ++ 0 ∷ []) end bytes ↔ (IsPrefix p bytes × (bytes ≢ p))
longer-within p end bytes ends =
    let from = is_upto p bytes (slice_cmp nat_cmp p bytes) refl in
    let next = is_upto (p ++ 0 ∷ []) bytes (slice_cmp nat_cmp (p ++ 0 ∷ []) bytes) refl ∙ next-upto p bytes in (
      (λ w. let above : below p bytes ≡ true = sym next ∙ w.0 in
          (ends.0 (from ∙ below-upto p bytes above, w.1), (λ same_bytes. false_is_true (sym (not_below_itself p) ∙ ap (below p) (sym same_bytes) ∙ above)))),
      (λ h. let rest = h.0 in
          let some : rest.0 ≢ [] = λ none. h.1 (rest.1 ∙ ap (λ z. p ++ z) none ∙ append-nil p) in
          (next ∙ ap (below p) rest.1 ∙ longer-below p rest.0 some, (ends.1 rest).1)),
    )

-- ---- bounds after a prefix

-- below a byte string with a zero after it are those up to the string
before-upto : (b p : List ℕ) → below b (p ++ 0 ∷ []) ≡ upto b p
before-upto [] [] = refl
before-upto [] (x ∷ p) = refl
before-upto (y ∷ b) [] = last_below y b
  where
    last_below : (y : ℕ) (b : List ℕ) → cond (eqb y 0) (below b []) (ltb y 0) ≡ false
    last_below y b = let none = no_below b in grind (arith, nat_tests)
before-upto (y ∷ b) (x ∷ p) = ap (λ t. cond (eqb y x) t (ltb y x)) (before-upto b p)

pub next-test : (p b : List ℕ) → is_le (slice_cmp nat_cmp (p ++ 0 ∷ []) b) ≡ is_lt (slice_cmp nat_cmp p b)
next-test p b =
    is_upto (p ++ 0 ∷ []) b (slice_cmp nat_cmp (p ++ 0 ∷ []) b) refl ∙ next-upto p b ∙ sym (is_below p b (slice_cmp nat_cmp p b) refl)

pub before-test : (b p : List ℕ) → is_lt (slice_cmp nat_cmp b (p ++ 0 ∷ [])) ≡ is_le (slice_cmp nat_cmp b p)
before-test b p =
    is_below b (p ++ 0 ∷ []) (slice_cmp nat_cmp b (p ++ 0 ∷ [])) refl ∙ before-upto b p ∙ sym (is_upto b p (slice_cmp nat_cmp b p) refl)
