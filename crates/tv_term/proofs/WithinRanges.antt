-- The terms that are in a range, of terms in rising order.
use Rattle.std.proofs.Common.{◌≡◌, ◌∙◌, ℕ, ◌+◌, ◌-◌, ◌≤◌, ◌<◌, inl, inr, Bool, true, false, List, length, take, drop, get_or, Some, None, refl, sym, ap, subst, arith}
use Rattle.std.proofs.lemmas.Bool.{cases_lt}
use Rattle.std.proofs.lemmas.Cmp.{nat_list_cmp_total}
use Rattle.std.proofs.lemmas.List.{get_or-drop, get_or-take, length-drop, length-take, take_all}
use Rattle.std.specs.Global.{Vec}
use Rattle.std.specs.List.Sorted.{IsPartitionedBy, IsPartitionPoint}
use Rattle.std.specs.Ordering.{is_le, is_lt, nat_cmp, ordering_reverse}
use Rattle.std.specs.Cmp.Lexicographic.{slice_cmp}
use Rattle.std.specs.declared.cmp.Ordering.{Ordering}
use Rattle.std.specs.declared.cmp.Ordering.TheVariants.{Less, Equal, Greater}
use Rattle.tv_term.specs.Range.{IsFrom, IsInRange}
use Rattle.tv_term.specs.Within.{HasJust, IsRising, is_below}

abbrev cmp : List ℕ → List ℕ → Ordering
cmp a b = slice_cmp nat_cmp a b

less_of : (o : Ordering) → is_lt o ≡ true → o ≡ Less
less_of Less h = refl
less_of Equal h = absurd cc
less_of Greater h = absurd cc

pub below_by : (a b c : List ℕ) (o : Ordering) → cmp a b ≡ o → is_le o ≡ true → is_below b c ≡ true → is_below a c ≡ true
below_by a b c Less e h lt = ap is_lt (nat_list_cmp_total.trans a b c e (less_of (cmp b c) lt))
below_by a b c Equal e h lt = ap is_lt (nat_list_cmp_total.congr a b c e) ∙ lt
below_by a b c Greater e h lt = absurd cc

pub rising_parted : {T : Type 0} (bytes : T → List ℕ) (terms : List T) (bound : List ℕ) → IsRising bytes terms → IsPartitionedBy (λ t. is_below (bytes t) bound) terms
rising_parted bytes terms bound rising i j d order within below = below_by (bytes (get_or terms i d)) (bytes (get_or terms j d)) bound _ refl (rising i j d order within) below

pub rising_behind : {T : Type 0} (bytes : T → List ℕ) (terms : List T) (n : ℕ) → IsRising bytes terms → IsRising bytes (drop n terms)
rising_behind bytes terms n rising i j d order within =
    let far : n + j < length terms = omega (arith, within, length-drop n terms) in
    rw (get_or-drop n terms i d, get_or-drop n terms j d) (rising (n + i) (n + j) d (omega (arith, order)) far)

not_true : (test : Bool) → (test ≡ true → ⊥) → test ≡ false
not_true true h = absurd (h refl)
not_true false h = refl

pub rising_before : {T : Type 0} (bytes : T → List ℕ) (terms : List T) (n : ℕ) → IsRising bytes terms → IsRising bytes (take n terms)
rising_before bytes terms n rising i j d order within =
    let near : j < n = omega (arith, within, length-take n terms) in
    let nearer : i < n = omega (arith, order, near) in
    rw (get_or-take n terms i d nearer, get_or-take n terms j d near) (rising i j d order (omega (arith, within, length-take n terms)))

-- a part's first element that fails is the first of all, where the element before the part passes, and the one after it fails or there is none
pub point_in_part : {T : Type 0} (p : T → Bool) (terms : List T) (start size m : ℕ) → IsPartitionedBy p terms → start ≤ length terms → ((k : ℕ) (d : T) → k + 1 ≡ start → p (get_or terms k d) ≡ true)
    → ((d : T) → start + size < length terms → p (get_or terms (start + size) d) ≡ false) → m ≤ length (take size (drop start terms))
    → IsPartitionPoint (λ t. p t ≡ true) (λ t. p t ≡ false) (take size (drop start terms)) m → IsPartitionPoint (λ t. p t ≡ true) (λ t. p t ≡ false) terms (start + m)
point_in_part {T} p terms start size m parted inside before behind within point = (front, back)
  where
    len : length (take size (drop start terms)) ≤ size
    len = omega (arith, length-take size (drop start terms))

    in_part : (k : ℕ) (d : T) (b : Bool) → start ≤ k → k < start + size → p (get_or (take size (drop start terms)) (k - start) d) ≡ b → p (get_or terms k d) ≡ b
    in_part k d b low high h =
        let near : k - start < size = omega (arith, low, high) in
        let same : start + (k - start) ≡ k = omega (arith, low) in
        sym (ap p (get_or-take size (drop start terms) (k - start) d near ∙ get_or-drop start terms (k - start) d ∙ ap (λ i. get_or terms i d) same)) ∙ h

    front : (k : ℕ) (d : T) → 0 ≤ k → k < start + m → p (get_or terms k d) ≡ true
    front k d low high =
        elim (cases_lt k start) [
          | inl less ↦ parted k (start - 1) d (omega (arith, less)) (omega (arith, less, inside)) (before (start - 1) d (omega (arith, less)))
          | inr more ↦ in_part k d true more (omega (arith, high, within, len)) (point.0 (k - start) d (omega arith) (omega (arith, more, high)))
        ]

    back : (k : ℕ) (d : T) → start + m ≤ k → k < length terms → p (get_or terms k d) ≡ false
    back k d low high =
        elim (cases_lt k (start + size)) [
          | inl near ↦ in_part k d false (omega (arith, low)) near (point.1 (k - start) d (omega (arith, low)) (omega (arith, low, near, high, length-take size (drop start terms), length-drop start terms)))
          | inr far ↦ not_true (p (get_or terms k d)) (λ passes.
              let first = behind d (omega (arith, far, high)) in
              let both : true ≡ false = sym (parted (start + size) k d far high passes) ∙ first in
              cc)
        ]

from_by : (start bytes : List ℕ) (o : Ordering) → cmp bytes start ≡ o → is_lt o ≡ false → IsFrom start bytes
from_by start bytes Less e h = absurd cc
from_by start bytes Equal e h = ap is_le (nat_list_cmp_total.antisymm start bytes ∙ ap ordering_reverse e)
from_by start bytes Greater e h = ap is_le (nat_list_cmp_total.antisymm start bytes ∙ ap ordering_reverse e)

pub is_from : (start bytes : List ℕ) → is_below bytes start ≡ false → IsFrom start bytes
is_from start bytes h = from_by start bytes _ refl h

pub not_from : (start bytes : List ℕ) → is_below bytes start ≡ true → ¬ IsFrom start bytes
not_from start bytes h from =
    let less = less_of (cmp bytes start) h in
    let greater : cmp start bytes ≡ Greater = nat_list_cmp_total.antisymm start bytes ∙ ap ordering_reverse less in
    let not_le : is_le (cmp start bytes) ≡ false = ap is_le greater in
    let both : true ≡ false = sym from ∙ not_le in
    cc

pub upto_of : (o : Ordering) → is_lt o ≡ true → is_le o ≡ true
upto_of Less h = refl
upto_of Equal h = absurd cc
upto_of Greater h = absurd cc

pub upto_then : (a b c : List ℕ) → IsFrom a b → IsFrom b c → IsFrom a c
upto_then a b c h k = is_from a c (not_true (is_below c a) (λ past. not_from a b (below_by b c a _ refl k past) h))

pub below_then : (a b c : List ℕ) → is_below a b ≡ true → IsFrom b c → is_below a c ≡ true
below_then a b c h k = is_true (is_below a c) (λ not_below. not_from b a h (upto_then b c a k (is_from c a not_below)))
  where
    is_true : (test : Bool) → (test ≡ false → ⊥) → test ≡ true
    is_true true h = refl
    is_true false h = absurd (h refl)

-- the range has no end
pub just_from : {T : Type 0} (bytes : T → List ℕ) (terms part : List T) (start : List ℕ) (n : ℕ) → n ≤ length terms → IsPartitionPoint (λ t. is_below (bytes t) start ≡ true) (λ t. is_below (bytes t) start ≡ false) terms n → part ≡ drop n terms
    → HasJust bytes (IsInRange start None) terms part
just_from bytes terms part start n within point is = record {
  start = n;
  end = length terms;
  order = within;
  inside = omega arith;
  is_part = is ∙ sym (take_all (length terms - n) (drop n terms) (omega (arith, length-drop n terms)));
  before = λ k d low high one. not_from start (bytes (get_or terms k d)) (point.0 k d low high) one.0;
  all = λ k d low high. (is_from start (bytes (get_or terms k d)) (point.1 k d low high), tt);
  behind = λ k d low high. absurd (omega (arith, low, high));
}

-- or one
pub just_between : {T : Type 0} (bytes : T → List ℕ) (terms part : List T) (start : List ℕ) (end : Vec ℕ) (n m : ℕ) → n ≤ length terms → m ≤ length (drop n terms)
    → IsPartitionPoint (λ t. is_below (bytes t) start ≡ true) (λ t. is_below (bytes t) start ≡ false) terms n
    → IsPartitionPoint (λ t. is_below (bytes t) end.items ≡ true) (λ t. is_below (bytes t) end.items ≡ false) (drop n terms) m → part ≡ take m (drop n terms) → HasJust bytes (IsInRange start (Some end)) terms part
just_between {T} bytes terms part start end n m within more point last is = record {
  start = n;
  end = n + m;
  order = omega arith;
  inside = omega (arith, within, more, length-drop n terms);
  is_part = is ∙ ap (λ k. take k (drop n terms)) (let same : m ≡ (n + m) - n = omega arith in same);
  before = λ k d low high one. not_from start (bytes (get_or terms k d)) (point.0 k d low high) one.0;
  all = λ k d low high. (
    is_from start (bytes (get_or terms k d)) (point.1 k d low (omega (arith, high, within, more, length-drop n terms))),
    at k d low (λ t. is_below (bytes t) end.items ≡ true) (last.0 (k - n) d (omega arith) (omega (arith, low, high))),
  );
  behind = λ k d low high one.
      let past : is_below (bytes (get_or terms k d)) end.items ≡ false = at k d (omega (arith, low)) (λ t. is_below (bytes t) end.items ≡ false) (last.1 (k - n) d (omega (arith, low)) (omega (arith, high, low, length-drop n terms))) in
      let both : true ≡ false = sym one.1 ∙ past in
      cc;
}
  where
    at : (k : ℕ) (d : T) → n ≤ k → (P : T → Type 0) → P (get_or (drop n terms) (k - n) d) → P (get_or terms k d)
    at k d low P h =
        let same : n + (k - n) ≡ k = omega (arith, low) in
        subst P (get_or-drop n terms (k - n) d ∙ ap (λ i. get_or terms i d) same) h
