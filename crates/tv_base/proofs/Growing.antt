-- How the memory of a buffer grows by one write after the other.
use Rattle.std.proofs.Common.{◌≡◌, ℕ, ◌+◌, ◌≤◌, List, ◌++◌, length, Result, Ok, Err, OnOk, arith, ap, subst, ◌∙◌}
use Rattle.tv_base.specs.Buffer.{Buffer, Extends, Grows, GrowsWithin}

pub grows_then : {most : ℕ} {a b c : Buffer} → GrowsWithin most a b → GrowsWithin most b c → GrowsWithin most a c
grows_then {most} {a} {b} {c} first second = record {
  same = λ h. second.same (omega (arith, h, first.same h)) ∙ first.same h;
  bound = omega (arith, first.bound, second.bound);
}

pub grows_more : {few most : ℕ} {a b : Buffer} → few ≤ most → GrowsWithin few a b → GrowsWithin most a b
grows_more {few} {most} {a} {b} h within = record {
  same = λ enough. within.same (omega (arith, h, enough));
  bound = omega (arith, h, within.bound);
}

pub grows_within : {T E : Type 0} (r : Result T E) (a b : Buffer) (need : ℕ) → Grows r a b need → GrowsWithin need a b
grows_within (Ok x) a b need h = record { same = λ enough. grind (arith, h, enough); bound = grind (arith, h) }
grows_within (Err e) a b need h = record { same = λ enough. h.0; bound = omega (arith, h.0) }

-- ---- what one write leaves, of bytes that are these

pub extends_ok : {T E : Type 0} (r : Result T E) (a b : Buffer) {bytes same : List ℕ} → bytes ≡ same → Extends r a b bytes → OnOk r (b.items ≡ a.items ++ same)
extends_ok (Ok x) a b e h = h.0 ∙ ap (λ z. a.items ++ z) e
extends_ok (Err x) a b e h = tt

pub extends_within : {T E : Type 0} (r : Result T E) (a b : Buffer) {bytes same : List ℕ} → bytes ≡ same → Extends r a b bytes → GrowsWithin (length a.items + length same) a b
extends_within {T} {E} (Ok x) a b {bytes} {same} e h = subst (λ n. GrowsWithin (length a.items + n) a b) (ap length e) (grows_within {T = T} {E = E} (Ok x) a b _ h.1)
extends_within {T} {E} (Err x) a b {bytes} {same} e h = subst (λ n. GrowsWithin (length a.items + n) a b) (ap length e) (grows_within {T = T} {E = E} (Err x) a b _ (h.1, h.2))
