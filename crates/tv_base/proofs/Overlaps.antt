-- A part that is stored by two copies which may overlap.
use Rattle.std.proofs.Common.{◌≡◌, ℕ, ◌+◌, ◌-◌, ◌≤◌, List, ◌++◌, length, take, drop, ap, sym, ◌∙◌, arith, append_assoc, length-append, length-take-le, length-drop, take-add, take-take, take_at, drop_at, take_all, take-append-drop}
use Rattle.tv_base.specs.Buffer.{Stored}

-- what is stored where the last part ended stands after it
pub stored_then : {a b c xs ys : List ℕ} {at next end : ℕ} → Stored a b at xs next → Stored b c next ys end → Stored a c at (xs ++ ys) end
stored_then {a} {b} {c} {xs} {ys} {at} first second = record {
  filled = second.filled ∙ ap (λ l. l ++ ys) first.filled ∙ append_assoc (take at a) xs ys;
  ends = omega (arith, first.ends, second.ends, length-append xs ys);
  same_len = second.same_len ∙ first.same_len;
}

-- the first n bytes of what is stored are stored, too
stored_less : {a b xs : List ℕ} {at end : ℕ} (n : ℕ) → at ≤ length a → n ≤ length xs → Stored a b at xs end → Stored a b at (take n xs) (at + n)
stored_less {a} {b} {xs} {at} {end} n inside few stored =
    let before = length-take-le at a inside in
    record {
      filled = sym (take-take (at + n) end b (omega (arith, stored.ends))) ∙ ap (take (at + n)) stored.filled ∙ take-add at n (take at a ++ xs)
          ∙ (λ i. take_at (take at a) xs at before i ++ take n (drop_at (take at a) xs at before i));
      ends = omega (arith, length-take-le n xs few);
      same_len = stored.same_len;
    }

-- the first n bytes of a part and its last n, where they cover it
pub stored_ends : {a b c : List ℕ} {at next end : ℕ} (part : List ℕ) (n : ℕ) → at ≤ length a → n ≤ length part → length part ≤ n + n
    → Stored a b at (take n part) next → Stored b c (at + (length part - n)) (take n (drop (length part - n) part)) end → Stored a c at part end
stored_ends {a} {b} {c} {at} {next} {end} part n inside long short first last =
    let skipped = length part - n in
    let both = stored_then (stored_less skipped inside (omega (arith, length-take-le n part long)) first) last in
    let whole : take skipped (take n part) ++ take n (drop skipped part) ≡ part =
    (λ i. take-take skipped n part (omega arith) i ++ take_all n (drop skipped part) (omega (arith, length-drop skipped part)) i) ∙ take-append-drop skipped part in
    record { filled = both.filled ∙ ap (λ l. take at a ++ l) whole; ends = both.ends ∙ ap (λ l. at + length l) whole; same_len = both.same_len }
