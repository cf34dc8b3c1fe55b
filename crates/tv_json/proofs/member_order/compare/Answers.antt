use Rattle.std.proofs.Common.{◌≡◌, ℕ, zero, suc, ◌<◌, List, [], ◌∷◌, ◌++◌, length, get_or, take, Ordering, Less, Equal, Greater, refl, sym, ap, ◌∙◌, arith}
use Rattle.std.proofs.lemmas.List.{take_more}
use Rattle.std.specs.Cmp.{nat_cmp_is}
use Rattle.std.specs.Cmp.Lexicographic.{slice_cmp}
use Rattle.std.specs.FinMap.{nat_cmp-IsAntisymmetric}
use Rattle.std.specs.Ordering.{nat_cmp, ordering_then}
use Rattle.tv_json.proofs.member_order.compare.Goals as goal

-- of two numbers that differ, the order decides
decided : (x y : ℕ) (rest : Ordering) → (x ≡ y → ⊥) → ordering_then (nat_cmp x y) rest ≡ nat_cmp x y
decided x y rest other = by (nat_cmp x y) refl
  where
    by : (o : Ordering) → nat_cmp x y ≡ o → ordering_then o rest ≡ o
    by Less is = refl
    by Equal is = absurd (other (nat_cmp-IsAntisymmetric x y is))
    by Greater is = refl

-- the first bytes that differ decide
first_other : (xs ys : List ℕ) (at : ℕ) → at < length xs → at < length ys → take at xs ≡ take at ys → (get_or xs at 0 ≡ get_or ys at 0 → ⊥) → slice_cmp nat_cmp xs ys ≡ nat_cmp (get_or xs at 0) (get_or ys at 0)
first_other [] ys at in_one in_two same other = absurd (omega (arith, in_one))
first_other (x ∷ xs) [] at in_one in_two same other = absurd (omega (arith, in_two))
first_other (x ∷ xs) (y ∷ ys) zero in_one in_two same other = decided x y (slice_cmp nat_cmp xs ys) other
first_other (x ∷ xs) (y ∷ ys) (suc at) in_one in_two same other =
    let first : x ≡ y = cc in
    let behind : take at xs ≡ take at ys = cc in
    ap (λ o. ordering_then o (slice_cmp nat_cmp xs ys)) (sym (nat_cmp_is x y Equal first)) ∙ first_other xs ys at (omega (arith, in_one)) (omega (arith, in_two)) behind other

pub returns-then-ones-at : goal.returns-then-ones-at
returns-then-ones-at c =
    let key = c.args.key.now in
    let other = c.args.other.now in
    c.cmp.ensures ∙ sym (first_other c.as_bytes-ones.result.now c.as_bytes-twos.result.now c.loop-at.at (omega arith) (omega arith) c.loop-at.invariant c.if-ones-at.true) ∙ (λ i. slice_cmp nat_cmp (c.as_bytes-ones.ensures.value i) (c.as_bytes-twos.ensures.value i))

pub loop-at-preserved : goal.loop-at-preserved
loop-at-preserved c =
    let at = c.loop-at.at in
    take_more c.as_bytes-ones.result.now at 0 (omega arith) ∙ (λ i. c.loop-at.invariant i ++ c.if-ones-at.false i ∷ []) ∙ sym (take_more c.as_bytes-twos.result.now at 0 (omega arith))
