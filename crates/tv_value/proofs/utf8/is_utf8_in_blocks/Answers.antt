use Rattle.std.proofs.Common.{◌≡◌, ℕ, ◌+◌, ◌-◌, ◌≤◌, ◌++◌, List, take, drop, replicate, arith, sym, ap, ◌∙◌, subst, append_assoc, take-add, zero-add}
use Rattle.std.specs.Prelude.{Bool, IsTrue, ◌↔◌}
use Rattle.std.specs.Str.{IsUtf8}
use Rattle.std.proofs.lemmas.List.{take-take}
use Rattle.simdutf8.specs.Tracks.{HasRead}
use Rattle.simdutf8.specs.declared.checker.Checker.{Checker}
use Rattle.simdutf8.proofs.StepsLemmas.{IsUtf8-append_ascii, IsAscii-replicate}
use Rattle.tv_value.proofs.utf8.is_utf8_in_blocks.Goals as goal

-- What a checker says that has read the first bytes, and a block with the last ones and zeros after them.
says : (bs block : List ℕ) (at left len : ℕ) (checker : Checker) (b : Bool) → at + left ≡ len → left ≤ 64 → block ≡ take left (take 64 (drop at bs)) ++ replicate (64 - left) 0 → HasRead checker (take at bs ++ block)
    → ((read : List ℕ) → HasRead checker read → IsTrue b ↔ IsUtf8 read) → IsTrue b ↔ IsUtf8 (take len bs)
says bs block at left len checker b all short is has said =
    let zeros = replicate {A = ℕ} (64 - left) 0 in
    let prefix : take left (take 64 (drop at bs)) ≡ take left (drop at bs) = take-take left 64 (drop at bs) short in
    let joined : take at bs ++ (take left (take 64 (drop at bs)) ++ zeros) ≡ take len bs ++ zeros =
    ap (λ z. take at bs ++ (z ++ zeros)) prefix ∙ sym (append_assoc (take at bs) (take left (drop at bs)) zeros) ∙ ap (λ z. z ++ zeros) (sym (take-add at left bs) ∙ ap (λ k. take k bs) all) in
    let ends = said _ (subst (HasRead checker) (ap (λ z. take at bs ++ z) is ∙ joined) has) in
    let pad = IsUtf8-append_ascii (take len bs) zeros (IsAscii-replicate (64 - left) 0 (omega arith)) in
    (λ t. pad.0 (ends.0 t), λ u. ends.1 (pad.1 u))

pub returns-then-bytes-ge64 : goal.returns-then-bytes-ge64
returns-then-bytes-ge64 c = says c.args.bytes.now _ 0 c.args.len c.args.len _ _ (zero-add c.args.len) c.if-len-le64.true c.prefix_of-block.ensures (c.step.ensures _ c.new.ensures) c.finish.ensures

pub loop-at-preserved : goal.loop-at-preserved
loop-at-preserved c =
    let blocks = c.loop-at.invariant.1 in
    (omega (arith, blocks.1, c.loop-at-test.true), (blocks.0 + 1, omega (arith, blocks.1)), rw take-add (c.step-checker.ensures _ c.loop-at.invariant.2))

pub returns : goal.returns
returns c =
    let at = c.loop-at.at in
    let within : at ≤ c.args.len = omega (arith, c.loop-at.invariant.0) in
    says c.args.bytes.now _ at (c.args.len - at) c.args.len _ _ (omega (arith, within)) (omega (arith, c.loop-at-test.false)) c.prefix_of-last.ensures (c.step-2.ensures _ c.loop-at.invariant.2) c.finish-2.ensures
