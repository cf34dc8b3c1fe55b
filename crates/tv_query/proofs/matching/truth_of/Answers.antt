use Rattle.std.proofs.Common.{◌&&◌, ◌||◌, Bool, ap, sym, ◌∙◌}
use Rattle.tv_query.proofs.Running.{both_off}
use Rattle.tv_query.proofs.matching.truth_of.Goals as goal

pub returns-then-left : goal.returns-then-left
returns-then-left c =
    let right = c.last_truth-right in
    let left = c.last_truth-left in
    rw c.in-And.is (λ terms told. both_off (λ (a b : Bool). a && b) _ _ _ left.result right.result right.result right.ensures left.ensures (sym (ap (λ (l : Bool). l && right.result) c.if-left.true)))

pub returns-else-left : goal.returns-else-left
returns-else-left c =
    let right = c.last_truth-right in
    let left = c.last_truth-left in
    rw c.in-And.is (λ terms told. both_off (λ (a b : Bool). a && b) _ _ _ left.result right.result left.result right.ensures left.ensures (c.if-left.false ∙ sym (ap (λ (l : Bool). l && right.result) c.if-left.false)))

pub returns-then-left-2 : goal.returns-then-left-2
returns-then-left-2 c =
    let right = c.last_truth-right-in-Or in
    let left = c.last_truth-left-in-Or in
    rw c.in-Or.is (λ terms told. both_off (λ (a b : Bool). a || b) _ _ _ left.result right.result left.result right.ensures left.ensures (c.if-left-2.true ∙ sym (ap (λ (l : Bool). l || right.result) c.if-left-2.true)))

pub returns-else-left-2 : goal.returns-else-left-2
returns-else-left-2 c =
    let right = c.last_truth-right-in-Or in
    let left = c.last_truth-left-in-Or in
    rw c.in-Or.is (λ terms told. both_off (λ (a b : Bool). a || b) _ _ _ left.result right.result right.result right.ensures left.ensures (sym (ap (λ (l : Bool). l || right.result) c.if-left-2.false)))
