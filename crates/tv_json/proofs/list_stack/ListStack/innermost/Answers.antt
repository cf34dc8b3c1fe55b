use Rattle.std.proofs.Common.{◌≡◌, ◌%◌, sym, ap, ◌∙◌, arith}
use Rattle.tv_json.specs.ListKinds.{innermost}
use Rattle.tv_json.proofs.ListKinds.{innermost-empty, innermost-kinds}
use Rattle.tv_json.proofs.list_stack.ListStack.innermost.Goals as goal

pub returns-then-self-eq0 : goal.returns-then-self-eq0
returns-then-self-eq0 c =
    sym (innermost-empty c.self.inside.depth c.self.inside.objects c.if-self-eq0.true) ∙ ap innermost c.self.view_is

pub returns-then-self-eq1 : goal.returns-then-self-eq1
returns-then-self-eq1 c =
    sym (innermost-kinds c.self.inside.depth c.self.inside.objects 1 c.if-self-eq0.false c.if-self-eq1.true) ∙ ap innermost c.self.view_is

pub returns-else-self-eq1 : goal.returns-else-self-eq1
returns-else-self-eq1 c =
    let even : c.self.inside.objects % 2 ≡ 0 = omega arith in
    sym (innermost-kinds c.self.inside.depth c.self.inside.objects 0 c.if-self-eq0.false even) ∙ ap innermost c.self.view_is
