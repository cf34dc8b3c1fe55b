use Rattle.std.proofs.Common.{◌≡◌, ◌<◌, ◌≤◌, ◌/◌, drop, ap, ◌∙◌, arith}
use Rattle.tv_json.specs.ListKinds.{kinds}
use Rattle.tv_json.proofs.ListKinds.{half_below, kinds-popped}
use Rattle.tv_json.proofs.list_stack.ListStack.pop.Goals as goal

pub invariant_of-self : goal.invariant_of-self
invariant_of-self c =
    let below = half_below c.self.inside.depth c.self.inside.objects c.self.invariant.1 in
    rw c.saturating_sub-self-inside.ensures (omega arith, below)

pub returns : goal.returns
returns c =
    ap (λ n. kinds n (c.self.inside.objects / 2)) c.saturating_sub-self-inside.ensures
    ∙ kinds-popped c.self.inside.depth c.self.inside.objects ∙ ap (drop 1) c.self.view_is
