use Rattle.std.proofs.Common.{◌≡◌, ◌+◌, ◌<◌, ◌≤◌, ◌∷◌, length, sym, ap, ap₂, ◌∙◌, arith}
use Rattle.tv_json.proofs.ListKinds.{kind_of, length-kinds, doubled_fits, kinds-pushed, is_full, has_room}
use Rattle.tv_json.proofs.list_stack.ListStack.push.Goals as goal
use Rattle.tv_json.proofs.list_stack.ListStack.push.Goals.{in-Array, in-Object}

pub returns-then-self-ge-MAX_DEPTH-clause-fits : goal.returns-then-self-ge-MAX_DEPTH-clause-fits
returns-then-self-ge-MAX_DEPTH-clause-fits c =
    let len : length c.args.self.now ≡ c.self.inside.depth = ap length (sym c.self.view_is) ∙ length-kinds c.self.inside.depth c.self.inside.objects in
    is_full (length c.args.self.now) (omega arith)

pub overflow_mul-self : goal.overflow_mul-self
overflow_mul-self c =
    omega (arith, doubled_fits c.self.inside.depth c.self.inside.objects 0 (omega arith) c.self.invariant.1 (omega arith))

pub overflow_add-self : goal.overflow_add-self
overflow_add-self c =
    let bit : c.match-kind.bit < 2 = elim c.match-kind.branch [ in-Array w ↦ omega arith | in-Object w ↦ omega arith ] in
    omega (arith, doubled_fits c.self.inside.depth c.self.inside.objects c.match-kind.bit (omega arith) c.self.invariant.1 bit)

pub returns-clause-fits : goal.returns-clause-fits
returns-clause-fits c =
    let len : length c.args.self.now ≡ c.self.inside.depth = ap length (sym c.self.view_is) ∙ length-kinds c.self.inside.depth c.self.inside.objects in
    has_room (length c.args.self.now) (omega arith)

pub returns-clause-pushed : goal.returns-clause-pushed
returns-clause-pushed c =
    let bit : c.match-kind.bit < 2 = elim c.match-kind.branch [ in-Array w ↦ omega arith | in-Object w ↦ omega arith ] in
    let kind : kind_of c.match-kind.bit ≡ c.args.kind =
    elim c.match-kind.branch [ in-Array w ↦ rw w.bit-is (cc) | in-Object w ↦ rw w.bit-is (cc) ] in
    kinds-pushed c.self.inside.depth c.self.inside.objects c.match-kind.bit bit
    ∙ ap₂ (λ k rest. k ∷ rest) kind c.self.view_is
