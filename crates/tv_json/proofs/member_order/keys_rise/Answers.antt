use Rattle.std.proofs.Common.{◌≡◌, ℕ, List, sym, subst, ◌∙◌}
use Rattle.std.specs.Cmp.Lexicographic.{slice_cmp}
use Rattle.std.specs.Ordering.{nat_cmp}
use Rattle.std.specs.Prelude.{Some, None}
use Rattle.tv_format.specs.Tree.{entries}
use Rattle.tv_json.specs.Rising.{Below, KeysRise, RiseFrom}
use Rattle.tv_json.proofs.member_order.keys_rise.Goals as goal

below : (a b k l : List ℕ) → a ≡ k → b ≡ l → Below a b → Below k l
below a b k l p q e = (λ i. slice_cmp nat_cmp (sym p i) (sym q i)) ∙ e

pub loop-key-init : goal.loop-key-init
loop-key-init g c =
    let first = g.met.N.Nested.object_steps c.args.members c.next.new.self (Some (c.in-Some.first, c.in-Some.field-0-1)) c.in-Some.ensures.steps in
    λ h. subst (λ es. KeysRise (entries es)) (sym first)
    (subst (λ s. RiseFrom (g.N.Key.AsStr.text c.in-Some.first) (entries (g.N.Nested.object_rest s))) c.into_iter-key-iterator.ensures.into_iter_gives h)

pub loop-key-preserved : goal.loop-key-preserved
loop-key-preserved g c =
    let first = g.met.N.Nested.object_steps c.loop-key.key-iterator c.next-in-loop-key.new.self (Some (c.in-Some-2.key, c.in-Some-2.field-0-1)) c.in-Some-2.ensures.steps in
    λ h. c.loop-key.invariant
    (subst (λ es. RiseFrom (g.N.Key.AsStr.text c.loop-key.last) (entries es)) (sym first)
    (below c.as_str.result.now c.as_str-in-loop-key.result.now (g.N.Key.AsStr.text c.loop-key.last) (g.N.Key.AsStr.text c.in-Some-2.key) c.as_str.ensures c.as_str-in-loop-key.ensures (c.is_below.ensures.0 c.if-not-is_below.false), h))

pub returns : goal.returns
returns g c =
    let none = (g.met.N.Nested.object_steps c.loop-key.key-iterator c.next-in-loop-key.new.self None c.in-None.ensures.steps).0 in
    λ rises. c.loop-key.invariant (subst (λ es. RiseFrom (g.N.Key.AsStr.text c.loop-key.last) (entries es)) (sym none) tt)
