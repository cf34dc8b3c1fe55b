use Rattle.std.proofs.Common.{◌≡◌, ◌≢◌, ◌∷◌, List, ℕ, rules}
use Rattle.tv_query.proofs.Wanting.{any_left}
use Rattle.tv_query.proofs.selection.Selection.has_exact.Goals as goal

pub loop-exact-preserved : goal.loop-exact-preserved
loop-exact-preserved c =
    let l = c.loop-exact in
    let cut : l.exact-iterator ≡ c.in-Some.exact.now ∷ c.next.new.self = search rules in
    let fails : c.in-Some.exact.now ≢ c.args.term.now = search rules in
    record { can_next = tt; is_finite = tt; same = any_left (λ (e : List ℕ). e ≡ c.args.term.now) c.args.self.now.exact l.exact-iterator c.next.new.self c.in-Some.exact.now cut fails l.invariant.same }
