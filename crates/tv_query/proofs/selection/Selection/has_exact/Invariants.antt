use Rattle.std.proofs.Common.{◌≡◌, ◌↔◌}
use Rattle.std.specs.List.{Any}
use Rattle.tv_query.proofs.selection.Selection.has_exact.Given as goal

abbrev pub invariant-loop-exact : goal.invariant-loop-exact
invariant-loop-exact l = record {
  can_next : (goal.iterator-loop-exact).can_next l.exact-iterator;
  is_finite : (goal.iterator-loop-exact).is_finite l.exact-iterator;
  same : Any (λ e. e ≡ l.term) l.self.exact ↔ Any (λ e. e ≡ l.term) l.exact-iterator;
}
